-- What is sold has a price and a discount that are amounts of money.
use Rattle.std.proofs.Common.{◌≡◌, ℕ, ◌+◌, ◌-◌, ◌*◌, ◌/◌, ◌≤◌, max, Bool, true, false, List, Option, Some, None, Ok, refl, subst, arith}
use Rattle.std.specs.Prelude.{IfSome, is_some, if◌then◌else◌}
use Rattle.std.proofs.lemmas.Nat.{mul-le}
use Rattle.base_values.proofs.Decided.{found, gave_it, gave_unit}
use Rattle.base_values.specs.Money.{IsMoney}
use Rattle.base_values.specs.Percent.{whole, left_of}
use Rattle.base_values.specs.Price.{price, price_within}
use Rattle.base_values.proofs.PriceWithin.{at_most}
use Rattle.base_tables.specs.Tables.{AreInOrder}
use Rattle.base_values.specs.Texts.{same_text}
use Rattle.base_values.specs.declared.price_mode.PriceMode.{PriceMode}
use Rattle.base_values.specs.declared.price_mode.PriceMode.TheVariants as modes
use Rattle.model_catalogue.specs.declared.rows.Item.{Item}
use Rattle.model_catalogue.specs.declared.rows.Product.{Product}
use Rattle.model_catalogue.specs.declared.rows.Variation.{Variation}
use Rattle.model_catalogue.specs.CatalogueLists.{item_at, variation_at, price_of, base_price_by, base_price}
use Rattle.model_rows.specs.declared.rows.OrderPos.{OrderPos}
use Rattle.model_rows.specs.declared.rows.Voucher.{Voucher}
use Rattle.model_rows.specs.Budgets.{left_after}
use Rattle.model_rows.specs.Lists.{Lists, State}
use Rattle.model_rows.specs.Named.{voucher_of}
use Rattle.model_rows.proofs.EachRow.{all-row_at}
use Rattle.model_rows.proofs.Found.{row_at_found}
use Rattle.model_invariant.specs.Limits.{IsValue, IsLimitedItem, IsLimitedVariation, IsLimitedVoucher, AllLimited}
use Rattle.model_commands.specs.FitRequests.{IsFitAsked}
use Rattle.model_commands.specs.declared.carts.Asked.{Asked}
use Rattle.decide_orders.specs.Usable.{usable}
use Rattle.model_invariant.proofs.Given.{given_or}
use Rattle.decide_orders.specs.declared.sold.Sold.{Sold}
use Rattle.decide_orders.specs.Sold.{sold_for, voucher_asked, price_with, discount_of}
use Rattle.decide_orders.proofs.SoldLemmas.{sold_is}

-- what a share leaves of an amount
left_money : (hundredths amount : ℕ) → IsMoney amount → IsMoney (left_of hundredths amount)
left_money hundredths amount its = no_more (amount * (whole - hundredths)) amount (mul-le amount (whole - hundredths) amount whole (omega arith) (omega arith)) its
  where
    no_more : (rest amount : ℕ) → rest ≤ amount * whole → IsMoney amount → IsMoney ((rest + 5000) / whole)
    no_more rest amount less its = omega (arith, less, its)

-- a price by the mode
price_money : (mode : PriceMode) (value : Option ℕ) (base : ℕ) → IfSome value (IsValue mode) → IsMoney base → IsMoney (price mode value base)
price_money mode None base its money = money
price_money modes.None (Some value) base its money = money
price_money modes.Set (Some value) base its money = its
price_money modes.Subtract (Some value) base its money = omega (arith, money)
price_money modes.Percent (Some value) base its money = left_money value base money

-- and within what is left of a budget
within_money : (mode : PriceMode) (value : Option ℕ) (base : ℕ) (left : Option ℕ) → IfSome value (IsValue mode) → IsMoney base → IsMoney (price_within mode value base left)
within_money mode value base left its money = no_more (price_within mode value base left) base (price mode value base) (at_most mode value base left) money (price_money mode value base its money)
  where
    no_more : (n a b : ℕ) → n ≤ max a b → IsMoney a → IsMoney b → IsMoney n
    no_more n a b le one other = omega (arith, le, one, other)

-- the base price with the voucher
with_voucher : (lists : Lists) (front : List OrderPos) (voucher : Option Voucher) (base : ℕ) → IfSome voucher IsLimitedVoucher → IsMoney base → IsMoney (price_with lists front voucher base)
with_voucher lists front None base its money = money
with_voucher lists front (Some voucher) base its money = within_money voucher.price_mode voucher.value base (left_after lists front voucher) its.value money

-- what is taken off a base price
off_money : (named : Bool) (base price : ℕ) → IsMoney base → IsMoney (if named then base - price else 0)
off_money true base price money = omega (arith, money)
off_money false base price money = omega arith

module _ (asked : Asked) (fit : IsFitAsked asked) (front : List OrderPos) (state : State) (order : AreInOrder (λ r. r.id) state.lists.vouchers) (limits : AllLimited state.lists) where
  -- a product's base price
  by_variation : (item : Item) → IsMoney item.default_price → (id : ℕ) (found : Option Variation) → variation_at id state.lists.catalogue ≡ found → IfSome (price_of item.default_price found) IsMoney
  by_variation item money id None is = tt
  by_variation item money id (Some variation) is =
      let its = all-row_at (λ (r : Variation). r.id) IsLimitedVariation id state.lists.catalogue.variations variation is limits.variations in
      given_or IsMoney variation.default_price item.default_price its.price money

  by_item : (variation : Option ℕ) (id : ℕ) (found : Option Item) → item_at id state.lists.catalogue ≡ found → IfSome (base_price_by variation found state.lists.catalogue) IsMoney
  by_item variation id None is = tt
  by_item None id (Some item) is = (all-row_at (λ (r : Item). r.id) IsLimitedItem id state.lists.catalogue.items item is limits.items).price
  by_item (Some variation) id (Some item) is = by_variation item (all-row_at (λ (r : Item). r.id) IsLimitedItem id state.lists.catalogue.items item is limits.items).price variation (variation_at variation state.lists.catalogue) refl

  base_money : (product : Product) → IfSome (base_price product state.lists.catalogue) IsMoney
  base_money product = by_item product.variation product.item (item_at product.item state.lists.catalogue) refl

  -- the voucher that is asked for
  asked_limited : (product : Product) (code : Option (List ℕ)) (voucher : Option Voucher) → voucher_asked code state product ≡ Ok voucher → IfSome voucher IsLimitedVoucher
  unfolding voucher_asked
  asked_limited product None voucher h = subst (λ (o : Option Voucher). IfSome o IsLimitedVoucher) (gave_it None voucher h) tt
  asked_limited product (Some code) voucher h =
      let (v, is, h1) = found (voucher_of code state.lists) _ _ h in
      let (able, h2) = gave_unit (usable state.lists.catalogue state.moment product v) _ h1 in
      let stands = row_at_found (λ (r : Voucher). r.id) (λ w. same_text w.code code) 0 state.lists.vouchers v order is in
      subst (λ (o : Option Voucher). IfSome o IsLimitedVoucher) (gave_it (Some v) voucher h2) (all-row_at (λ (r : Voucher). r.id) IsLimitedVoucher v.id state.lists.vouchers v stands limits.vouchers)

  pub sold_money : (sold : Sold) → sold_for asked front state ≡ Ok sold → IsMoney sold.price
  sold_money sold h =
      let s = sold_is asked front state sold h in
      let money = subst (λ (o : Option ℕ). IfSome o IsMoney) s.based (base_money s.product) in
      let its = with_voucher state.lists front s.voucher s.base (asked_limited s.product asked.voucher s.voucher s.may_use) money in
      subst (λ (x : Sold). IsMoney x.price) s.is (given_or IsMoney asked.price (price_with state.lists front s.voucher s.base) fit.price its)

  pub sold_discount : (sold : Sold) → sold_for asked front state ≡ Ok sold → IsMoney (discount_of sold)
  sold_discount sold h =
      let s = sold_is asked front state sold h in
      let money = subst (λ (o : Option ℕ). IfSome o IsMoney) s.based (base_money s.product) in
      let based : IsMoney sold.base = subst (λ (x : Sold). IsMoney x.base) s.is money in
      off_money (is_some sold.voucher) sold.base sold.price based
