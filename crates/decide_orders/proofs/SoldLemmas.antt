-- What is known of what is sold: its product is named as its item is sold, and its voucher is for it.
use Rattle.std.proofs.Common.{◌≡◌, ℕ, true, List, Option, Some, None, Ok, sym, ap, ◌∙◌, subst}
use Rattle.std.specs.Prelude.{option_map}
use Rattle.std.specs.List.{AllByRecursion}
use Rattle.base_tables.specs.Tables.{AreInOrder}
use Rattle.base_values.proofs.Decided.{found, gave, gave_below, gave_it, gave_unit, passed}
use Rattle.base_values.specs.Texts.{same_text}
use Rattle.model_catalogue.specs.declared.rows.Product.{Product}
use Rattle.model_catalogue.specs.CatalogueLists.{CatalogueLists, product_of, base_price, is_active, is_sold}
use Rattle.model_rows.specs.declared.rows.OrderPos.{OrderPos}
use Rattle.model_rows.specs.declared.rows.Voucher.{Voucher}
use Rattle.model_rows.specs.Lists.{State}
use Rattle.model_rows.specs.Conditions.{is_live_voucher}
use Rattle.model_rows.specs.Fits.{fits, fits_if, is_fit}
use Rattle.model_rows.specs.Named.{voucher_of}
use Rattle.model_invariant.specs.Varied.{is_of_varied, AllVaried, IsProduct}
use Rattle.model_rows.proofs.Found.{row_at_found}
use Rattle.model_invariant.proofs.Products.{product_is}
use Rattle.model_commands.specs.declared.vouchers.VoucherRefusal.TheVariants.{Catalogue}
use Rattle.model_commands.specs.declared.carts.Asked.{Asked}
use Rattle.decide_orders.specs.declared.sold.Sold.{Sold}
use Rattle.decide_orders.specs.Sold.{sold_for, sold_at, price_with, product_for_sale, voucher_asked}
use Rattle.decide_orders.specs.Usable.{usable}

-- a voucher that may be used for a product stands, and is for it
asked_fits : (state : State) (order : AreInOrder (λ r. r.id) state.lists.vouchers) (product : Product) (asked : Option Voucher) (code : Option (List ℕ)) → voucher_asked code state product ≡ Ok asked → is_fit state.lists product (option_map (λ v. v.id) asked) ≡ true
unfolding voucher_asked
asked_fits state order product asked None h = ap (λ a. is_fit state.lists product (option_map (λ v. v.id) a)) (sym (gave_it None asked h))
asked_fits state order product asked (Some code) h =
    let (v, is, h1) = found (voucher_of code state.lists) _ _ h in
    let (able, h2) = gave_unit (usable state.lists.catalogue state.moment product v) _ h1 in
    let (live, u1) = passed (is_live_voucher state.moment v) _ _ able in
    let (fit, u2) = passed (fits state.lists.catalogue v product) _ _ u1 in
    let stands = ap (fits_if state.lists.catalogue product) (row_at_found (λ (r : Voucher). r.id) (λ w. same_text w.code code) 0 state.lists.vouchers v order is) in
    ap (λ a. is_fit state.lists product (option_map (λ v. v.id) a)) (sym (gave_it (Some v) asked h2)) ∙ stands ∙ fit

-- what is for sale is a product
for_sale_is_product : (lists : CatalogueLists) (of_varied : AllByRecursion (λ v. is_of_varied lists.items v ≡ true) lists.variations) (product : Product) (item : ℕ) (variation : Option ℕ) → product_for_sale item variation lists ≡ Ok product → IsProduct lists product
for_sale_is_product lists of_varied product item variation h =
    let (asked, is, h1) = gave (product_of item variation lists) _ h in
    let (active, h2) = passed (is_active asked lists) _ _ h1 in
    let (sold, h3) = passed (is_sold asked lists) _ _ h2 in
    product_is lists of_varied product item variation (is ∙ ap (λ (p : Product). Ok p) (gave_it asked product h3))

-- the product, the voucher and the base price of what is sold
pub record IsSoldFor (asked : Asked) (front : List OrderPos) (state : State) (sold : Sold) : Type 0 where
  pub product : Product
  pub voucher : Option Voucher
  pub base : ℕ
  pub for_sale : product_for_sale asked.item asked.variation state.lists.catalogue ≡ Ok product
  pub may_use : voucher_asked asked.voucher state product ≡ Ok voucher
  pub based : base_price product state.lists.catalogue ≡ Some base
  pub is : sold_at asked.price product voucher base (price_with state.lists front voucher base) ≡ sold

module _ (asked : Asked) (front : List OrderPos) (state : State) (sold : Sold) where
  pub sold_is : sold_for asked front state ≡ Ok sold → IsSoldFor asked front state sold
  unfolding sold_for
  sold_is h =
      let (product, for_sale, h1) = gave_below Catalogue (product_for_sale asked.item asked.variation state.lists.catalogue) _ h in
      let (voucher, may_use, h2) = gave (voucher_asked asked.voucher state product) _ h1 in
      let (base, based, h3) = found (base_price product state.lists.catalogue) _ _ h2 in
      record { product = product; voucher = voucher; base = base; for_sale = for_sale; may_use = may_use; based = based; is = gave_it (sold_at asked.price product voucher base (price_with state.lists front voucher base)) sold h3 }

  -- the voucher of what is sold, if it has one, stands and is for the product
  pub sold_fits : AreInOrder (λ r. r.id) state.lists.vouchers → sold_for asked front state ≡ Ok sold → is_fit state.lists sold.product sold.voucher ≡ true
  sold_fits order h =
      let s = sold_is h in
      subst (λ (x : Sold). is_fit state.lists x.product x.voucher ≡ true) s.is (asked_fits state order s.product s.voucher asked.voucher s.may_use)

  -- the product of what is sold is one
  pub sold_is_product : AllVaried state.lists → sold_for asked front state ≡ Ok sold → IsProduct state.lists.catalogue sold.product
  sold_is_product of_varied h =
      let s = sold_is h in
      subst (λ (x : Sold). IsProduct state.lists.catalogue x.product) s.is (for_sale_is_product state.lists.catalogue of_varied s.product asked.item asked.variation s.for_sale)
