-- What keeps variations, products and blocking vouchers fit to how their items are sold.
use Rattle.std.proofs.Common.{◌≡◌, ℕ, ◌+◌, ◌≢◌, ◌⊎◌, inl, inr, Bool, true, false, not, eqb, cond, List, [], ◌∷◌, Option, Some, None, refl, sym, ap, ◌∙◌, subst}
use Rattle.std.specs.Prelude.{◌||◌, is_some}
use Rattle.std.specs.List.{AllByRecursion}
use Rattle.std.proofs.lemmas.Bool.Decides.{eqb_tells}
use Rattle.base_tables.specs.Tables.{row_at, with_row}
use Rattle.base_tables.proofs.Edits.{row_at-with_row}
use Rattle.model_catalogue.specs.declared.rows.Item.{Item}
use Rattle.model_catalogue.specs.declared.rows.Product.{Product}
use Rattle.model_catalogue.specs.declared.rows.Quota.{Quota}
use Rattle.model_catalogue.specs.declared.rows.Variation.{Variation}
use Rattle.model_catalogue.specs.declared.requests.NewVariation.{NewVariation}
use Rattle.model_catalogue.specs.CatalogueLists.{CatalogueLists, variation_at}
use Rattle.model_catalogue.specs.ItemAdded.{is_varied, variation_rows}
use Rattle.model_rows.specs.declared.rows.OrderPos.{OrderPos}
use Rattle.model_rows.specs.declared.rows.Voucher.{Voucher}
use Rattle.model_rows.specs.declared.rows.CartPos.{CartPos}
use Rattle.model_rows.specs.declared.rows.Order.{Order}
use Rattle.model_rows.specs.declared.changes.Change.TheVariants.{PutItem, PutVariation, PutQuota, PutVoucher, PutCart, PutOrder, PutPosition, DropVoucher, DropCart}
use Rattle.model_rows.specs.Lists.{Lists}
use Rattle.model_rows.specs.Change.{after_change}
use Rattle.model_invariant.specs.Varied.{sold_as, is_sold_as, is_plain, is_of_varied, names_as_sold, is_named_as_sold, IsProduct, AllProducts, is_whole}
use Rattle.model_rows.proofs.EachRow.{all_weaker, all-with_row, all-without_row}
use Rattle.model_invariant.proofs.Stays.{passes_still}
use Rattle.model_invariant.proofs.Targets.{variation_still}

-- an item that is put is sold as the one in its place was
module _ (row : Item) (items : List Item) (as_before : (test : Bool → Bool) → is_sold_as test row.id items ≡ true → test row.varied ≡ true) where
  abbrev later : List Item
  later = with_row (λ r. r.id) row items

  stays : (test : Bool → Bool) (id : ℕ) → is_sold_as test id items ≡ true → is_sold_as test id later ≡ true
  stays test id h = passes_still (λ (r : Item). r.id) (sold_as test) row items (as_before test) id h

  plain_stays : (name : Option ℕ) → is_plain items name ≡ true → is_plain later name ≡ true
  plain_stays None h = h
  plain_stays (Some id) h = stays (λ varied. not varied) id h

  by_parts : (blocks quota variation : Bool) (name : Option ℕ) → (not blocks || (quota || (variation || is_plain items name))) ≡ true → (not blocks || (quota || (variation || is_plain later name))) ≡ true
  by_parts false quota variation name h = refl
  by_parts true true variation name h = refl
  by_parts true false true name h = refl
  by_parts true false false name h = plain_stays name h

  pub varied_stay : (rows : List Variation) → AllByRecursion (λ v. is_of_varied items v ≡ true) rows → AllByRecursion (λ v. is_of_varied later v ≡ true) rows
  varied_stay rows h = all_weaker (λ v. is_of_varied items v ≡ true) (λ v. is_of_varied later v ≡ true) (λ v e. stays (λ varied. varied) v.item e) rows h

  sold_still : (product : Product) → is_named_as_sold items product ≡ true → is_named_as_sold later product ≡ true
  sold_still product h = stays (names_as_sold product.variation) product.item h

  pub whole_stay : (rows : List Voucher) → AllByRecursion (λ v. is_whole items v ≡ true) rows → AllByRecursion (λ v. is_whole later v ≡ true) rows
  whole_stay rows h = all_weaker (λ v. is_whole items v ≡ true) (λ v. is_whole later v ≡ true) (λ v e. by_parts v.block_quota (is_some v.quota) (is_some v.variation) v.item e) rows h

-- what an item that was put is sold by
pub put_sold_as : (row : Item) (items : List Item) (test : Bool → Bool) → test row.varied ≡ true → is_sold_as test row.id (with_row (λ r. r.id) row items) ≡ true
put_sold_as row items test h = ap (sold_as test) (row_at-with_row (λ r. r.id) row.id row items) ∙ by_own (eqb_tells row.id row.id)
  where
    by_own : ((eqb row.id row.id ≡ true) × (row.id ≡ row.id)) ⊎ ((eqb row.id row.id ≡ false) × (row.id ≢ row.id)) → sold_as test (cond (eqb row.id row.id) (Some row) (row_at (λ r. r.id) row.id items)) ≡ true
    by_own (inl same) = rw same.0 h
    by_own (inr other) = absurd (other.1 refl)

-- variations of this item, which is sold by them
abbrev pub AreOf : Item → List Variation → Type 0
AreOf item rows = AllByRecursion (λ v. (v.item ≡ item.id) × (item.varied ≡ true)) rows

pub put_of_varied : (row : Item) (items : List Item) (rows : List Variation) → AreOf row rows → AllByRecursion (λ v. is_of_varied (with_row (λ r. r.id) row items) v ≡ true) rows
put_of_varied row items rows h = all_weaker (λ v. (v.item ≡ row.id) × (row.varied ≡ true)) (λ v. is_of_varied (with_row (λ r. r.id) row items) v ≡ true) (λ v known. subst (λ (n : ℕ). is_sold_as (λ varied. varied) n (with_row (λ r. r.id) row items) ≡ true) (sym known.0) (put_sold_as row items (λ varied. varied) known.1)) rows h

-- those that are made with an item are
variations_of_it : (varied : Bool) → varied ≡ true → (new : List NewVariation) (item first : ℕ) → AllByRecursion (λ v. (v.item ≡ item) × (varied ≡ true)) (variation_rows new item first)
variations_of_it varied is [] item first = tt
variations_of_it varied is (variation ∷ variations) item first = ((refl, is), variations_of_it varied is variations item (first + 1))

pub made_of_it : (new : List NewVariation) (item first : ℕ) → AllByRecursion (λ v. (v.item ≡ item) × (is_varied new ≡ true)) (variation_rows new item first)
made_of_it [] item first = tt
made_of_it (variation ∷ variations) item first = variations_of_it true refl (variation ∷ variations) item first

-- products stay where the catalogue gets what leaves them as they are
module _ (lists : Lists) (catalogue : CatalogueLists) (stays : (product : Product) → IsProduct lists.catalogue product → IsProduct catalogue product) where
  products_by : AllProducts lists → AllProducts (record lists { catalogue = catalogue })
  products_by h = record {
    carts = all_weaker (λ c. IsProduct lists.catalogue c.product) (λ c. IsProduct catalogue c.product) (λ c p. stays c.product p) lists.carts h.carts;
    positions = all_weaker (λ c. IsProduct lists.catalogue c.product) (λ c. IsProduct catalogue c.product) (λ c p. stays c.product p) lists.positions h.positions;
    waiting = all_weaker (λ c. IsProduct lists.catalogue c.product) (λ c. IsProduct catalogue c.product) (λ c p. stays c.product p) lists.waiting h.waiting;
  }

-- an item that is sold as the one in its place was
pub products_put_item : (row : Item) (lists : Lists) → ((test : Bool → Bool) → is_sold_as test row.id lists.catalogue.items ≡ true → test row.varied ≡ true) → AllProducts lists → AllProducts (after_change (PutItem row) lists)
products_put_item row lists as_before h = products_by lists (after_change (PutItem row) lists).catalogue (λ product p. record { as_sold = sold_still row lists.catalogue.items as_before product p.as_sold; own = p.own }) h

-- a variation of a new id
pub products_put_variation : (row : Variation) (lists : Lists) → variation_at row.id lists.catalogue ≡ None → AllProducts lists → AllProducts (after_change (PutVariation row) lists)
products_put_variation row lists absent h = products_by lists (after_change (PutVariation row) lists).catalogue (λ product p. record { as_sold = p.as_sold; own = variation_still row lists.catalogue absent (Some product.item) product.variation p.own }) h

-- a quota
pub products_put_quota : (row : Quota) (lists : Lists) → AllProducts lists → AllProducts (after_change (PutQuota row) lists)
products_put_quota row lists h = products_by lists (after_change (PutQuota row) lists).catalogue (λ product p. record { as_sold = p.as_sold; own = p.own }) h

-- rows that change in a catalogue that stays
pub products_put_cart : (row : CartPos) (lists : Lists) → IsProduct lists.catalogue row.product → AllProducts lists → AllProducts (after_change (PutCart row) lists)
products_put_cart row lists p h = record { carts = all-with_row (λ (c : CartPos). c.id) (λ c. IsProduct lists.catalogue c.product) row lists.carts p h.carts; positions = h.positions; waiting = h.waiting }

pub products_drop_cart : (id : ℕ) (lists : Lists) → AllProducts lists → AllProducts (after_change (DropCart id) lists)
products_drop_cart id lists h = record { carts = all-without_row (λ (c : CartPos). c.id) (λ c. IsProduct lists.catalogue c.product) id lists.carts h.carts; positions = h.positions; waiting = h.waiting }

pub products_put_position : (row : OrderPos) (lists : Lists) → IsProduct lists.catalogue row.product → AllProducts lists → AllProducts (after_change (PutPosition row) lists)
products_put_position row lists p h = record { carts = h.carts; positions = all-with_row (λ (r : OrderPos). r.id) (λ r. IsProduct lists.catalogue r.product) row lists.positions p h.positions; waiting = h.waiting }

pub products_put_order : (row : Order) (lists : Lists) → AllProducts lists → AllProducts (after_change (PutOrder row) lists)
products_put_order row lists h = record { carts = h.carts; positions = h.positions; waiting = h.waiting }

pub products_put_voucher : (row : Voucher) (lists : Lists) → AllProducts lists → AllProducts (after_change (PutVoucher row) lists)
products_put_voucher row lists h = record { carts = h.carts; positions = h.positions; waiting = h.waiting }

pub products_drop_voucher : (id : ℕ) (lists : Lists) → AllProducts lists → AllProducts (after_change (DropVoucher id) lists)
products_drop_voucher id lists h = record { carts = h.carts; positions = h.positions; waiting = h.waiting }
