-- When a change can be made at once: each row that it names stands, its unique values are no other row's, and no row names one
-- that goes. That is what a file asks of each change whose tables refer to one another.
use Rattle.std.specs.Prelude.{◌≡◌, ℕ, Bool, true, false, ◌&&◌, not, ◌==◌, is_some, List, [], ◌∷◌, Option, Some, None}
use Rattle.std.specs.List.{list_any, AllByRecursion}
use Rattle.base_tables.specs.Tables.{row_at}
use Rattle.base_values.specs.Texts.{same_text}
use Rattle.model_catalogue.specs.declared.rows.Product.{Product}
use Rattle.model_catalogue.specs.CatalogueLists.{CatalogueLists}
use Rattle.model_catalogue.specs.QuotaAdded.{items_stand, variations_stand}
use Rattle.model_rows.specs.declared.rows.Checkin.{Checkin}
use Rattle.model_rows.specs.declared.rows.OrderPos.{OrderPos}
use Rattle.model_rows.specs.declared.rows.Voucher.{Voucher}
use Rattle.model_rows.specs.declared.changes.Change.{Change}
use Rattle.model_rows.specs.declared.changes.Change.TheVariants.{PutItem, PutVariation, PutQuota, PutVoucher, PutCart, PutOrder, PutPosition, PutWaiting, DropVoucher, DropCart, DropWaiting, PutCheckinList, PutCheckin}
use Rattle.model_rows.specs.Lists.{Lists}
use Rattle.model_rows.specs.Change.{after_change, after_all}
use Rattle.model_rows.specs.Named.{is_used}
use Rattle.model_rows.specs.Asked.{is_taken}
use Rattle.model_invariant.specs.Checkins.{has_item, IsCheckedIn, repeats}
use Rattle.model_invariant.specs.Sent.{voucher_stands}
use Rattle.model_invariant.specs.Targets.{item_stands, variation_stands, quota_stands}

-- of a product, the item and the variation, where it names one
abbrev pub product_stands : CatalogueLists → Product → Bool
product_stands catalogue product = item_stands catalogue (Some product.item) && variation_stands catalogue None product.variation

-- a product and a voucher, where one is named
abbrev pub IsSaleOf : Lists → Product → Option ℕ → Type 0
IsSaleOf lists product voucher = (product_stands lists.catalogue product ≡ true) × (voucher_stands lists.vouchers voucher ≡ true)

-- the number in its order is the same
abbrev pub same_place : OrderPos → OrderPos → Bool
same_place a b = a.order == b.order && a.positionid == b.positionid

-- a row of another id passes the test
abbrev pub another : {T : Type 0} → (T → ℕ) → ℕ → (T → Bool) → List T → Bool
another key id test rows = list_any (λ r. test r && not (key r == id)) rows

-- what a voucher names
pub record NamesRows (lists : Lists) (row : Voucher) : Type 0 where
  pub item : item_stands lists.catalogue row.item ≡ true
  pub variation : variation_stands lists.catalogue None row.variation ≡ true
  pub quota : quota_stands lists.catalogue row.quota ≡ true
  -- no other voucher has its code
  pub code : is_taken row.id row.code lists ≡ false

-- an order position's order, product and voucher
pub record IsOfRows (lists : Lists) (row : OrderPos) : Type 0 where
  pub order : is_some (row_at (λ o. o.id) row.order lists.orders) ≡ true
  pub sale : IsSaleOf lists row.product row.voucher
  -- no other position has its secret, nor its number in its order
  pub secret : another (λ p. p.id) row.id (λ p. same_text p.secret row.secret) lists.positions ≡ false
  pub place : another (λ p. p.id) row.id (λ p. same_place p row) lists.positions ≡ false

-- a check-in's list and position; no other one has its list, position and nonce
abbrev pub IsCheckinOf : Lists → Checkin → Type 0
IsCheckinOf lists row = IsCheckedIn lists.checkin_lists lists.positions row × (another (λ c. c.id) row.id (λ c. repeats c row) lists.checkins ≡ false)

-- the rows that a row that is put names stand, its unique values are no other row's, and nothing names a row that goes
abbrev pub CanBeMade : Change → Lists → Type 0
CanBeMade (PutItem row) lists = Unit {0}
CanBeMade (PutVariation row) lists = has_item lists.catalogue.items row.item ≡ true
CanBeMade (PutQuota row) lists = (items_stand row lists.catalogue ≡ true) × (variations_stand row lists.catalogue ≡ true)
CanBeMade (PutVoucher row) lists = NamesRows lists row
CanBeMade (PutCart row) lists = IsSaleOf lists row.product row.voucher
CanBeMade (PutOrder row) lists = Unit {0}
CanBeMade (PutPosition row) lists = IsOfRows lists row
CanBeMade (PutWaiting row) lists = IsSaleOf lists row.product row.voucher
CanBeMade (PutCheckinList row) lists = AllByRecursion (λ id. has_item lists.catalogue.items id ≡ true) row.limit_products
CanBeMade (PutCheckin row) lists = IsCheckinOf lists row
CanBeMade (DropVoucher id) lists = is_used id lists ≡ false
CanBeMade (DropCart id) lists = Unit {0}
CanBeMade (DropWaiting id) lists = Unit {0}

-- each of them, after those before it
abbrev pub EachCanBeMade : List Change → Lists → Type 0
EachCanBeMade [] lists = Unit {0}
EachCanBeMade (change ∷ changes) lists = CanBeMade change lists × EachCanBeMade changes (after_change change lists)

-- changes that can be made one after another, and where they lead
pub record LeadTo (changes : List Change) (before after : Lists) : Type 0 where
  pub can : EachCanBeMade changes before
  pub is : after_all changes before ≡ after
