-- What the tables of the file hold.
use Rattle.std.specs.Prelude.{◌≡◌, ℕ, List, [], ◌∷◌, map, length, take, drop}
use Rattle.std.specs.List.{AllByRecursion}
use Rattle.sqlite_value.specs.Order.{Row}
use Rattle.sqlite_trees.specs.Tree.{Trees}
use Rattle.file_rows.specs.declared.rows.ShopRow.{ShopRow}
use Rattle.model_catalogue.specs.declared.rows.Item.{Item}
use Rattle.model_catalogue.specs.declared.rows.Variation.{Variation}
use Rattle.file_rows.specs.declared.rows.QuotaRow.{QuotaRow}
use Rattle.file_rows.specs.declared.rows.QuotaItem.{QuotaItem}
use Rattle.file_rows.specs.declared.rows.QuotaVariation.{QuotaVariation}
use Rattle.file_rows.specs.declared.rows.VoucherRow.{VoucherRow}
use Rattle.model_rows.specs.declared.rows.CartPos.{CartPos}
use Rattle.model_rows.specs.declared.rows.Order.{Order}
use Rattle.file_rows.specs.declared.rows.PositionRow.{PositionRow}
use Rattle.model_rows.specs.declared.rows.Waiting.{Waiting}
use Rattle.file_rows.specs.declared.rows.ListRow.{ListRow}
use Rattle.file_rows.specs.declared.rows.ListItem.{ListItem}
use Rattle.model_rows.specs.declared.rows.Checkin.{Checkin}
use Rattle.file_rows.specs.declared.rows.CountRow.{CountRow}
use Rattle.file_rows.specs.declared.rows.Token.{Token}
use Rattle.file_rows.specs.declared.rows.KeptRow.{KeptRow}
use Rattle.file_rows.specs.declared.rows.ReleaseRow.{ReleaseRow}
use Rattle.file_rows.specs.declared.rows.ExitRow.{ExitRow}
use Rattle.file_rows.specs.declared.rows.BudgetRow.{BudgetRow}
use Rattle.file_rows.specs.declared.rows.SpentRow.{SpentRow}
use Rattle.file_rows.specs.declared.rows.DiscountRow.{DiscountRow}
use Rattle.file_schema.specs.Tables.{schema}
use Rattle.file_schema.specs.Parts.{Part, HoldParts}
use Rattle.file_schema.specs.Versions.{schema_of_version}
use Rattle.file_rows.specs.Rows.{shop_row, item_row, variation_row, quota_row, quota_item_row, quota_variation_row, voucher_row, cart_row, order_row, position_row, waiting_row, list_row, list_item_row, checkin_row, count_row, token_row, kept_row, release_row, exit_row, budget_row, spent_row, discount_row}

-- the rows of each table, in some order
pub record Tables : Type 0 where
  pub shop : List ShopRow
  pub items : List Item
  pub variations : List Variation
  pub quotas : List QuotaRow
  pub quota_items : List QuotaItem
  pub quota_variations : List QuotaVariation
  pub vouchers : List VoucherRow
  pub carts : List CartPos
  pub orders : List Order
  pub positions : List PositionRow
  pub waiting : List Waiting
  pub checkin_lists : List ListRow
  pub list_items : List ListItem
  pub checkins : List Checkin
  pub counts : List CountRow
  pub tokens : List Token
  pub kept : List KeptRow
  pub releases : List ReleaseRow
  pub exits : List ExitRow
  pub budgets : List BudgetRow
  pub spents : List SpentRow
  pub discounts : List DiscountRow

-- what the table in the tree of this number shows
abbrev part : ℕ → List Row → Part
part tree rows = record { tree = tree; rows = rows }

-- each table by the number of its tree, in the order of the schema
abbrev pub parts : Tables → List Part
parts t =
    part 0 (map shop_row t.shop)
    ∷ part 1 (map item_row t.items)
    ∷ part 2 (map variation_row t.variations)
    ∷ part 3 (map quota_row t.quotas)
    ∷ part 4 (map quota_item_row t.quota_items)
    ∷ part 6 (map quota_variation_row t.quota_variations)
    ∷ part 8 (map voucher_row t.vouchers)
    ∷ part 10 (map cart_row t.carts)
    ∷ part 11 (map order_row t.orders)
    ∷ part 12 (map position_row t.positions)
    ∷ part 15 (map waiting_row t.waiting)
    ∷ part 16 (map list_row t.checkin_lists)
    ∷ part 17 (map list_item_row t.list_items)
    ∷ part 19 (map checkin_row t.checkins)
    ∷ part 21 (map count_row t.counts)
    ∷ part 22 (map token_row t.tokens)
    ∷ part 24 (map kept_row t.kept)
    ∷ part 27 (map release_row t.releases)
    ∷ part 28 (map exit_row t.exits)
    ∷ part 29 (map budget_row t.budgets)
    ∷ part 30 (map spent_row t.spents)
    ∷ part 31 (map discount_row t.discounts) ∷ []

-- the file's trees show these rows
abbrev pub Holds : Trees → Tables → Type 0
Holds db t = HoldParts schema db (parts t)

-- how many tables a version has
abbrev pub tables_of : ℕ → ℕ
tables_of version = length (schema_of_version version).tables

-- the trees of a file of a version show these rows in the tables that it has, and the tables that it hasn't have none
pub record HoldsAt (version : ℕ) (db : Trees) (t : Tables) : Type 0 where
  pub shown : HoldParts (schema_of_version version) db (take (tables_of version) (parts t))
  pub none : AllByRecursion (λ (p : Part). p.rows ≡ []) (drop (tables_of version) (parts t))

-- no table has a row, not even the shop's own
abbrev pub no_rows : Tables
no_rows = record { shop = []; items = []; variations = []; quotas = []; quota_items = []; quota_variations = []; vouchers = []; carts = []; orders = []; positions = []; waiting = []; checkin_lists = []; list_items = []; checkins = []; counts = []; tokens = []; kept = []; releases = []; exits = []; budgets = []; spents = []; discounts = [] }
