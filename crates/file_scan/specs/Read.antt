-- What was read of a file, beside what its trees show and what tables hold: the rows of each table, in whatever order.
use Rattle.std.specs.Prelude.{◌≡◌, ◌≤◌, ℕ, List, [], ◌∷◌, map, IsPermutation}
use Rattle.sqlite_trees.specs.Tree.{Trees}
use Rattle.file_rows.specs.Rows.{item_row, variation_row, quota_row, quota_item_row, quota_variation_row, voucher_row, cart_row, order_row, position_row, waiting_row, list_row, list_item_row, checkin_row, count_row, token_row, kept_row, release_row, exit_row, budget_row, spent_row, discount_row}
use Rattle.file_rows.specs.Tables.{Tables}
use Rattle.file_rows.specs.declared.rows.BudgetRow.{BudgetRow}
use Rattle.file_rows.specs.declared.rows.DiscountRow.{DiscountRow}
use Rattle.file_rows.specs.declared.rows.ExitRow.{ExitRow}
use Rattle.file_rows.specs.declared.rows.ReleaseRow.{ReleaseRow}
use Rattle.file_rows.specs.declared.rows.SpentRow.{SpentRow}
use Rattle.file_scan.specs.Causes.{rows_at}
use Rattle.file_scan.specs.declared.file.FileTables.{FileTables}
use Rattle.file_rows.specs.declared.table_rows.CatalogueRows.{CatalogueRows}
use Rattle.file_rows.specs.declared.table_rows.SaleRows.{SaleRows}
use Rattle.file_rows.specs.declared.table_rows.DoorRows.{DoorRows}
use Rattle.file_rows.specs.declared.table_rows.OtherRows.{OtherRows}
use Rattle.file_rows.specs.declared.table_rows.TableRows.{TableRows}

-- ---- the trees show these rows

-- the trees show these items, variations, quotas and members of quotas, each table in some order
pub record HoldsCatalogue (db : Trees) (rows : CatalogueRows) : Type 0 where
  pub items : IsPermutation (map item_row rows.items.items) (rows_at db 1)
  pub variations : IsPermutation (map variation_row rows.variations.items) (rows_at db 2)
  pub quotas : IsPermutation (map quota_row rows.quotas.items) (rows_at db 3)
  pub quota_items : IsPermutation (map quota_item_row rows.quota_items.items) (rows_at db 4)
  pub quota_variations : IsPermutation (map quota_variation_row rows.quota_variations.items) (rows_at db 6)

-- the trees show these vouchers, carts, orders, their positions and waiting entries, each table in some order
pub record HoldsSales (db : Trees) (rows : SaleRows) : Type 0 where
  pub vouchers : IsPermutation (map voucher_row rows.vouchers.items) (rows_at db 8)
  pub carts : IsPermutation (map cart_row rows.carts.items) (rows_at db 10)
  pub orders : IsPermutation (map order_row rows.orders.items) (rows_at db 11)
  pub positions : IsPermutation (map position_row rows.positions.items) (rows_at db 12)
  pub waiting : IsPermutation (map waiting_row rows.waiting.items) (rows_at db 15)

-- the trees show these check-in lists, items of them and check-ins, each table in some order
pub record HoldsDoors (db : Trees) (rows : DoorRows) : Type 0 where
  pub checkin_lists : IsPermutation (map list_row rows.checkin_lists.items) (rows_at db 16)
  pub list_items : IsPermutation (map list_item_row rows.list_items.items) (rows_at db 17)
  pub checkins : IsPermutation (map checkin_row rows.checkins.items) (rows_at db 19)

-- the trees show these counts, tokens and kept answers, each table in some order
pub record HoldsOthers (db : Trees) (rows : OtherRows) : Type 0 where
  pub counts : IsPermutation (map count_row rows.counts.items) (rows_at db 21)
  pub tokens : IsPermutation (map token_row rows.tokens.items) (rows_at db 22)
  pub kept : IsPermutation (map kept_row rows.kept.items) (rows_at db 24)

-- the rows of the tables of the first version
pub record HoldsVersion1 (db : Trees) (rows : TableRows) : Type 0 where
  pub catalogue : HoldsCatalogue db rows.catalogue
  pub sales : HoldsSales db rows.sales
  pub doors : HoldsDoors db rows.doors
  pub others : HoldsOthers db rows.others

-- the rows of the tables that the second version brought
pub record HoldsVersion2 (db : Trees) (released : List ReleaseRow) (exited : List ExitRow) : Type 0 where
  pub releases : IsPermutation (map release_row released) (rows_at db 27)
  pub exits : IsPermutation (map exit_row exited) (rows_at db 28)

-- the rows of the tables that the third version brought
pub record HoldsVersion3 (db : Trees) (budgeted : List BudgetRow) (spent : List SpentRow) (discounted : List DiscountRow) : Type 0 where
  pub budgets : IsPermutation (map budget_row budgeted) (rows_at db 29)
  pub spents : IsPermutation (map spent_row spent) (rows_at db 30)
  pub discounts : IsPermutation (map discount_row discounted) (rows_at db 31)

-- the tables of the second version have no rows
pub record HasNoVersion2 (rows : TableRows) : Type 0 where
  pub releases : rows.catalogue.releases.items ≡ []
  pub exits : rows.others.exits.items ≡ []

-- the tables of the third version have no rows
pub record HasNoVersion3 (rows : TableRows) : Type 0 where
  pub budgets : rows.sales.budgets.items ≡ []
  pub spents : rows.others.spents.items ≡ []
  pub discounts : rows.sales.discounts.items ≡ []

-- the rows of all tables of this version, beside the shop's own; the tables that it hasn't have none
pub record HoldsRows (own : ℕ) (db : Trees) (rows : TableRows) : Type 0 where
  pub first : HoldsVersion1 db rows
  pub version2 : 2 ≤ own → HoldsVersion2 db rows.catalogue.releases.items rows.others.exits.items
  pub version3 : 3 ≤ own → HoldsVersion3 db rows.sales.budgets.items rows.others.spents.items rows.sales.discounts.items
  pub no_version2 : own ≤ 1 → HasNoVersion2 rows
  pub no_version3 : own ≤ 2 → HasNoVersion3 rows

-- what was read, as what tables hold
abbrev pub tables_of : FileTables → Tables
tables_of file = record {
  shop = file.shop ∷ [];
  items = file.tables.catalogue.items.items;
  variations = file.tables.catalogue.variations.items;
  quotas = file.tables.catalogue.quotas.items;
  quota_items = file.tables.catalogue.quota_items.items;
  quota_variations = file.tables.catalogue.quota_variations.items;
  vouchers = file.tables.sales.vouchers.items;
  carts = file.tables.sales.carts.items;
  orders = file.tables.sales.orders.items;
  positions = file.tables.sales.positions.items;
  waiting = file.tables.sales.waiting.items;
  checkin_lists = file.tables.doors.checkin_lists.items;
  list_items = file.tables.doors.list_items.items;
  checkins = file.tables.doors.checkins.items;
  counts = file.tables.others.counts.items;
  tokens = file.tables.others.tokens.items;
  kept = file.tables.others.kept.items;
  releases = file.tables.catalogue.releases.items;
  exits = file.tables.others.exits.items;
  budgets = file.tables.sales.budgets.items;
  spents = file.tables.others.spents.items;
  discounts = file.tables.sales.discounts.items;
}

-- ---- tables hold these rows

-- the tables hold these items, variations, quotas, members of quotas and releases, each in some order
pub record AreCatalogueRows (t : Tables) (rows : CatalogueRows) : Type 0 where
  pub items : IsPermutation t.items rows.items.items
  pub variations : IsPermutation t.variations rows.variations.items
  pub quotas : IsPermutation t.quotas rows.quotas.items
  pub quota_items : IsPermutation t.quota_items rows.quota_items.items
  pub quota_variations : IsPermutation t.quota_variations rows.quota_variations.items
  pub releases : IsPermutation t.releases rows.releases.items

-- the tables hold these vouchers, carts, orders, their positions, waiting entries, budgets and discounts, each in some order
pub record AreSaleRows (t : Tables) (rows : SaleRows) : Type 0 where
  pub vouchers : IsPermutation t.vouchers rows.vouchers.items
  pub carts : IsPermutation t.carts rows.carts.items
  pub orders : IsPermutation t.orders rows.orders.items
  pub positions : IsPermutation t.positions rows.positions.items
  pub waiting : IsPermutation t.waiting rows.waiting.items
  pub budgets : IsPermutation t.budgets rows.budgets.items
  pub discounts : IsPermutation t.discounts rows.discounts.items

-- the tables hold these check-in lists, items of them and check-ins, each in some order
pub record AreDoorRows (t : Tables) (rows : DoorRows) : Type 0 where
  pub checkin_lists : IsPermutation t.checkin_lists rows.checkin_lists.items
  pub list_items : IsPermutation t.list_items rows.list_items.items
  pub checkins : IsPermutation t.checkins rows.checkins.items

-- the tables hold these counts, tokens, kept answers, exits and what is spent of vouchers, each in some order
pub record AreOtherRows (t : Tables) (rows : OtherRows) : Type 0 where
  pub counts : IsPermutation t.counts rows.counts.items
  pub tokens : IsPermutation t.tokens rows.tokens.items
  pub kept : IsPermutation t.kept rows.kept.items
  pub exits : IsPermutation t.exits rows.exits.items
  pub spents : IsPermutation t.spents rows.spents.items

-- all tables beside the shop's own hold these rows, each in some order
pub record AreTableRows (t : Tables) (rows : TableRows) : Type 0 where
  pub catalogue : AreCatalogueRows t rows.catalogue
  pub sales : AreSaleRows t rows.sales
  pub doors : AreDoorRows t rows.doors
  pub others : AreOtherRows t rows.others

-- the shop has one row, which is this one, and the other tables hold these rows
pub record IsFileOf (t : Tables) (file : FileTables) : Type 0 where
  pub shop : t.shop ≡ file.shop ∷ []
  pub tables : AreTableRows t file.tables
