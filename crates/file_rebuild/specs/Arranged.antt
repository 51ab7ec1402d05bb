-- The box office that the rows of a file tell.
use Rattle.std.specs.Prelude.{◌≡◌, ℕ, Bool, true, false, List, [], ◌∷◌, map, IsPermutation}
use Rattle.std.specs.List.{zip}
use Rattle.base_tables.specs.Tables.{AreInOrder}
use Rattle.model_catalogue.specs.declared.rows.Quota.{Quota}
use Rattle.model_rows.specs.declared.rows.CheckinList.{CheckinList}
use Rattle.model_rows.specs.declared.rows.OrderPos.{OrderPos}
use Rattle.model_rows.specs.declared.rows.Voucher.{Voucher}
use Rattle.model_rows.specs.declared.count_rows.QuotaCount.{QuotaCount}
use Rattle.model_rows.specs.declared.count_rows.VoucherCount.{VoucherCount}
use Rattle.model_rows.specs.Lists.{Lists}
use Rattle.file_rows.specs.declared.rows.BudgetRow.{BudgetRow}
use Rattle.file_rows.specs.declared.rows.CountRow.{CountRow}
use Rattle.file_rows.specs.declared.rows.DiscountRow.{DiscountRow}
use Rattle.file_rows.specs.declared.rows.ExitRow.{ExitRow}
use Rattle.file_rows.specs.declared.rows.ListItem.{ListItem}
use Rattle.file_rows.specs.declared.rows.ListRow.{ListRow}
use Rattle.file_rows.specs.declared.rows.PositionRow.{PositionRow}
use Rattle.file_rows.specs.declared.rows.QuotaItem.{QuotaItem}
use Rattle.file_rows.specs.declared.rows.QuotaRow.{QuotaRow}
use Rattle.file_rows.specs.declared.rows.QuotaVariation.{QuotaVariation}
use Rattle.file_rows.specs.declared.rows.ReleaseRow.{ReleaseRow}
use Rattle.file_rows.specs.declared.rows.ShopRow.{ShopRow}
use Rattle.file_rows.specs.declared.rows.SpentRow.{SpentRow}
use Rattle.file_rows.specs.declared.rows.VoucherHead.{VoucherHead}
use Rattle.file_rows.specs.declared.rows.VoucherRow.{VoucherRow}
use Rattle.file_rows.specs.declared.table_rows.CatalogueRows.{CatalogueRows}
use Rattle.file_rows.specs.declared.table_rows.OtherRows.{OtherRows}
use Rattle.file_rows.specs.declared.table_rows.SaleRows.{SaleRows}
use Rattle.file_rows.specs.declared.table_rows.TableRows.{TableRows}
use Rattle.model_damage.specs.Rules.{File}
use Rattle.file_meaning.specs.Links.{Link, all_links}
use Rattle.file_meaning.specs.Rows.{OfficeRows, budget_in, budgets_of, discount_in, discounts_of, releases_of, voucher_of, position_of, usage_in}
use Rattle.file_meaning.specs.Stands.{AreOrdered}
use Rattle.file_rebuild.specs.Members.{members_told, members_of}

-- ---- rows as they were read

-- the row by which a quota has an item
abbrev pub item_link : QuotaItem → Link
item_link row = record { owner = row.quota; member = row.item }

-- the row by which a quota has a variation
abbrev pub variation_link : QuotaVariation → Link
variation_link row = record { owner = row.quota; member = row.variation }

-- a quota that releases places has a link to itself
abbrev pub release_link : ReleaseRow → Link
release_link row = record { owner = row.quota; member = row.quota }

-- the row by which a check-in list has an item
abbrev pub list_link : ListItem → Link
list_link row = record { owner = row.list; member = row.item }

-- the row by which a voucher has a budget
abbrev pub budget_link : BudgetRow → Link
budget_link row = record { owner = row.voucher_id; member = row.budget }

-- the row by which an order position has a discount
abbrev pub discount_link : DiscountRow → Link
discount_link row = record { owner = row.position_id; member = row.discount }

-- how often a voucher is redeemed, as its row says, where so much is spent of it
abbrev pub count_in : VoucherRow → ℕ → VoucherCount
count_in row spent = record { voucher = row.voucher.id; redeemed = row.redeemed; spent = spent }

-- the rows of the office
abbrev pub rows_in : TableRows → OfficeRows
rows_in tables = record {
  items = tables.catalogue.items.items;
  variations = tables.catalogue.variations.items;
  quotas = tables.catalogue.quotas.items;
  quota_items = map item_link tables.catalogue.quota_items.items;
  quota_variations = map variation_link tables.catalogue.quota_variations.items;
  quota_release = map release_link tables.catalogue.releases.items;
  vouchers = map (λ r. r.voucher) tables.sales.vouchers.items;
  voucher_budget = map budget_link tables.sales.budgets.items;
  carts = tables.sales.carts.items;
  orders = tables.sales.orders.items;
  positions = tables.sales.positions.items;
  position_discount = map discount_link tables.sales.discounts.items;
  waiting = tables.sales.waiting.items;
  checkin_lists = tables.doors.checkin_lists.items;
  list_items = map list_link tables.doors.list_items.items;
  checkins = tables.doors.checkins.items;
}

-- ---- rows that stand in the same places, put together

-- each row, joined with what stands in the same place
abbrev pub beside : {A B C : Type 0} → (A → B → C) → List A → List B → List C
beside join rows others = map (λ p. join p.0 p.1) (zip rows others)

-- there is at least one
abbrev pub is_any : List ℕ → Bool
is_any [] = false
is_any (n ∷ ns) = true

-- a quota of its row, with these items and these variations; it releases places where it has a release
abbrev pub quota_having : QuotaRow → List ℕ → List ℕ → List ℕ → Quota
quota_having row items variations releases = record {
  id = row.id;
  name = row.name;
  release_after_exit = is_any releases;
  size = row.size;
  items = items;
  variations = variations;
}

-- a check-in list of its row, with these items
abbrev pub list_having : ListRow → List ℕ → CheckinList
list_having row items = record {
  id = row.id;
  name = row.name;
  all_products = row.all_products;
  limit_products = items;
  include_pending = row.include_pending;
  allow_multiple_entries = row.allow_multiple_entries;
  allow_entry_after_exit = row.allow_entry_after_exit;
}

-- each quota's usage of its count and its exits
abbrev pub usages_beside : List CountRow → List ExitRow → List QuotaCount
usages_beside counts exits = beside (λ c e. usage_in c e.exited) counts exits

-- each voucher's count of its row and what is spent of it
abbrev pub uses_beside : List VoucherRow → List SpentRow → List VoucherCount
uses_beside rows spents = beside (λ r s. count_in r s.spent) rows spents

-- a voucher's count, where so much is spent of it
abbrev pub spending : VoucherCount → SpentRow → VoucherCount
spending count row = record count { spent = row.spent }

-- ---- the office that rows tell

-- a quota with the members that its links tell; it releases places where a link tells that it does
abbrev pub quota_of : List Link → List Link → List Link → QuotaRow → Quota
quota_of items variations releases row = quota_having row (members_of row.id items) (members_of row.id variations) (members_of row.id releases)

-- a check-in list with the items that its links tell
abbrev pub list_of : List Link → ListRow → CheckinList
list_of items row = list_having row (members_of row.id items)

-- a voucher with the budget that is told of it first, if one is
abbrev pub voucher_with : List Link → VoucherHead → Voucher
voucher_with budgets row = voucher_of (budget_in (members_told row.id budgets)) row

-- an order position with the discount that is told of it first; without one it is 0
abbrev pub position_with : List Link → PositionRow → OrderPos
position_with discounts row = position_of (discount_in (members_told row.id discounts)) row

-- the quotas that the tables of quotas tell
abbrev pub quotas_arranged : CatalogueRows → List Quota
quotas_arranged rows = map (quota_of (map item_link rows.quota_items.items) (map variation_link rows.quota_variations.items) (map release_link rows.releases.items)) rows.quotas.items

-- the vouchers that these rows tell, with these budgets
abbrev pub vouchers_arranged : List VoucherRow → List BudgetRow → List Voucher
vouchers_arranged rows budgets = map (λ r. voucher_with (map budget_link budgets) r.voucher) rows

-- the order positions that these rows tell, with these discounts
abbrev pub positions_arranged : List PositionRow → List DiscountRow → List OrderPos
positions_arranged rows discounts = map (position_with (map discount_link discounts)) rows

-- a link whose row isn't there tells nothing, and one that comes twice tells no more than once
abbrev pub told_by : OfficeRows → Lists
told_by rows = record {
  catalogue = record { items = rows.items; variations = rows.variations; quotas = map (quota_of rows.quota_items rows.quota_variations rows.quota_release) rows.quotas };
  vouchers = map (voucher_with rows.voucher_budget) rows.vouchers;
  carts = rows.carts;
  orders = rows.orders;
  positions = map (position_with rows.position_discount) rows.positions;
  waiting = rows.waiting;
  checkin_lists = map (list_of rows.list_items) rows.checkin_lists;
  checkins = rows.checkins;
}

-- with the shop's row, and the counters that stand beside the rows: each count with the exits in the same place, and each voucher's uses with what is
-- spent in the same place
abbrev pub file_arranged : ShopRow → TableRows → File
file_arranged shop tables = record {
  organizer = shop.organizer;
  event = shop.event;
  state = record { lists = told_by (rows_in tables); next = shop.next; moment = shop.moment };
  used = usages_beside tables.others.counts.items tables.others.exits.items;
  redeemed = uses_beside tables.sales.vouchers.items tables.others.spents.items;
}

-- ---- when rows of members, budgets and discounts are those of these rows

-- the rows of items, of variations and of releases are those of these quotas, each once
abbrev pub AreLinksOfQuotas : CatalogueRows → List Quota → Type 0
AreLinksOfQuotas rows quotas =
    (IsPermutation (map item_link rows.quota_items.items) (all_links (λ q. q.id) (λ q. q.items) quotas)
    × IsPermutation (map variation_link rows.quota_variations.items) (all_links (λ q. q.id) (λ q. q.variations) quotas))
    × IsPermutation (map release_link rows.releases.items) (all_links (λ q. q.id) releases_of quotas)

-- the budgets are those of these vouchers, each once
abbrev pub AreBudgetsOf : List BudgetRow → List Voucher → Type 0
AreBudgetsOf budgets vouchers = IsPermutation (map budget_link budgets) (all_links (λ v. v.id) budgets_of vouchers)

-- the discounts are those of these order positions, each once
abbrev pub AreDiscountsOf : List DiscountRow → List OrderPos → Type 0
AreDiscountsOf discounts positions = IsPermutation (map discount_link discounts) (all_links (λ p. p.id) discounts_of positions)

-- ---- when ids rise

-- ids rise in the tables of vouchers and of budgets
abbrev pub VouchersRise : List VoucherRow → List BudgetRow → Type 0
VouchersRise rows budgets = AreInOrder (λ r. r.voucher.id) rows × AreInOrder (λ r. r.voucher_id) budgets

-- ids rise in the tables of order positions and of discounts
abbrev pub PositionsRise : List PositionRow → List DiscountRow → Type 0
PositionsRise rows discounts = AreInOrder (λ r. r.id) rows × AreInOrder (λ r. r.position_id) discounts

-- ids rise in each table whose rows stand there as they were read
abbrev pub OthersRise : Lists → Type 0
OthersRise lists =
    AreInOrder (λ r. r.id) lists.catalogue.items × AreInOrder (λ r. r.id) lists.catalogue.variations × AreInOrder (λ r. r.id) lists.carts × AreInOrder (λ r. r.id) lists.orders × AreInOrder (λ r. r.id) lists.waiting × AreInOrder (λ r. r.id) lists.checkins

-- ids rise in the tables of vouchers and of order positions, and in those that have something of either
pub record SalesRise (rows : SaleRows) : Type 0 where
  pub vouchers : AreInOrder (λ r. r.voucher.id) rows.vouchers.items
  pub budgets : AreInOrder (λ r. r.voucher_id) rows.budgets.items
  pub positions : AreInOrder (λ r. r.id) rows.positions.items
  pub discounts : AreInOrder (λ r. r.position_id) rows.discounts.items

-- ids rise in the tables of counters
pub record CountsRise (rows : OtherRows) : Type 0 where
  pub counts : AreInOrder (λ r. r.quota) rows.counts.items
  pub exits : AreInOrder (λ r. r.quota) rows.exits.items
  pub spents : AreInOrder (λ r. r.voucher_id) rows.spents.items

-- ---- when counters are those of the rows

-- each count has its exits, and there are no others
abbrev pub AreExitsPaired : List CountRow → List ExitRow → Type 0
AreExitsPaired counts exits = map (λ r. r.quota) counts ≡ map (λ r. r.quota) exits

-- of each voucher it is told what is spent, and of no other
abbrev pub AreSpentsPaired : List VoucherRow → List SpentRow → Type 0
AreSpentsPaired vouchers spents = map (λ r. r.voucher.id) vouchers ≡ map (λ r. r.voucher_id) spents

-- each count has its exits and each voucher what is spent of it, and there are no others
pub record AreCountsPaired (vouchers : List VoucherRow) (rows : OtherRows) : Type 0 where
  pub exits : AreExitsPaired rows.counts.items rows.exits.items
  pub spents : AreSpentsPaired vouchers rows.spents.items

-- in all tables that were read each count has its exits and each voucher what is spent of it, and there are no others
abbrev pub ArePaired : TableRows → Type 0
ArePaired tables = AreCountsPaired tables.sales.vouchers.items tables.others

-- ids rise, those of the counters too
pub record IsInOrder (file : File) : Type 0 where
  pub lists : AreOrdered file.state.lists
  pub used : AreInOrder (λ c. c.quota) file.used
  pub redeemed : AreInOrder (λ c. c.voucher) file.redeemed

-- ids rise as the rows were read, where some counts may lack their exits, and some vouchers what is spent of them
pub record AreReadInOrder (shop : ShopRow) (tables : TableRows) : Type 0 where
  pub file : IsInOrder (file_arranged shop tables)
  pub sales : SalesRise tables.sales
  pub counts : CountsRise tables.others
