-- The rows of a file that tell a box office: a list for each table, in any order.
use Rattle.std.specs.Prelude.{ℕ, if◌then◌else◌, ◌==◌, List, [], ◌∷◌, map, Option, Some, None, option_to_list}
use Rattle.model_catalogue.specs.declared.rows.Item.{Item}
use Rattle.model_catalogue.specs.declared.rows.Quota.{Quota}
use Rattle.model_catalogue.specs.declared.rows.Variation.{Variation}
use Rattle.model_rows.specs.declared.rows.Voucher.{Voucher}
use Rattle.model_rows.specs.declared.rows.CartPos.{CartPos}
use Rattle.model_rows.specs.declared.rows.Order.{Order}
use Rattle.model_rows.specs.declared.rows.OrderPos.{OrderPos}
use Rattle.model_rows.specs.declared.rows.Waiting.{Waiting}
use Rattle.model_rows.specs.declared.rows.Checkin.{Checkin}
use Rattle.model_rows.specs.declared.count_rows.QuotaCount.{QuotaCount}
use Rattle.model_rows.specs.declared.count_rows.VoucherCount.{VoucherCount}
use Rattle.file_rows.specs.declared.rows.CountRow.{CountRow}
use Rattle.file_rows.specs.declared.rows.QuotaRow.{QuotaRow}
use Rattle.file_rows.specs.declared.rows.ListRow.{ListRow}
use Rattle.file_rows.specs.declared.rows.PositionRow.{PositionRow}
use Rattle.file_rows.specs.declared.rows.VoucherHead.{VoucherHead}
use Rattle.file_rows.specs.Tables.{Tables}
use Rattle.file_meaning.specs.Links.{Link}

-- quotas and check-in lists are without their members, which are links; a quota that releases places has a link to itself; vouchers and order
-- positions are as their rows have them: a voucher's budget is a link, and so is what a voucher took off a position's price
pub record OfficeRows : Type 0 where
  pub items : List Item
  pub variations : List Variation
  pub quotas : List QuotaRow
  pub quota_items : List Link
  pub quota_variations : List Link
  pub quota_release : List Link
  pub vouchers : List VoucherHead
  pub voucher_budget : List Link
  pub carts : List CartPos
  pub orders : List Order
  pub positions : List PositionRow
  pub position_discount : List Link
  pub waiting : List Waiting
  pub checkin_lists : List ListRow
  pub list_items : List Link
  pub checkins : List Checkin

-- what the tables have of them
abbrev pub rows_of : Tables → OfficeRows
rows_of t = record {
  items = t.items;
  variations = t.variations;
  quotas = t.quotas;
  quota_items = map (λ r. record { owner = r.quota; member = r.item }) t.quota_items;
  quota_variations = map (λ r. record { owner = r.quota; member = r.variation }) t.quota_variations;
  quota_release = map (λ r. record { owner = r.quota; member = r.quota }) t.releases;
  vouchers = map (λ r. r.voucher) t.vouchers;
  voucher_budget = map (λ r. record { owner = r.voucher_id; member = r.budget }) t.budgets;
  carts = t.carts;
  orders = t.orders;
  positions = t.positions;
  position_discount = map (λ r. record { owner = r.position_id; member = r.discount }) t.discounts;
  waiting = t.waiting;
  checkin_lists = t.checkin_lists;
  list_items = map (λ r. record { owner = r.list; member = r.item }) t.list_items;
  checkins = t.checkins;
}

-- the one link of a quota that releases places, which names the quota itself
abbrev pub releases_of : Quota → List ℕ
releases_of quota = if quota.release_after_exit then quota.id ∷ [] else []

-- the one link of a voucher that has a budget, which tells the budget
abbrev pub budgets_of : Voucher → List ℕ
budgets_of voucher = option_to_list voucher.budget

-- the one link of an order position from whose price something was taken off, which tells how much
abbrev pub discounts_of : OrderPos → List ℕ
discounts_of position = if position.discount == 0 then [] else position.discount ∷ []

-- the budget that a voucher's links tell, if they tell one
abbrev pub budget_in : List ℕ → Option ℕ
budget_in [] = None
budget_in (n ∷ ns) = Some n

-- the discount that a position's links tell; without one it is 0
abbrev pub discount_in : List ℕ → ℕ
discount_in [] = 0
discount_in (n ∷ ns) = n

-- how often a voucher is redeemed
pub record Redeemed : Type 0 where
  pub voucher : ℕ
  pub redeemed : ℕ

-- of a voucher's counts what the voucher's row has
abbrev pub head_of_redeemed : VoucherCount → Redeemed
head_of_redeemed w = record { voucher = w.voucher; redeemed = w.redeemed }

-- how often each voucher is redeemed, as the tables tell
abbrev pub redeemed_in : Tables → List Redeemed
redeemed_in t = map (λ r. record { voucher = r.voucher.id; redeemed = r.redeemed }) t.vouchers

-- ---- what a row tells

-- a voucher as its row says, without the counter beside it, with this budget
abbrev pub voucher_of : Option ℕ → VoucherHead → Voucher
voucher_of budget w = record {
  id = w.id;
  code = w.code;
  max_usages = w.max_usages;
  valid_until = w.valid_until;
  block_quota = w.block_quota;
  allow_ignore_quota = w.allow_ignore_quota;
  price_mode = w.price_mode;
  value = w.value;
  item = w.item;
  variation = w.variation;
  quota = w.quota;
  tag = w.tag;
  comment = w.comment;
  budget = budget;
}

-- an order position as its row says, with this discount
abbrev pub position_of : ℕ → PositionRow → OrderPos
position_of discount w = record { id = w.id; order = w.order; positionid = w.positionid; product = w.product; price = w.price; voucher = w.voucher; secret = w.secret; discount = discount }

-- a quota's usage, of which so many tickets are out
abbrev pub usage_in : CountRow → ℕ → QuotaCount
usage_in w exited = record { quota = w.quota; usage = record { paid = w.paid; pending = w.pending; blocked = w.blocked; carts = w.carts; waiting = w.waiting; exited = exited } }

-- a voucher's counts, where so much of it is spent
abbrev pub uses_in : Redeemed → ℕ → VoucherCount
uses_in w spent = record { voucher = w.voucher; redeemed = w.redeemed; spent = spent }
