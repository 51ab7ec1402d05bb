-- What one statement makes of the tables.
use Rattle.std.specs.Prelude.{◌≡◌, ℕ, true, not, ◌==◌, ◌∷◌, filter}
use Rattle.sqlite.specs.Effect.{IsDatabase}
use Rattle.sqlite.specs.State.{State}
use Rattle.file_rows.specs.declared.rows.ShopRow.{ShopRow}
use Rattle.model_catalogue.specs.declared.rows.Item.{Item}
use Rattle.model_catalogue.specs.declared.rows.Variation.{Variation}
use Rattle.file_rows.specs.declared.rows.QuotaRow.{QuotaRow}
use Rattle.model_catalogue.specs.declared.rows.Quota.{Quota}
use Rattle.file_rows.specs.declared.rows.QuotaItem.{QuotaItem}
use Rattle.file_rows.specs.declared.rows.QuotaVariation.{QuotaVariation}
use Rattle.model_rows.specs.declared.rows.CartPos.{CartPos}
use Rattle.model_rows.specs.declared.rows.Order.{Order}
use Rattle.model_rows.specs.declared.rows.OrderPos.{OrderPos}
use Rattle.file_rows.specs.declared.rows.PositionRow.{PositionRow}
use Rattle.model_rows.specs.declared.rows.Voucher.{Voucher}
use Rattle.file_rows.specs.declared.rows.VoucherHead.{VoucherHead}
use Rattle.model_rows.specs.declared.rows.Waiting.{Waiting}
use Rattle.file_rows.specs.declared.rows.ListRow.{ListRow}
use Rattle.model_rows.specs.declared.rows.CheckinList.{CheckinList}
use Rattle.file_rows.specs.declared.rows.ListItem.{ListItem}
use Rattle.model_rows.specs.declared.rows.Checkin.{Checkin}
use Rattle.model_rows.specs.declared.count_rows.QuotaCount.{QuotaCount}
use Rattle.model_rows.specs.declared.count_rows.VoucherCount.{VoucherCount}
use Rattle.file_rows.specs.declared.rows.CountRow.{CountRow}
use Rattle.file_rows.specs.declared.rows.Token.{Token}
use Rattle.file_rows.specs.declared.rows.KeptRow.{KeptRow}
use Rattle.file_rows.specs.declared.rows.ReleaseRow.{ReleaseRow}
use Rattle.file_rows.specs.declared.rows.ExitRow.{ExitRow}
use Rattle.file_rows.specs.declared.rows.BudgetRow.{BudgetRow}
use Rattle.file_rows.specs.declared.rows.SpentRow.{SpentRow}
use Rattle.file_rows.specs.declared.rows.DiscountRow.{DiscountRow}
use Rattle.file_schema.specs.Tables.{schema}
use Rattle.file_rows.specs.Tables.{Tables, Holds}

-- inside a transaction over the schema
pub record IsInside (s : State) : Type 0 where
  pub known : s.now.schema ≡ schema
  pub inside : s.in_transaction ≡ true

-- the transaction goes on, over trees that list the schema, if they did; and whatever the tables held, if it is fit for this change, they hold what the change makes of it
pub record ChangesFit (Fits : Tables → Type 0) (change : Tables → Tables) (old new : State) : Type 0 where
  pub known : new.now.schema ≡ schema
  pub inside : new.in_transaction ≡ true
  pub committed : new.committed ≡ old.committed
  pub listed : IsDatabase old.now → IsDatabase new.now
  pub holds : (t : Tables) → Fits t → Holds old.now.trees t → Holds new.now.trees (change t)

-- the transaction goes on, over trees that list the schema, if they did; and whatever the tables held, they hold what the change makes of
-- it
pub record Changes (change : Tables → Tables) (old new : State) : Type 0 where
  pub known : new.now.schema ≡ schema
  pub inside : new.in_transaction ≡ true
  pub committed : new.committed ≡ old.committed
  pub listed : IsDatabase old.now → IsDatabase new.now
  pub holds : (t : Tables) → Holds old.now.trees t → Holds new.now.trees (change t)

-- ---- a row more, and no row of an id

-- the tables with one more row of the shop
abbrev pub with_shop : ShopRow → Tables → Tables
with_shop w t = record t { shop = w ∷ t.shop }

-- by the id 1, which each row of the shop has, none of them is left; by any other id all are
abbrev pub without_shop : ℕ → Tables → Tables
without_shop id t = record t { shop = filter (λ r. not (1 == id)) t.shop }

-- the tables with one more item; its variations are rows of their own
abbrev pub with_item : Item → Tables → Tables
with_item w t = record t { items = w ∷ t.items }

-- the tables without an item of this id
abbrev pub without_item : ℕ → Tables → Tables
without_item id t = record t { items = filter (λ r. not (r.id == id)) t.items }

-- the tables with one more variation
abbrev pub with_variation : Variation → Tables → Tables
with_variation w t = record t { variations = w ∷ t.variations }

-- the tables without a variation of this id
abbrev pub without_variation : ℕ → Tables → Tables
without_variation id t = record t { variations = filter (λ r. not (r.id == id)) t.variations }

-- a quota without its members
abbrev pub head_of_quota : Quota → QuotaRow
head_of_quota w = record { id = w.id; name = w.name; size = w.size }

-- the tables with one more quota; its members are links, which are rows of their own
abbrev pub with_quota : Quota → Tables → Tables
with_quota w t = record t { quotas = head_of_quota w ∷ t.quotas }

-- the tables without a quota of this id; its links stay
abbrev pub without_quota : ℕ → Tables → Tables
without_quota id t = record t { quotas = filter (λ r. not (r.id == id)) t.quotas }

-- the tables with one more link from a quota to an item
abbrev pub with_quota_item : QuotaItem → Tables → Tables
with_quota_item w t = record t { quota_items = w ∷ t.quota_items }

-- the tables without a link from a quota to an item that has this row number
abbrev pub without_quota_item : ℕ → Tables → Tables
without_quota_item id t = record t { quota_items = filter (λ r. not (r.rowid == id)) t.quota_items }

-- the tables with one more link from a quota to a variation
abbrev pub with_quota_variation : QuotaVariation → Tables → Tables
with_quota_variation w t = record t { quota_variations = w ∷ t.quota_variations }

-- the tables without a link from a quota to a variation that has this row number
abbrev pub without_quota_variation : ℕ → Tables → Tables
without_quota_variation id t = record t { quota_variations = filter (λ r. not (r.rowid == id)) t.quota_variations }

-- a voucher as its row has it
abbrev pub head_of_voucher : Voucher → VoucherHead
head_of_voucher w = record {
  id = w.id;
  code = w.code;
  max_usages = w.max_usages;
  valid_until = w.valid_until;
  block_quota = w.block_quota;
  allow_ignore_quota = w.allow_ignore_quota;
  price_mode = w.price_mode;
  value = w.value;
  item = w.item;
  variation = w.variation;
  quota = w.quota;
  tag = w.tag;
  comment = w.comment;
}

-- the tables with one more cart position
abbrev pub with_cart : CartPos → Tables → Tables
with_cart w t = record t { carts = w ∷ t.carts }

-- the tables without a cart position of this id
abbrev pub without_cart : ℕ → Tables → Tables
without_cart id t = record t { carts = filter (λ r. not (r.id == id)) t.carts }

-- the tables with one more order; its positions are rows of their own
abbrev pub with_order : Order → Tables → Tables
with_order w t = record t { orders = w ∷ t.orders }

-- the tables without an order of this number; its positions stay
abbrev pub without_order : ℕ → Tables → Tables
without_order id t = record t { orders = filter (λ r. not (r.id == id)) t.orders }

-- an order position as its row has it
abbrev pub head_of_position : OrderPos → PositionRow
head_of_position w = record { id = w.id; order = w.order; positionid = w.positionid; product = w.product; price = w.price; voucher = w.voucher; secret = w.secret }

-- the tables with one more order position
abbrev pub with_position : OrderPos → Tables → Tables
with_position w t = record t { positions = head_of_position w ∷ t.positions }

-- the tables without an order position of this id
abbrev pub without_position : ℕ → Tables → Tables
without_position id t = record t { positions = filter (λ r. not (r.id == id)) t.positions }

-- the tables with one more entry of the waiting list
abbrev pub with_waiting : Waiting → Tables → Tables
with_waiting w t = record t { waiting = w ∷ t.waiting }

-- the tables without an entry of the waiting list that has this id
abbrev pub without_waiting : ℕ → Tables → Tables
without_waiting id t = record t { waiting = filter (λ r. not (r.id == id)) t.waiting }

-- a check-in list without its items
abbrev pub head_of_list : CheckinList → ListRow
head_of_list w = record { id = w.id; name = w.name; all_products = w.all_products; include_pending = w.include_pending; allow_multiple_entries = w.allow_multiple_entries; allow_entry_after_exit = w.allow_entry_after_exit }

-- the tables with one more check-in list; its items are links, which are rows of their own
abbrev pub with_list : CheckinList → Tables → Tables
with_list w t = record t { checkin_lists = head_of_list w ∷ t.checkin_lists }

-- the tables without a check-in list of this id; its links stay
abbrev pub without_list : ℕ → Tables → Tables
without_list id t = record t { checkin_lists = filter (λ r. not (r.id == id)) t.checkin_lists }

-- the tables with one more link from a check-in list to an item
abbrev pub with_list_item : ListItem → Tables → Tables
with_list_item w t = record t { list_items = w ∷ t.list_items }

-- the tables without a link from a check-in list to an item that has this row number
abbrev pub without_list_item : ℕ → Tables → Tables
without_list_item id t = record t { list_items = filter (λ r. not (r.rowid == id)) t.list_items }

-- the tables with one more check-in
abbrev pub with_checkin : Checkin → Tables → Tables
with_checkin w t = record t { checkins = w ∷ t.checkins }

-- the tables without a check-in of this id
abbrev pub without_checkin : ℕ → Tables → Tables
without_checkin id t = record t { checkins = filter (λ r. not (r.id == id)) t.checkins }

-- a quota's usage as its row has it
abbrev pub head_of_count : QuotaCount → CountRow
head_of_count w = record { quota = w.quota; paid = w.usage.paid; pending = w.usage.pending; blocked = w.usage.blocked; carts = w.usage.carts; waiting = w.usage.waiting }

-- the tables with the usage of one more quota
abbrev pub with_count : QuotaCount → Tables → Tables
with_count w t = record t { counts = head_of_count w ∷ t.counts }

-- the tables without the usage of the quota of this id
abbrev pub without_count : ℕ → Tables → Tables
without_count id t = record t { counts = filter (λ r. not (r.quota == id)) t.counts }

-- the tables with one more token
abbrev pub with_token : Token → Tables → Tables
with_token w t = record t { tokens = w ∷ t.tokens }

-- the tables without a token of this number
abbrev pub without_token : ℕ → Tables → Tables
without_token id t = record t { tokens = filter (λ r. not (r.id == id)) t.tokens }

-- the tables with one more kept answer
abbrev pub with_kept : KeptRow → Tables → Tables
with_kept w t = record t { kept = w ∷ t.kept }

-- the tables with one more quota that releases places
abbrev pub with_release : ReleaseRow → Tables → Tables
with_release w t = record t { releases = w ∷ t.releases }

-- the tables in which the quota of this id releases no places
abbrev pub without_release : ℕ → Tables → Tables
without_release id t = record t { releases = filter (λ r. not (r.quota == id)) t.releases }

-- of a quota's usage what its row of exits has
abbrev pub head_of_exit : QuotaCount → ExitRow
head_of_exit w = record { quota = w.quota; exited = w.usage.exited }

-- the tables with the exits of one more quota
abbrev pub with_exit : ExitRow → Tables → Tables
with_exit w t = record t { exits = w ∷ t.exits }

-- the tables without the exits of the quota of this id
abbrev pub without_exit : ℕ → Tables → Tables
without_exit id t = record t { exits = filter (λ r. not (r.quota == id)) t.exits }

-- the tables with the budget of one more voucher
abbrev pub with_budget : BudgetRow → Tables → Tables
with_budget w t = record t { budgets = w ∷ t.budgets }

-- the tables without a budget of the voucher of this id
abbrev pub without_budget : ℕ → Tables → Tables
without_budget id t = record t { budgets = filter (λ r. not (r.voucher_id == id)) t.budgets }

-- of a voucher's counts what its row of `voucher_spent` has
abbrev pub head_of_spent : VoucherCount → SpentRow
head_of_spent w = record { voucher_id = w.voucher; spent = w.spent }

-- the tables with what is spent of one more voucher
abbrev pub with_spent : SpentRow → Tables → Tables
with_spent w t = record t { spents = w ∷ t.spents }

-- the tables without what is spent of the voucher of this id
abbrev pub without_spent : ℕ → Tables → Tables
without_spent id t = record t { spents = filter (λ r. not (r.voucher_id == id)) t.spents }

-- the tables with the discount of one more order position
abbrev pub with_discount : DiscountRow → Tables → Tables
with_discount w t = record t { discounts = w ∷ t.discounts }

-- the tables without a discount of the order position of this id
abbrev pub without_discount : ℕ → Tables → Tables
without_discount id t = record t { discounts = filter (λ r. not (r.position_id == id)) t.discounts }
