-- What the statements of a commit make of the tables.
use Rattle.std.specs.Prelude.{ℕ, Bool, ◌+◌, not, ◌==◌, if◌then◌else◌, List, [], ◌∷◌, ◌++◌, length, map, filter, is_some}
use Rattle.base_tables.specs.Tables.{row_at}
use Rattle.model_catalogue.specs.declared.rows.Quota.{Quota}
use Rattle.model_rows.specs.declared.rows.CheckinList.{CheckinList}
use Rattle.model_rows.specs.declared.rows.OrderPos.{OrderPos}
use Rattle.model_rows.specs.declared.rows.Voucher.{Voucher}
use Rattle.model_rows.specs.declared.count_rows.QuotaCount.{QuotaCount}
use Rattle.model_rows.specs.declared.count_rows.VoucherCount.{VoucherCount}
use Rattle.model_rows.specs.declared.changes.Change.{Change}
use Rattle.model_rows.specs.declared.changes.Change.TheVariants.{PutItem, PutVariation, PutQuota, PutVoucher, PutCart, PutOrder, PutPosition, PutWaiting, DropVoucher, DropCart, DropWaiting, PutCheckinList, PutCheckin}
use Rattle.model_rows.specs.CountRows.{CountRows}
use Rattle.model_answers.specs.declared.kept.Kept.{Kept}
use Rattle.model_answers.specs.KeptAnswers.{lasts}
use Rattle.file_rows.specs.declared.rows.ShopRow.{ShopRow}
use Rattle.file_rows.specs.Changes.{head_of_voucher, with_shop, without_shop, with_item, without_item, with_variation, without_variation, with_quota, without_quota, with_cart, without_cart, with_order, without_order, with_position, without_position, with_waiting, without_waiting, with_list, without_list, with_checkin, without_checkin, with_count, without_count, head_of_exit, with_exit, without_exit, without_budget, head_of_spent, with_spent, without_spent, with_kept}
use Rattle.file_rows.specs.Tables.{Tables}
use Rattle.file_meaning.specs.Links.{are_just}
use Rattle.file_meaning.specs.Rows.{redeemed_in, releases_of, budgets_of, discounts_of}
use Rattle.file_meaning.specs.RowsAfter.{redeemed_of}

-- ---- vouchers, whose rows have a counter

-- a voucher takes the place of the one of its id, and keeps the counter; a new one begins with 0
abbrev pub put_voucher : Voucher → Tables → Tables
put_voucher w t = record t { vouchers = record { voucher = head_of_voucher w; redeemed = redeemed_of w.id (redeemed_in t) } ∷ filter (λ r. not (r.voucher.id == w.id)) t.vouchers }

-- the voucher's row of its budget, where it has one, in the place of the one that it had
abbrev pub put_budget : Voucher → Tables → Tables
put_budget w t = record t { budgets = map (λ n. record { voucher_id = w.id; budget = n }) (budgets_of w) ++ filter (λ r. not (r.voucher_id == w.id)) t.budgets }

-- no voucher has this id any more; its counter goes with it
abbrev pub without_voucher : ℕ → Tables → Tables
without_voucher id t = record t { vouchers = filter (λ r. not (r.voucher.id == id)) t.vouchers }

-- neither it nor its budget, nor what is spent of it
abbrev pub drop_voucher : ℕ → Tables → Tables
drop_voucher id t = without_voucher id (without_spent id (without_budget id t))

-- the counter of one voucher is set, and all else in the tables stays
abbrev pub set_redeemed : VoucherCount → Tables → Tables
set_redeemed c t = record t { vouchers = map (λ r. if r.voucher.id == c.voucher then record { voucher = r.voucher; redeemed = c.redeemed } else r) t.vouchers }

-- ---- links, whose rows are numbered from this number on

-- a link to each of these ids, with one row number after another, beside the links that are there
abbrev pub links_numbered : {R : Type 0} → (ℕ → ℕ → R) → ℕ → List ℕ → List R → List R
links_numbered row from [] rows = rows
links_numbered row from (id ∷ ids) rows = links_numbered row (from + 1) ids (row from id ∷ rows)

-- new links from a check-in list to each of these items
abbrev pub with_limits : ℕ → ℕ → List ℕ → Tables → Tables
with_limits list from ids t = record t { list_items = links_numbered (λ n id. record { rowid = n; list = list; item = id }) from ids t.list_items }

-- no link of this check-in list is left
abbrev pub without_limits : ℕ → Tables → Tables
without_limits list t = record t { list_items = filter (λ r. not (r.list == list)) t.list_items }

-- the links of an owner stay where they are just its members; else they go, and new ones come
abbrev pub put_links : {R : Type 0} → (owner member : R → ℕ) → (ℕ → ℕ → R) → ℕ → ℕ → List ℕ → List R → List R
put_links owner member row id from ids rows = if are_just ids (map member (filter (λ r. owner r == id) rows)) then rows else links_numbered row from ids (filter (λ r. not (owner r == id)) rows)

-- a quota's links to items are put to be just those of its members
abbrev pub put_items : ℕ → ℕ → List ℕ → Tables → Tables
put_items quota from ids t = record t { quota_items = put_links (λ r. r.quota) (λ r. r.item) (λ n id. record { rowid = n; quota = quota; item = id }) quota from ids t.quota_items }

-- a quota's links to variations are put to be just those of its members
abbrev pub put_variations : ℕ → ℕ → List ℕ → Tables → Tables
put_variations quota from ids t = record t { quota_variations = put_links (λ r. r.quota) (λ r. r.variation) (λ n id. record { rowid = n; quota = quota; variation = id }) quota from ids t.quota_variations }

-- the quota's row of releases, where it releases places, in the place of the one that it had
abbrev pub put_release : Quota → Tables → Tables
put_release w t = record t { releases = map (λ id. record { quota = id }) (releases_of w) ++ filter (λ r. not (r.quota == w.id)) t.releases }

-- a quota with its members in the place of those that it had
abbrev pub put_quota : Quota → ℕ → Tables → Tables
put_quota w from t = put_variations w.id (from + length w.items) w.variations (put_items w.id from w.items (put_release w (with_quota w (without_quota w.id t))))

-- a check-in list takes the place of the one of its id, and new links to its items the place of the old ones
abbrev pub put_list : CheckinList → ℕ → Tables → Tables
put_list w from t = with_limits w.id from w.limit_products (without_limits w.id (with_list w (without_list w.id t)))

-- ---- order positions

-- whether an order position of this id stands
abbrev pub has_position : ℕ → Tables → Bool
has_position id t = is_some (row_at (λ r. r.id) id t.positions)

-- the row of what was taken off the position's price, where something was, in the place of that of the position that stands; where none stands
-- there is no such row
abbrev pub put_discount : Bool → OrderPos → Tables → Tables
put_discount stands w t = record t { discounts = map (λ n. record { position_id = w.id; discount = n }) (discounts_of w) ++ (if stands then filter (λ r. not (r.position_id == w.id)) t.discounts else t.discounts) }

-- an order position takes the place of the one of its id, and its discount the place of that one's
abbrev pub put_position : OrderPos → Tables → Tables
put_position w t = put_discount (has_position w.id t) w (with_position w (without_position w.id t))

-- ---- changes

-- what is put takes the place of its id, and what is dropped is gone; new links are numbered from this number on
abbrev pub made_by : Change → ℕ → Tables → Tables
made_by (PutItem w) from t = with_item w (without_item w.id t)
made_by (PutVariation w) from t = with_variation w (without_variation w.id t)
made_by (PutQuota w) from t = put_quota w from t
made_by (PutVoucher w) from t = put_budget w (put_voucher w t)
made_by (PutCart w) from t = with_cart w (without_cart w.id t)
made_by (PutOrder w) from t = with_order w (without_order w.id t)
made_by (PutPosition w) from t = put_position w t
made_by (PutWaiting w) from t = with_waiting w (without_waiting w.id t)
made_by (DropVoucher id) from t = drop_voucher id t
made_by (DropCart id) from t = without_cart id t
made_by (DropWaiting id) from t = without_waiting id t
made_by (PutCheckinList w) from t = put_list w from t
made_by (PutCheckin w) from t = with_checkin w (without_checkin w.id t)

-- the row number that is free after a change; where a quota's links stay, the numbers that new ones would take are skipped
abbrev pub next_by : Change → ℕ → ℕ
next_by (PutQuota w) from = from + length w.items + length w.variations
next_by (PutCheckinList w) from = from + length w.limit_products
next_by _ from = from

-- the changes, one after another, each with the row numbers that those before it left free
abbrev pub changes_made : List Change → ℕ → Tables → Tables
changes_made [] from t = t
changes_made (change ∷ changes) from t = changes_made changes (next_by change from) (made_by change from t)

-- the row number that is free after these changes
abbrev pub next_after : List Change → ℕ → ℕ
next_after [] from = from
next_after (change ∷ changes) from = next_after changes (next_by change from)

-- ---- the rest of a commit

-- the shop's row takes the place of its only one
abbrev pub put_shop : ShopRow → Tables → Tables
put_shop w t = with_shop w (without_shop 1 t)

-- the row of what uses the quota of this count takes the place of the one that it had
abbrev pub put_count : QuotaCount → Tables → Tables
put_count c t = with_count c (without_count c.quota t)

-- and so does the row of how many of its tickets are out
abbrev pub put_exit : QuotaCount → Tables → Tables
put_exit c t = with_exit (head_of_exit c) (without_exit c.quota t)

-- the rows of a voucher's count: how often it is redeemed, in the voucher's row, and how much of it is spent
abbrev pub put_uses : VoucherCount → Tables → Tables
put_uses c t = with_spent (head_of_spent c) (without_spent c.voucher (set_redeemed c t))

-- a step is made for each of these, in order
abbrev pub each : {X : Type 0} → (X → Tables → Tables) → List X → Tables → Tables
each step [] t = t
each step (x ∷ xs) t = each step xs (step x t)

-- The counters of these vouchers are set, then those of these quotas, and then how many tickets are out, for the quotas alone where that differs.
-- All others stay.
abbrev pub with_counts : CountRows → Tables → Tables
with_counts counts t = each put_exit counts.exits (each put_count counts.quotas (each put_uses counts.vouchers t))

-- the answer that a commit keeps, if it keeps one, in a row of this number
abbrev pub with_listed : ℕ → List Kept → Tables → Tables
with_listed rowid [] t = t
with_listed rowid (k ∷ ks) t = with_kept (record { rowid = rowid; kept = k }) t

-- the answers that are past at this moment are kept no more
abbrev pub without_past : ℕ → Tables → Tables
without_past at t = record t { kept = filter (λ r. lasts at r.kept.at) t.kept }

-- what a commit makes of the tables
abbrev pub commit_made : ShopRow → List Change → CountRows → ℕ → List Kept → ℕ → Tables → Tables
commit_made shop changes counts from kept at t = without_past at (with_listed (next_after changes from) kept (without_past at (with_counts counts (changes_made changes from (put_shop shop t)))))
