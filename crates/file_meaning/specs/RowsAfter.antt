-- What a change makes of the rows of a file.
use Rattle.std.specs.Prelude.{ℕ, if◌then◌else◌, List, ◌∷◌, ◌++◌, Option, Some, None, is_some}
use Rattle.base_tables.specs.Tables.{row_at, without_row}
use Rattle.model_rows.specs.declared.changes.Change.{Change}
use Rattle.model_rows.specs.declared.changes.Change.TheVariants.{PutItem, PutVariation, PutQuota, PutVoucher, PutCart, PutOrder, PutPosition, PutWaiting, DropVoucher, DropCart, DropWaiting, PutCheckinList, PutCheckin}
use Rattle.file_meaning.specs.Links.{links, links_but}
use Rattle.file_rows.specs.declared.rows.SpentRow.{SpentRow}
use Rattle.file_rows.specs.Changes.{head_of_quota, head_of_voucher, head_of_position, head_of_list}
use Rattle.file_meaning.specs.Rows.{OfficeRows, Redeemed, releases_of, budgets_of, discounts_of}

-- the row goes before the others, and the one that had its id goes away
abbrev pub put_row : {T : Type 0} → (T → ℕ) → T → List T → List T
put_row key row rows = row ∷ without_row key (key row) rows

-- a row that is put stands in the place of its id, its links in the place of those that it had, and one that is dropped is gone with its links;
-- where no position of the id stood, no link has to go
abbrev pub rows_after : Change → OfficeRows → OfficeRows
rows_after (PutItem row) rows = record rows { items = put_row (λ r. r.id) row rows.items }
rows_after (PutVariation row) rows = record rows { variations = put_row (λ r. r.id) row rows.variations }
rows_after (PutQuota row) rows = record rows {
  quotas = put_row (λ r. r.id) (head_of_quota row) rows.quotas;
  quota_items = links (λ q. q.id) (λ q. q.items) row ++ links_but row.id rows.quota_items;
  quota_variations = links (λ q. q.id) (λ q. q.variations) row ++ links_but row.id rows.quota_variations;
  quota_release = links (λ q. q.id) releases_of row ++ links_but row.id rows.quota_release;
}
rows_after (PutVoucher row) rows = record rows {
  vouchers = put_row (λ r. r.id) (head_of_voucher row) rows.vouchers;
  voucher_budget = links (λ v. v.id) budgets_of row ++ links_but row.id rows.voucher_budget;
}
rows_after (PutCart row) rows = record rows { carts = put_row (λ r. r.id) row rows.carts }
rows_after (PutOrder row) rows = record rows { orders = put_row (λ r. r.id) row rows.orders }
rows_after (PutPosition row) rows = record rows {
  positions = put_row (λ r. r.id) (head_of_position row) rows.positions;
  position_discount = links (λ p. p.id) discounts_of row ++ (if is_some (row_at (λ r. r.id) row.id rows.positions) then links_but row.id rows.position_discount else rows.position_discount);
}
rows_after (PutWaiting row) rows = record rows { waiting = put_row (λ r. r.id) row rows.waiting }
rows_after (DropVoucher id) rows = record rows { vouchers = without_row (λ r. r.id) id rows.vouchers; voucher_budget = links_but id rows.voucher_budget }
rows_after (DropCart id) rows = record rows { carts = without_row (λ r. r.id) id rows.carts }
rows_after (DropWaiting id) rows = record rows { waiting = without_row (λ r. r.id) id rows.waiting }
rows_after (PutCheckinList row) rows = record rows {
  checkin_lists = put_row (λ r. r.id) (head_of_list row) rows.checkin_lists;
  list_items = links (λ l. l.id) (λ l. l.limit_products) row ++ links_but row.id rows.list_items;
}
rows_after (PutCheckin row) rows = record rows { checkins = put_row (λ r. r.id) row rows.checkins }

-- how often it is redeemed by this count; without one 0 times
abbrev pub redeemed_by : Option Redeemed → ℕ
redeemed_by None = 0
redeemed_by (Some count) = count.redeemed

-- how often a voucher is redeemed; 0 where it has no count
abbrev pub redeemed_of : ℕ → List Redeemed → ℕ
redeemed_of id counts = redeemed_by (row_at (λ c. c.voucher) id counts)

-- a voucher that is put keeps its count, a new one begins with 0, and one that is dropped loses it
abbrev pub redeemed_after : Change → List Redeemed → List Redeemed
redeemed_after (PutVoucher row) counts = put_row (λ c. c.voucher) (record { voucher = row.id; redeemed = redeemed_of row.id counts }) counts
redeemed_after (DropVoucher id) counts = without_row (λ c. c.voucher) id counts
redeemed_after _ counts = counts

-- a voucher that is dropped takes along what is spent of it; a new one has no row before its counts are written
abbrev pub spents_after : Change → List SpentRow → List SpentRow
spents_after (DropVoucher id) spents = without_row (λ c. c.voucher_id) id spents
spents_after _ spents = spents
