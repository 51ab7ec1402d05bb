-- What statements on vouchers make of the tables.
use Rattle.std.specs.Prelude.{ℕ, not, ◌==◌, List, [], ◌∷◌, ◌++◌, map, filter}
use Rattle.sqlite_value.specs.declared.value.Value.TheVariants.{Text}
use Rattle.sqlite_value.specs.Order.{Row}
use Rattle.sqlite.specs.Values.{or_null}
use Rattle.base_tables.specs.Tables.{row_at, sum_at}
use Rattle.model_rows.specs.declared.rows.Voucher.{Voucher}
use Rattle.model_rows.specs.declared.count_rows.VoucherCount.{VoucherCount}
use Rattle.file_rows.specs.declared.rows.VoucherRow.{VoucherRow}
use Rattle.file_rows.specs.Cells.{number, truth, mode}
use Rattle.file_rows.specs.Changes.{head_of_voucher}
use Rattle.file_rows.specs.Tables.{Tables}

-- the columns of a voucher but the count
abbrev pub voucher_values : Voucher → Row
voucher_values w = number w.id ∷ Text w.code ∷ number w.max_usages ∷ or_null number w.valid_until ∷ truth w.block_quota ∷ truth w.allow_ignore_quota ∷ mode w.price_mode ∷ or_null number w.value ∷ or_null number w.item ∷ or_null number w.variation ∷ or_null number w.quota ∷ Text w.tag ∷ Text w.comment ∷ []

-- how often the voucher of an id is redeemed; 0 where there is none
abbrev pub redeemed_of : ℕ → List VoucherRow → ℕ
redeemed_of id rows = sum_at (λ r. r.redeemed) (row_at (λ r. r.voucher.id) id rows)

-- the rows but that of the voucher of this id
abbrev pub without_id : ℕ → List VoucherRow → List VoucherRow
without_id id rows = filter (λ r. not (r.voucher.id == id)) rows

-- a voucher more, redeemed 0 times
abbrev pub with_new_voucher : Voucher → Tables → Tables
with_new_voucher w t = record t { vouchers = record { voucher = head_of_voucher w; redeemed = 0 } ∷ t.vouchers }

-- the voucher stands in the place of its id, and is redeemed as often as the one that stood there
abbrev pub put_voucher : Voucher → Tables → Tables
put_voucher w t = record t { vouchers = record { voucher = head_of_voucher w; redeemed = redeemed_of w.id t.vouchers } ∷ without_id w.id t.vouchers }

-- the voucher of the count is redeemed so often
abbrev pub set_redeemed : VoucherCount → Tables → Tables
set_redeemed c t = record t { vouchers = map (λ (r : VoucherRow). record r { redeemed = c.redeemed }) (filter (λ r. r.voucher.id == c.voucher) t.vouchers) ++ without_id c.voucher t.vouchers }

-- the tables without the voucher of this id
abbrev pub without_voucher : ℕ → Tables → Tables
without_voucher id t = record t { vouchers = without_id id t.vouchers }
