-- A voucher that is changed.
use Rattle.std.specs.Prelude.{ℕ, Bool, ◌&&◌, ◌||◌, not, Result, Ok}
use Rattle.std.specs.Option.{ok_or}
use Rattle.base_values.specs.Deciding.{◌>>=◌, ◌>>◌, check}
use Rattle.base_values.specs.Texts.{same_text}
use Rattle.model_rows.specs.declared.rows.Voucher.{Voucher}
use Rattle.model_rows.specs.declared.changes.Change.TheVariants.{PutVoucher}
use Rattle.model_rows.specs.Conditions.{same_id}
use Rattle.model_rows.specs.Lists.{Lists, State, voucher_at}
use Rattle.model_rows.specs.Named.{is_used}
use Rattle.model_rows.specs.Change.{change_applied}
use Rattle.model_rows.specs.Usage.{spent}
use Rattle.model_commands.specs.declared.vouchers.VoucherPatch.{VoucherPatch}
use Rattle.model_commands.specs.declared.vouchers.VoucherRefusal.{VoucherRefusal}
use Rattle.model_commands.specs.declared.vouchers.VoucherRefusal.TheVariants.{NoVoucher, InUse}
use Rattle.decide_vouchers.specs.Codes.{new_code}
use Rattle.decide_vouchers.specs.Rows.{patched_voucher}
use Rattle.decide_vouchers.specs.Checks.{row_test}
use Rattle.decide_vouchers.specs.Placed.{place_test}

-- code, item, variation and quota are as they were
abbrev pub names_the_same : Voucher → Voucher → Bool
names_the_same old row = same_text old.code row.code && (same_id old.item row.item && (same_id old.variation row.variation && same_id old.quota row.quota))

-- a voucher in use keeps its code and what it names
abbrev pub may_change : Voucher → Voucher → Lists → Bool
may_change old row lists = names_the_same old row || not (is_used old.id lists)

-- the row as it is asked for, where it may be
unfoldable pub changed_row : VoucherPatch → Lists → Voucher → Result Voucher VoucherRefusal
changed_row patch lists old = do
  let row = patched_voucher patch old
  row_test (new_code patch.code old.code) row lists
  check (may_change old row lists) InUse
  Ok row

-- the box office with the changed voucher, and its row, or the first refusal; what orders in force took off by it has to be
-- within the new budget
unfoldable pub voucher_changed : ℕ → VoucherPatch → State → Result (State × Voucher) VoucherRefusal
voucher_changed id patch state = do
  old ← ok_or (voucher_at id state.lists) NoVoucher
  row ← changed_row patch state.lists old
  place_test (spent row.id state.lists) row state
  Ok (change_applied (PutVoucher row) state, row)
