-- The rows of a voucher file: each by itself, after those before it.
use Rattle.std.specs.Prelude.{ℕ, Bool, true, false, ◌&&◌, ◌==◌, not, List, [], ◌∷◌, Option, Some, None, Result, Ok, Err, if◌then◌else◌}
use Rattle.std.specs.List.{filter_map}
use Rattle.base_values.specs.Texts.{same_text}
use Rattle.base_values.specs.declared.draw.Draw.{Draw}
use Rattle.base_values.specs.declared.price_mode.PriceMode.{PriceMode}
use Rattle.base_values.specs.declared.price_mode.PriceMode.TheVariants as modes
use Rattle.model_rows.specs.declared.rows.Voucher.{Voucher}
use Rattle.model_rows.specs.declared.changes.Change.{Change}
use Rattle.model_rows.specs.declared.changes.Change.TheVariants.{PutVoucher}
use Rattle.model_rows.specs.Conditions.{same_id}
use Rattle.model_rows.specs.Lists.{Lists, State}
use Rattle.model_rows.specs.Named.{voucher_of}
use Rattle.model_commands.specs.declared.vouchers.NewVoucher.{NewVoucher}
use Rattle.model_commands.specs.declared.vouchers.Verdict.{Verdict}
use Rattle.model_commands.specs.declared.vouchers.Verdict.TheVariants as verdicts
use Rattle.model_commands.specs.declared.vouchers.VoucherRefusal.{VoucherRefusal}
use Rattle.decide_vouchers.specs.Made.{voucher_made}

-- the voucher that has a row's code; a row without a code has none
abbrev pub namesake : Option (List ℕ) → Lists → Option Voucher
namesake None lists = None
namesake (Some code) lists = voucher_of code lists

-- both are set, or neither is
abbrev pub same_flag : Bool → Bool → Bool
same_flag true b = b
same_flag false b = not b

-- both are the same one of the four modes
abbrev pub same_mode : PriceMode → PriceMode → Bool
same_mode modes.None modes.None = true
same_mode modes.Set modes.Set = true
same_mode modes.Subtract modes.Subtract = true
same_mode modes.Percent modes.Percent = true
same_mode _ _ = false

-- how often it may be used, how long, what it does to quotas, and to a price
abbrev pub has_terms : NewVoucher → Voucher → Bool
has_terms new row =
    (new.max_usages == row.max_usages && same_id new.valid_until row.valid_until)
    && (same_flag new.block_quota row.block_quota && same_flag new.allow_ignore_quota row.allow_ignore_quota)
    && (same_mode new.price_mode row.price_mode && same_id new.value row.value)

-- what it is for, and what is noted of it
abbrev pub has_target : NewVoucher → Voucher → Bool
has_target new row = (same_id new.item row.item && same_id new.variation row.variation && same_id new.quota row.quota) && (same_text new.tag row.tag && same_text new.comment row.comment)

-- the voucher of a row's code has what the row says, in all the other eleven fields; a file has no budgets, and they aren't
-- compared
abbrev pub is_as_given : NewVoucher → Voucher → Bool
is_as_given new row = has_terms new row && has_target new row

-- a row beside the voucher that has its code: it says the same, or something else
abbrev pub verdict_on : NewVoucher → Voucher → Verdict
verdict_on new row = if is_as_given new row then verdicts.Same else verdicts.Other

-- the voucher that was added, or the refusal, which leaves the box office as it was
abbrev pub made_verdict : State → Result (State × Voucher) VoucherRefusal → State × Verdict
made_verdict state (Ok (after, row)) = (after, verdicts.Added row)
made_verdict state (Err refusal) = (state, verdicts.Refused refusal)

-- a row whose code no voucher has: a voucher is made, or it says why not
abbrev pub new_imported : NewVoucher → Draw → State → State × Verdict
new_imported new draw state = made_verdict state (voucher_made new draw state)

-- a row beside the voucher that has its code, if there is one: only without one a voucher is made
abbrev pub imported_beside : Option Voucher → NewVoucher → Draw → State → State × Verdict
imported_beside None new draw state = new_imported new draw state
imported_beside (Some row) new draw state = (state, verdict_on new row)

-- a row whose code no voucher has is a new voucher, and any other changes nothing
abbrev pub row_imported : NewVoucher → Draw → State → State × Verdict
row_imported new draw state = imported_beside (namesake new.code state.lists) new draw state

-- a verdict in front of those of the rest
abbrev pub with_verdict : Verdict → State × List Verdict → State × List Verdict
with_verdict verdict rest = (rest.0, verdict ∷ rest.1)

-- the box office with all that could be added, and what became of each row: one after another, whatever becomes of each
abbrev pub rows_imported : List NewVoucher → Draw → State → State × List Verdict
rows_imported [] draw state = (state, [])
rows_imported (new ∷ more) draw state = with_verdict (row_imported new draw state).1 (rows_imported more draw (row_imported new draw state).0)

-- a row that was added is put, and any other changes nothing
abbrev pub put_by : Verdict → Option Change
put_by (verdicts.Added row) = Some (PutVoucher row)
put_by _ = None

-- the changes of an import: each row that was added is put, in turn
abbrev pub import_changes : List Verdict → List Change
import_changes verdicts = filter_map put_by verdicts
