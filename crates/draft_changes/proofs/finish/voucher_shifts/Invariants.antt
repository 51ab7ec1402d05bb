use Rattle.std.proofs.Common.{◌≡◌, take}
use Rattle.std.specs.Prelude.{flat_map}
use Rattle.draft_counts.specs.Logs.{rows_of}
use Rattle.draft_changes.specs.Handed.{voucher_shift}
use Rattle.draft_changes.proofs.finish.voucher_shifts.Given as goal

abbrev pub invariant-loop-id : goal.invariant-loop-id
invariant-loop-id g l = l.rows.items ≡ flat_map (voucher_shift (rows_of l.overlay) l.uses) (take l.id-index l.ids)
