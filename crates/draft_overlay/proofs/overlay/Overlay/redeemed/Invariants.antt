use Rattle.std.proofs.Common.{◌≡◌, ◌+◌, ◌≤◌}
use Rattle.model_rows.specs.Usage.{redeemed}
use Rattle.draft_overlay.specs.Logs.{rows_at}
use Rattle.draft_overlay.proofs.overlay.Overlay.redeemed.Given as goal

abbrev pub invariant-loop-i : goal.invariant-loop-i
invariant-loop-i g l = (l.count ≡ redeemed l.voucher (rows_at l.i l.self)) × (l.count ≤ 4294967296 + l.i)
