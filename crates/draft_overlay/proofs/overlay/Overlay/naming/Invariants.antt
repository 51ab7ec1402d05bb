use Rattle.std.proofs.Common.{◌≡◌, ◌+◌, ◌≤◌}
use Rattle.book_usage.specs.Naming.{naming}
use Rattle.draft_overlay.specs.Logs.{rows_at}
use Rattle.draft_overlay.proofs.overlay.Overlay.naming.Given as goal

abbrev pub invariant-loop-i : goal.invariant-loop-i
invariant-loop-i g l = (l.count ≡ naming l.voucher (rows_at l.i l.self)) × (l.count ≤ 12884901888 + l.i)
