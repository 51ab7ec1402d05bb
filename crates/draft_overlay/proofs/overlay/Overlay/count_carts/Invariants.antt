use Rattle.std.proofs.Common.{◌≡◌, ◌+◌, ◌≤◌, count_by}
use Rattle.draft_overlay.specs.Logs.{rows_at}
use Rattle.draft_overlay.proofs.overlay.Overlay.count_carts.Given as goal

abbrev pub invariant-loop-i : goal.invariant-loop-i
invariant-loop-i g l = (l.count ≡ count_by (g.T.CartCondition.passes l.test) (rows_at l.i l.self).carts) × (l.count ≤ 4294967296 + l.i)
