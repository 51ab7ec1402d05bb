use Rattle.std.proofs.Common.{◌≡◌, ◌≤◌, length, drop}
use Rattle.model_invariant.specs.Positions.{by_positionid}
use Rattle.model_invariant.proofs.numbers.sorted.Given as goal

-- those from a place on are by number
abbrev pub invariant-loop-left : goal.invariant-loop-left
invariant-loop-left l = (l.left ≤ length l.positions) × (l.rows.items ≡ by_positionid (drop l.left l.positions))

abbrev pub decreases-loop-left : goal.decreases-loop-left
decreases-loop-left l = l.left
