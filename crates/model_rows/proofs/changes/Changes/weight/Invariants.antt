use Rattle.std.proofs.Common.{◌≡◌, ◌+◌, drop}
use Rattle.model_rows.specs.Weight.{weight}
use Rattle.model_rows.proofs.changes.Changes.weight.Given as goal

abbrev pub invariant-loop-change : goal.invariant-loop-change
invariant-loop-change l = l.count + weight (drop l.change-index l.change-items) ≡ weight l.self.list
