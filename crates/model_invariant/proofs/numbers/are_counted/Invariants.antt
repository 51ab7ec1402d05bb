use Rattle.std.proofs.Common.{◌+◌, ◌↔◌, drop}
use Rattle.model_invariant.specs.Positions.{CountFrom}
use Rattle.model_invariant.proofs.numbers.are_counted.Given as goal

abbrev pub invariant-loop-at : goal.invariant-loop-at
invariant-loop-at l = CountFrom (l.at + 1) (drop l.at l.rows) ↔ CountFrom 1 l.rows
