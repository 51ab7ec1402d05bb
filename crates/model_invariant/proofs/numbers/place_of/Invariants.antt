use Rattle.std.proofs.Common.{◌≡◌, ◌+◌, drop}
use Rattle.model_invariant.specs.Positions.{place_in}
use Rattle.model_invariant.proofs.numbers.place_of.Given as goal

-- what stands before the number is what was passed, and what stands before it among the others
abbrev pub invariant-loop-at : goal.invariant-loop-at
invariant-loop-at l = place_in l.number l.rows ≡ l.at + place_in l.number (drop l.at l.rows)
