use Rattle.std.proofs.Common.{◌≡◌, drop}
use Rattle.decide_waiting.specs.Steps.{first_without_place}
use Rattle.decide_waiting.proofs.places.first_without_place.Given as goal

-- what is left has the answer
abbrev pub invariant-loop-i : goal.invariant-loop-i
invariant-loop-i l = first_without_place l.product (drop l.i l.left) (drop l.i l.quotas) ≡ first_without_place l.product l.left l.quotas
