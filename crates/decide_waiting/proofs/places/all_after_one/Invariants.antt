use Rattle.std.proofs.Common.{◌≡◌, ◌++◌, drop}
use Rattle.decide_waiting.specs.Steps.{all_after_one}
use Rattle.decide_waiting.proofs.places.all_after_one.Given as goal

-- what was reckoned, and what is left
abbrev pub invariant-loop-i : goal.invariant-loop-i
invariant-loop-i l = l.rest.items ++ all_after_one l.product (drop l.i l.left) (drop l.i l.quotas) ≡ all_after_one l.product l.left l.quotas
