use Rattle.std.proofs.Common.{◌≡◌, ◌++◌, drop, map}
use Rattle.draft_changes.specs.DraftState.{now}
use Rattle.decide_waiting.specs.Steps.{places_left}
use Rattle.decide_waiting.proofs.places.places_left.Given as goal

-- what was reckoned, and what is left
abbrev pub invariant-loop-quota : goal.invariant-loop-quota
invariant-loop-quota g l = l.left.items ++ map (places_left (now l.draft)) (drop l.quota-index l.quotas) ≡ map (places_left (now l.draft)) (now l.draft).lists.catalogue.quotas
