use Rattle.std.proofs.Common.{◌≡◌, drop}
use Rattle.std.specs.Prelude.{find}
use Rattle.draft_changes.specs.DraftState.{now}
use Rattle.decide_waiting.specs.Places.{first_closed}
use Rattle.decide_waiting.specs.Steps.{is_full_at}
use Rattle.decide_waiting.proofs.places.first_closed.Given as goal

-- the first full one of those that are left is the answer
abbrev pub invariant-loop-place : goal.invariant-loop-place
invariant-loop-place g l = find (is_full_at (now l.draft)) (drop l.place l.quotas) ≡ first_closed (now l.draft) l.fn.product
