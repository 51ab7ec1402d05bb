use Rattle.std.proofs.Common.{◌≡◌, ◌++◌, drop, map}
use Rattle.draft_changes.specs.DraftState.{now}
use Rattle.model_rows.specs.Waits.{waiters}
use Rattle.decide_waiting.specs.Turns.{turn_of}
use Rattle.decide_waiting.proofs.turns.turns_of.Given as goal

-- the turns so far, and those of the entries that are left
abbrev pub invariant-loop-id : goal.invariant-loop-id
invariant-loop-id g l = l.turns.items ++ map turn_of (drop l.id-index (waiters (now l.draft).lists)) ≡ map turn_of (waiters (now l.draft).lists)
