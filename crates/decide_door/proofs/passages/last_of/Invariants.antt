use Rattle.std.proofs.Common.{◌≡◌, drop}
use Rattle.model_rows.specs.Passages.{last_after}
use Rattle.decide_door.specs.Last.{checkins_of, last_of}
use Rattle.decide_door.proofs.passages.last_of.Given as goal

-- what is left goes on from the last one so far
abbrev pub invariant-loop-checkin : goal.invariant-loop-checkin
invariant-loop-checkin l = last_after l.last (checkins_of l.list l.position (drop l.checkin-index l.checkins)) ≡ last_of l.list l.position l.fn.checkins
