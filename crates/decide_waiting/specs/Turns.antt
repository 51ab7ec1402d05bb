-- Where an entry stands in the queue.
use Rattle.model_rows.specs.declared.rows.Waiting.{Waiting}
use Rattle.decide_waiting.specs.declared.turns.Turn.{Turn}

-- what decides its place: the priority, of which the higher one goes first, then its moment, then its id
abbrev pub turn_of : Waiting → Turn
turn_of entry = record { priority = record { 0 = entry.priority }; created = entry.created; id = entry.id }
