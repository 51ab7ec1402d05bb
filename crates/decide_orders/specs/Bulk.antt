-- Adding many cart positions in one call: each entry by itself, after those before it.
use Rattle.std.specs.Prelude.{ℕ, nat_lt, List, [], ◌∷◌, length, Option, Some, None, Result, Ok, Err, if◌then◌else◌}
use Rattle.std.specs.List.{filter_map}
use Rattle.base_values.specs.declared.draw.Draw.{Draw}
use Rattle.model_rows.specs.declared.rows.CartPos.{CartPos}
use Rattle.model_rows.specs.declared.changes.Change.{Change}
use Rattle.model_rows.specs.declared.changes.Change.TheVariants.{PutCart}
use Rattle.model_rows.specs.Lists.{State}
use Rattle.decide_orders.specs.Carts.{position_added}
use Rattle.model_commands.specs.declared.carts.Entry.{Entry}
use Rattle.model_commands.specs.declared.carts.Entry.TheVariants as entries
use Rattle.model_commands.specs.declared.carts.Outcome.{Outcome}
use Rattle.model_commands.specs.declared.carts.Outcome.TheVariants as outcomes
use Rattle.model_commands.specs.declared.orders.OrderRefusal.{OrderRefusal}
use Rattle.model_commands.specs.declared.orders.OrderRefusal.TheVariants.{TooMany}

-- the row that was added, or the refusal, which leaves the box office as it was
abbrev pub outcome_of : State → Result (State × CartPos) OrderRefusal → State × Outcome
outcome_of state (Ok (after, row)) = (after, outcomes.Added row)
outcome_of state (Err refusal) = (state, outcomes.Refused refusal)

-- an entry is what a request for one cart position is; a faulty one is handed on
abbrev pub entry_added : Entry → Draw → State → State × Outcome
entry_added (entries.New new) draw state = outcome_of state (position_added new draw state)
entry_added (entries.Faulty fault) draw state = (state, outcomes.Faulty fault)

-- an outcome in front of those of the rest
abbrev pub with_outcome : Outcome → State × List Outcome → State × List Outcome
with_outcome outcome rest = (rest.0, outcome ∷ rest.1)

-- entries are added in order, whatever becomes of each
abbrev pub all_added : List Entry → Draw → State → State × List Outcome
all_added [] draw state = (state, [])
all_added (entry ∷ more) draw state = with_outcome (entry_added entry draw state).1 (all_added more draw (entry_added entry draw state).0)

-- a bulk call with more is refused as a whole
abbrev pub most_entries : ℕ
most_entries = 500

-- the box office with all that could be added, and what became of each entry; or there are too many
unfoldable pub many_added : List Entry → Draw → State → Result (State × List Outcome) OrderRefusal
many_added entries draw state = if nat_lt most_entries (length entries) then Err TooMany else Ok (all_added entries draw state)

-- an entry that was added is put, and any other changes nothing
abbrev pub put_by : Outcome → Option Change
put_by (outcomes.Added row) = Some (PutCart row)
put_by (outcomes.Refused refusal) = None
put_by (outcomes.Faulty fault) = None

-- the changes of a bulk call: each row that was added is put, in turn
abbrev pub bulk_changes : List Outcome → List Change
bulk_changes outcomes = filter_map put_by outcomes
