-- What a scan of a ticket changes.
use Rattle.std.specs.Prelude.{ℕ, List, [], ◌∷◌, unwrap_or, Result, Ok, Err}
use Rattle.base_values.specs.Deciding.{◌>>=◌, ◌>>◌, check}
use Rattle.model_catalogue.specs.declared.refusal.CatalogueRefusal.TheVariants.{Full}
use Rattle.model_rows.specs.declared.rows.OrderPos.{OrderPos}
use Rattle.model_rows.specs.declared.rows.Checkin.{Checkin}
use Rattle.model_rows.specs.declared.changes.Change.{Change}
use Rattle.model_rows.specs.declared.changes.Change.TheVariants.{PutCheckin}
use Rattle.model_rows.specs.Lists.{State, checkin_list_at}
use Rattle.model_rows.specs.Full.{takes_checkin}
use Rattle.model_rows.specs.Numbered.{with_checkin}
use Rattle.model_commands.specs.declared.doors.Ticket.{Ticket}
use Rattle.model_commands.specs.declared.doors.Scan.{Scan}
use Rattle.model_commands.specs.declared.doors.DoorRefusal.{DoorRefusal}
use Rattle.model_commands.specs.declared.doors.DoorRefusal.TheVariants.{Catalogue}
use Rattle.decide_door.specs.declared.verdict.Admission.{Admission}
use Rattle.decide_door.specs.declared.verdict.Admission.TheVariants.{Again, New}
use Rattle.decide_door.specs.Verdict.{shown_by, verdict}

-- the check-in of a position that is let through: at the scan's moment, or else at that of the box office
abbrev pub checkin_row : ℕ → OrderPos → Scan → State → Checkin
checkin_row list position scan state = record { id = state.next.checkin; list = list; position = position.id; kind = scan.kind; datetime = unwrap_or scan.datetime state.moment; nonce = scan.nonce }

-- a check-in is stored where the table takes it
abbrev pub checkin_stored : Checkin → OrderPos → State → Result (State × OrderPos) DoorRefusal
checkin_stored row position state = do
  check (takes_checkin state) (Catalogue Full)
  Ok (with_checkin row state, position)

-- who is let through anew is stored, and who was let through before isn't again
abbrev pub let_through : ℕ → Scan → State → Admission → Result (State × OrderPos) DoorRefusal
let_through list scan state (Again position) = Ok (state, position)
let_through list scan state (New position) = checkin_stored (checkin_row list position scan state) position state

-- the verdict on this scan
abbrev pub verdict_of : ℕ → Ticket → Scan → State → Result Admission DoorRefusal
verdict_of list ticket scan state = verdict (checkin_list_at list state.lists) (shown_by ticket state.lists) scan state.lists

-- the box office with the check-in, if it is a new one, and the position, or the first refusal
unfoldable pub ticket_scanned : ℕ → Ticket → Scan → State → Result (State × OrderPos) DoorRefusal
ticket_scanned list ticket scan state = do
  admission ← verdict_of list ticket scan state
  let_through list scan state admission

-- the check-in that a scan puts: whoever is let through anew gets one; whoever was let through before gets none, nor whoever is refused
abbrev pub puts_by : ℕ → Scan → State → Result Admission DoorRefusal → List Change
puts_by list scan state (Err refusal) = []
puts_by list scan state (Ok (Again position)) = []
puts_by list scan state (Ok (New position)) = PutCheckin (checkin_row list position scan state) ∷ []

-- the changes of a scan that is let through: its check-in is put, if it is a new one
unfoldable pub scan_puts : ℕ → Ticket → Scan → State → List Change
scan_puts list ticket scan state = puts_by list scan state (verdict_of list ticket scan state)
