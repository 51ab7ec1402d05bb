-- Worked cases: a house of one order with one position, and one check-in list.
use Rattle.std.specs.Prelude.{◌≡◌, ℕ, ◌+◌, Bool, true, false, List, [], ◌∷◌, length, Option, Some, None, Ok, Err}
use Rattle.model_rows.specs.declared.rows.Status.{Status}
use Rattle.model_rows.specs.declared.rows.OrderPos.{OrderPos}
use Rattle.model_rows.specs.declared.rows.CheckinKind.{CheckinKind}
use Rattle.model_rows.specs.declared.rows.CheckinKind.TheVariants.{Entry, Exit}
use Rattle.model_rows.specs.declared.rows.CheckinList.{CheckinList}
use Rattle.model_rows.specs.declared.rows.Checkin.{Checkin}
use Rattle.model_rows.specs.Lists.{State, no_rows, first_ids}
use Rattle.model_commands.specs.declared.doors.DoorRefusal.{DoorRefusal}
use Rattle.model_commands.specs.declared.doors.Scan.{Scan}
use Rattle.model_commands.specs.declared.doors.Ticket.{Ticket}
use Rattle.model_commands.specs.declared.doors.Ticket.TheVariants.{Position, Secret}
use Rattle.decide_door.specs.Scanned.{ticket_scanned}

-- a list for all items, which may include pending orders and allow an entry after an exit
abbrev pub door : Bool → Bool → CheckinList
door pending again = record { id = 1; name = []; all_products = true; limit_products = []; include_pending = pending; allow_multiple_entries = false; allow_entry_after_exit = again }

-- a list for all items, which includes no pending orders and allows no entry after an exit
abbrev pub plain : CheckinList
plain = door false false

-- the plain list, but for one thing: it includes pending orders
abbrev pub pending_list : CheckinList
pending_list = door true false

-- the plain list, but for one thing: it allows an entry after an exit
abbrev pub return_list : CheckinList
return_list = door false true

-- the one ticket: position 1 of order 1, of item 1 at 23.00, with the secret `a`
abbrev pub seat : OrderPos
seat = record { id = 1; order = 1; positionid = 1; product = record { item = 1; variation = None }; price = 2300; voucher = None; secret = 97 ∷ []; discount = 0 }

-- the ticket is shown by its id
abbrev pub by_id : Ticket
by_id = Position 1

-- the ticket is shown by its secret
abbrev pub by_secret : Ticket
by_secret = Secret (97 ∷ [])

-- at the moment 1000, with these check-ins, whose ids count from 1
abbrev pub house : Status → CheckinList → List Checkin → State
house status list checkins = record {
  lists = record no_rows { orders = record { id = 1; email = None; status = status; made_at = 0; expires = 0 } ∷ []; positions = seat ∷ []; checkin_lists = list ∷ []; checkins = checkins };
  next = record first_ids { checkin = length checkins + 1 };
  moment = 1000;
}

-- a nonce of one digit
abbrev pub nonce : ℕ → Option (List ℕ)
nonce n = Some ((48 + n) ∷ [])

-- a scan of this kind with this nonce, at the box office's moment, which isn't forced and doesn't ignore that an order is unpaid
abbrev pub scan : CheckinKind → Option (List ℕ) → Scan
scan kind nonce = record { kind = kind; nonce = nonce; datetime = None; force = false; ignore_unpaid = false }

-- an entry with a nonce of one digit
abbrev pub entry_with : ℕ → Scan
entry_with n = scan Entry (nonce n)

-- an entry without a nonce that ignores that the order is unpaid
abbrev pub lenient_entry : Scan
lenient_entry = record (scan Entry None) { ignore_unpaid = true }

-- an entry without a nonce that is forced
abbrev pub forced_entry : Scan
forced_entry = record (scan Entry None) { force = true }

-- a check-in of the ticket: its id, its list, its kind, its nonce and its moment
abbrev pub ticket_passed : ℕ → ℕ → CheckinKind → Option (List ℕ) → ℕ → Checkin
ticket_passed id list kind nonce at = record { id = id; list = list; position = 1; kind = kind; datetime = at; nonce = nonce }

-- by list 1 the ticket comes in
abbrev pub first_in : Checkin
first_in = ticket_passed 1 1 Entry (nonce 1) 1000

-- then it goes out by list 1
abbrev pub then_out : Checkin
then_out = ticket_passed 2 1 Exit (nonce 3) 1000

-- the ticket comes in by list 2
abbrev pub elsewhere_in : Checkin
elsewhere_in = ticket_passed 1 2 Entry (nonce 1) 1000

-- check-in 1, by list 1, is an entry at this moment
abbrev pub in_at : ℕ → Checkin
in_at moment = ticket_passed 1 1 Entry None moment

-- check-in 2, by list 1, is an exit at this moment
abbrev pub out_at : ℕ → Checkin
out_at moment = ticket_passed 2 1 Exit None moment

-- the house's list 1, over an order of this status and with these check-ins, lets the ticket through; these check-ins are stored then
abbrev pub Admits : CheckinList → Status → List Checkin → Ticket → Scan → List Checkin → Type 0
Admits list status checkins ticket scan stored = ticket_scanned 1 ticket scan (house status list checkins) ≡ Ok (house status list stored, seat)

-- the list refuses the ticket
abbrev pub Refuses : CheckinList → Status → List Checkin → Ticket → Scan → DoorRefusal → Type 0
Refuses list status checkins ticket scan refusal = ticket_scanned 1 ticket scan (house status list checkins) ≡ Err refusal
