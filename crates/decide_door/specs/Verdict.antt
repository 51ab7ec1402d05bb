-- The verdict on a scan of a ticket at a door.
use Rattle.std.specs.Prelude.{ℕ, Bool, false, ◌&&◌, ◌||◌, not, ◌==◌, List, find, Option, Some, None, Result, Ok, Err, if◌then◌else◌}
use Rattle.std.specs.List.{list_any}
use Rattle.base_values.specs.Texts.{same_text}
use Rattle.model_rows.specs.declared.rows.Status.{Status}
use Rattle.model_rows.specs.declared.rows.Order.{Order}
use Rattle.model_rows.specs.declared.rows.OrderPos.{OrderPos}
use Rattle.model_rows.specs.declared.rows.CheckinList.{CheckinList}
use Rattle.model_rows.specs.declared.rows.Checkin.{Checkin}
use Rattle.model_rows.specs.Conditions.{is_pending, is_in_force}
use Rattle.model_rows.specs.Lists.{Lists, order_at, position_at}
use Rattle.model_invariant.specs.Checkins.{same_nonce}
use Rattle.model_commands.specs.declared.doors.Ticket.{Ticket}
use Rattle.model_commands.specs.declared.doors.Ticket.TheVariants.{Position, Secret, Unreadable}
use Rattle.model_commands.specs.declared.doors.Scan.{Scan}
use Rattle.model_commands.specs.declared.doors.DoorRefusal.{DoorRefusal}
use Rattle.model_commands.specs.declared.doors.DoorRefusal.TheVariants.{NoList, Invalid, Canceled, Product, Unpaid, AlreadyRedeemed}
use Rattle.decide_door.specs.declared.verdict.Admission.{Admission}
use Rattle.decide_door.specs.declared.verdict.Admission.TheVariants.{Again, New}
use Rattle.decide_door.specs.Belongs.{is_for}
use Rattle.model_rows.specs.Passages.{is_exit, is_exit_if}
use Rattle.decide_door.specs.Last.{has_entry, last_of}

-- the position that a ticket shows, by its id or by its secret
abbrev pub shown_by : Ticket → Lists → Option OrderPos
shown_by (Position id) lists = position_at id lists
shown_by (Secret secret) lists = find (λ p. same_text p.secret secret) lists.positions
shown_by Unreadable lists = None

-- the order is pending or paid, and so neither expired nor cancelled
abbrev pub is_in_force_if : Option Order → Bool
is_in_force_if None = false
is_in_force_if (Some order) = is_in_force order.status

-- a pending order isn't enough, unless the scan is forced, or it ignores that and the list includes such orders
abbrev pub is_unpaid : CheckinList → Scan → Status → Bool
is_unpaid list scan status = is_pending status && not (scan.force || (scan.ignore_unpaid && list.include_pending))

-- the order is there, and is pending where that isn't enough
abbrev pub is_unpaid_if : CheckinList → Scan → Option Order → Bool
is_unpaid_if list scan None = false
is_unpaid_if list scan (Some order) = is_unpaid list scan order.status

-- a nonce was given, and a check-in with it is stored for this list and position
abbrev pub is_stored : ℕ → ℕ → Option (List ℕ) → List Checkin → Bool
is_stored list position nonce checkins = list_any (λ c. c.list == list && (c.position == position && same_nonce c.nonce nonce)) checkins

-- an exit passes always; an entry where it is forced, where the list allows several, where none is stored,
-- or where the last check-in is an exit and the list allows an entry after it
abbrev pub may_pass : CheckinList → ℕ → Scan → List Checkin → Bool
may_pass list position scan checkins =
    is_exit scan.kind
    || (scan.force
    || (list.allow_multiple_entries
    || (not (has_entry list.id position checkins)
    || (list.allow_entry_after_exit && is_exit_if (last_of list.id position checkins)))))

-- the first of seven cases that holds
unfoldable pub verdict : Option CheckinList → Option OrderPos → Scan → Lists → Result Admission DoorRefusal
verdict None position scan lists = Err NoList
verdict (Some list) None scan lists = Err Invalid
verdict (Some list) (Some position) scan lists =
    if not (is_in_force_if (order_at position.order lists)) then Err Canceled
    else if not (is_for list position.product.item) then Err Product
    else if is_unpaid_if list scan (order_at position.order lists) then Err Unpaid
    else if is_stored list.id position.id scan.nonce lists.checkins then Ok (Again position)
    else if may_pass list position.id scan lists.checkins then Ok (New position)
    else Err AlreadyRedeemed
