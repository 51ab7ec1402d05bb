-- Who came in, and who is inside.
use Rattle.std.specs.Prelude.{ℕ, ◌-◌, Bool, List, ◌++◌, length, count_by, map, filter, take, drop}
use Rattle.model_rows.specs.declared.rows.OrderPos.{OrderPos}
use Rattle.model_rows.specs.declared.rows.CheckinList.{CheckinList}
use Rattle.model_rows.specs.declared.rows.Checkin.{Checkin}
use Rattle.model_rows.specs.Lists.{Lists}
use Rattle.model_commands.specs.declared.doors.DoorStatus.{DoorStatus}
use Rattle.model_commands.specs.declared.doors.ListedTicket.{ListedTicket}
use Rattle.decide_door.specs.Belongs.{belonging}
use Rattle.model_rows.specs.Passages.{is_entry_if}
use Rattle.decide_door.specs.Last.{has_entry, checkins_of, last_of}

-- an entry of the position is stored
abbrev pub has_entered : ℕ → List Checkin → OrderPos → Bool
has_entered list checkins position = has_entry list position.id checkins

-- the last check-in of the position is an entry
abbrev pub is_inside : ℕ → List Checkin → OrderPos → Bool
is_inside list checkins position = is_entry_if (last_of list position.id checkins)

-- of the positions that belong to the list: how many there are, have entered, and are inside
unfoldable pub status_of : CheckinList → Lists → DoorStatus
status_of list lists = record {
  positions = length (belonging list lists);
  entered = count_by (has_entered list.id lists.checkins) (belonging list lists);
  inside = count_by (is_inside list.id lists.checkins) (belonging list lists);
}

-- a position with its check-ins by the list, by id
unfoldable pub ticket_of : CheckinList → Lists → OrderPos → ListedTicket
ticket_of list lists position = record { position = position; checkins = checkins_of list.id position.id lists.checkins }

-- the positions that belong to the list, with their check-ins, by id
abbrev pub tickets_of : CheckinList → Lists → List ListedTicket
tickets_of list lists = map (ticket_of list lists) (belonging list lists)

-- a page of them: so many, without the first ones
abbrev pub tickets_page : ℕ → ℕ → CheckinList → Lists → List ListedTicket
tickets_page skip most list lists = map (ticket_of list lists) (take most (drop skip (belonging list lists)))

-- what is shown so far, and of the rows that are left those that pass, without the first ones, so that there are so many in all
abbrev pub part : {A B : Type 0} → (A → B) → (A → Bool) → List B → ℕ → ℕ → List A → List B
part show passes shown skip most rows = shown ++ map show (take (most - length shown) (drop skip (filter passes rows)))
