-- What the doors show as JSON: check-in lists, the positions that belong to one, a ticket that was let in or out, and
-- the numbers of a list. Each has its members in byte order.
use Rattle.std.specs.Prelude.{ℕ, List, map, codes}
use Rattle.serde_json.specs.Data.{Data, boolean, string, object, Members, member, no_members}
use Rattle.model_rows.specs.declared.rows.CheckinList.{CheckinList}
use Rattle.model_rows.specs.declared.rows.Checkin.{Checkin}
use Rattle.model_rows.specs.declared.rows.CheckinKind.{CheckinKind}
use Rattle.model_rows.specs.declared.rows.CheckinKind.TheVariants as kinds
use Rattle.model_rows.specs.declared.rows.OrderPos.{OrderPos}
use Rattle.model_commands.specs.declared.doors.DoorStatus.{DoorStatus}
use Rattle.web_json.specs.OrderRows.{position_members, position_body}
use Rattle.web_json.specs.Values.{count, counts, moment, text_or_null, list}

-- the members of a check-in list before the ids of its items, and the rest
abbrev pub checkin_list_members : CheckinList → Members → Members
checkin_list_members door rest =
    member (codes "all_products") (boolean door.all_products)
    (member (codes "allow_entry_after_exit") (boolean door.allow_entry_after_exit)
    (member (codes "allow_multiple_entries") (boolean door.allow_multiple_entries)
    (member (codes "id") (count door.id)
    (member (codes "include_pending") (boolean door.include_pending)
    rest))))

-- the last member of a check-in list
abbrev pub list_name : CheckinList → Members
list_name door = member (codes "name") (string door.name) no_members

-- a check-in list, with the ids of its items, which rise
abbrev pub checkin_list_body : CheckinList → Data
checkin_list_body door = object (checkin_list_members door (member (codes "limit_products") (counts door.limit_products) (list_name door)))

-- the word of a check-in's kind
abbrev pub kind_word : CheckinKind → List ℕ
kind_word kinds.Entry = codes "entry"
kind_word kinds.Exit = codes "exit"

-- a check-in
abbrev pub checkin_body : Checkin → Data
checkin_body checkin = object (
    member (codes "datetime") (moment checkin.datetime)
    (member (codes "id") (count checkin.id)
    (member (codes "nonce") (text_or_null checkin.nonce)
    (member (codes "type") (string (kind_word checkin.kind))
    no_members))))

-- a position as an order shows it, behind its check-ins of the list
abbrev pub ticket_body : OrderPos → List Checkin → Data
ticket_body position checkins = object (member (codes "checkins") (list (map checkin_body checkins)) (position_members position))

-- a position that was let in or out
abbrev pub admitted_body : OrderPos → Data
admitted_body position = object (member (codes "position") (position_body position) (member (codes "status") (string (codes "ok")) no_members))

-- how many positions have an entry, how many are inside, and how many there are
abbrev pub door_status_body : DoorStatus → Data
door_status_body door = object (
    member (codes "checkin_count") (count door.entered)
    (member (codes "inside_count") (count door.inside)
    (member (codes "position_count") (count door.positions)
    no_members)))
