-- When a ticket came in or went out, and which of its check-ins is the last.
use Rattle.std.specs.Prelude.{ℕ, Bool, true, false, ◌&&◌, ◌||◌, ◌==◌, nat_lt, List, [], ◌∷◌, filter, Option, Some, None, if◌then◌else◌}
use Rattle.model_rows.specs.declared.rows.CheckinKind.{CheckinKind}
use Rattle.model_rows.specs.declared.rows.CheckinKind.TheVariants.{Entry, Exit}
use Rattle.model_rows.specs.declared.rows.Checkin.{Checkin}
use Rattle.model_rows.specs.declared.passages.Passage.{Passage}

-- the kind is an entry
abbrev pub is_entry : CheckinKind → Bool
is_entry Entry = true
is_entry Exit = false

-- the kind is an exit
abbrev pub is_exit : CheckinKind → Bool
is_exit Entry = false
is_exit Exit = true

-- when a check-in was made, its id, and whether it was an entry
abbrev pub passage : Checkin → Passage
passage checkin = record { datetime = checkin.datetime; id = checkin.id; kind = checkin.kind }

-- the first is later than the second: by its moment, and of one moment by its id
abbrev pub is_later : Passage → Passage → Bool
is_later a b = nat_lt b.datetime a.datetime || (b.datetime == a.datetime && nat_lt b.id a.id)

-- the later of the last one, if there is one, and another
unfoldable pub later : Option Passage → Passage → Passage
later None other = other
later (Some last) other = if is_later other last then other else last

-- the last of some check-ins and of one before them, if there is one
abbrev pub last_after : Option Passage → List Checkin → Option Passage
last_after last [] = last
last_after last (c ∷ cs) = last_after (Some (later last (passage c))) cs

-- there is a last check-in, and it is an entry
abbrev pub is_entry_if : Option Passage → Bool
is_entry_if None = false
is_entry_if (Some last) = is_entry last.kind

-- there is a last check-in, and it is an exit
abbrev pub is_exit_if : Option Passage → Bool
is_exit_if None = false
is_exit_if (Some last) = is_exit last.kind

-- the check-in is of this position
abbrev pub is_at : ℕ → Checkin → Bool
is_at position checkin = checkin.position == position

-- the last check-in of a position, by whatever list: by its moment, and then by its id
abbrev pub last_at : ℕ → List Checkin → Option Passage
last_at position checkins = last_after None (filter (is_at position) checkins)

-- the position has gone out: its last check-in is an exit
unfoldable pub is_out : ℕ → List Checkin → Bool
is_out position checkins = is_exit_if (last_at position checkins)
