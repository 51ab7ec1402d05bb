-- What a check-in list knows of a position, check-in by check-in.
use Rattle.std.specs.Prelude.{ℕ, Bool, false, ◌||◌, List, [], ◌∷◌, length, count_by, map, Some, None, if◌then◌else◌}
use Rattle.model_rows.specs.declared.rows.OrderPos.{OrderPos}
use Rattle.model_rows.specs.declared.rows.Checkin.{Checkin}
use Rattle.model_rows.specs.declared.rows.CheckinList.{CheckinList}
use Rattle.model_rows.specs.Lists.{Lists}
use Rattle.model_rows.specs.Passages.{is_entry, is_entry_if, passage, later}
use Rattle.model_commands.specs.declared.doors.DoorStatus.{DoorStatus}
use Rattle.decide_door.specs.declared.stays.Stay.{Stay}
use Rattle.decide_door.specs.Belongs.{belonging}
use Rattle.decide_door.specs.Last.{is_of}

-- nothing yet
abbrev pub no_stay : OrderPos → Stay
no_stay position = record { position = position.id; entered = false; last = None }

-- nothing yet of each position that belongs to the list
abbrev pub no_stays : CheckinList → Lists → List Stay
no_stays list lists = map no_stay (belonging list lists)

-- with one more check-in, where it is of the position, by the list
unfoldable pub checkin_noted : ℕ → Checkin → Stay → Stay
checkin_noted list checkin stay = if is_of list stay.position checkin then record { position = stay.position; entered = stay.entered || is_entry checkin.kind; last = Some (later stay.last (passage checkin)) } else stay

-- with one check-in after another
abbrev pub noted_all : ℕ → List Checkin → Stay → Stay
noted_all list [] stay = stay
noted_all list (c ∷ cs) stay = noted_all list cs (checkin_noted list c stay)

-- the last check-in is an entry
abbrev pub stays_inside : Stay → Bool
stays_inside stay = is_entry_if stay.last

-- how many positions there are, have an entry, and are inside
abbrev pub counts_of : List Stay → DoorStatus
counts_of stays = record { positions = length stays; entered = count_by (λ s. s.entered) stays; inside = count_by stays_inside stays }
