-- The check-ins of a position by a list, and which of them is the last.
use Rattle.std.specs.Prelude.{◌≡◌, ℕ, Bool, false, ◌&&◌, ◌==◌, List, [], filter, Any, Option, Some, None}
use Rattle.std.specs.List.{list_any, AllByRecursion}
use Rattle.model_rows.specs.declared.rows.Checkin.{Checkin}
use Rattle.model_rows.specs.declared.passages.Passage.{Passage}
use Rattle.model_rows.specs.Passages.{is_entry, passage, is_later, last_after}

-- the check-in is of this position, by this list
abbrev pub is_of : ℕ → ℕ → Checkin → Bool
is_of list position checkin = checkin.list == list && checkin.position == position

-- the check-ins of a position by a list, by id
abbrev pub checkins_of : ℕ → ℕ → List Checkin → List Checkin
checkins_of list position checkins = filter (is_of list position) checkins

-- an entry of the position is stored for the list
abbrev pub has_entry : ℕ → ℕ → List Checkin → Bool
has_entry list position checkins = list_any (λ c. is_of list position c && is_entry c.kind) checkins

-- the last check-in of a position by a list, in whatever order they were stored
abbrev pub last_of : ℕ → ℕ → List Checkin → Option Passage
last_of list position checkins = last_after None (checkins_of list position checkins)

-- that of one of these, and none of them is later; or there are none
abbrev pub IsLast : Option Passage → List Checkin → Type 0
IsLast None checkins = checkins ≡ []
IsLast (Some last) checkins = Any (λ c. passage c ≡ last) checkins × AllByRecursion (λ c. is_later (passage c) last ≡ false) checkins
