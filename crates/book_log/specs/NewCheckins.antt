-- Changes that put new check-ins, and what they make of the last one of a position.
use Rattle.std.specs.Prelude.{◌≡◌, ℕ, List, [], ◌∷◌, Option, Some, None, if◌then◌else◌}
use Rattle.model_rows.specs.declared.changes.Change.{Change}
use Rattle.model_rows.specs.declared.changes.Change.TheVariants.{PutCheckin}
use Rattle.model_rows.specs.declared.passages.Passage.{Passage}
use Rattle.model_rows.specs.Lists.{Lists, checkin_at}
use Rattle.model_rows.specs.Change.{after_change}
use Rattle.model_rows.specs.Passages.{is_at, later, passage}

-- where the change puts a check-in, none has its id
abbrev pub IsNewCheckin : Change → Lists → Type 0
IsNewCheckin (PutCheckin row) lists = checkin_at row.id lists ≡ None
IsNewCheckin _ lists = Unit {0}

-- each of these changes, one after another
abbrev pub AreNewCheckins : List Change → Lists → Type 0
AreNewCheckins [] lists = Unit {0}
AreNewCheckins (change ∷ changes) lists = IsNewCheckin change lists × AreNewCheckins changes (after_change change lists)

-- the last check-in of a position, where a change may put one more
abbrev pub last_with : ℕ → Change → Option Passage → Option Passage
last_with position (PutCheckin row) last = if is_at position row then Some (later last (passage row)) else last
last_with position _ last = last

-- with one change after another
abbrev pub last_with_all : ℕ → List Change → Option Passage → Option Passage
last_with_all position [] last = last
last_with_all position (change ∷ changes) last = last_with_all position changes (last_with position change last)
