-- JSON in pieces, as an answer is written: an object that stays open, further members of it, a list row by row.
use Rattle.std.specs.Prelude.{ℕ, ◌-◌, List, ◌∷◌, ◌++◌, Bool, take, drop, length}
use Rattle.serde_json.specs.Data.{Data, string}
use Rattle.serde_json.specs.Written.{comma_if, compact_text}

-- the text of an object without its closing brace
abbrev pub object_opened : List ℕ → List ℕ
object_opened text = take (length text - 1) text

-- the text of an object without both braces
abbrev pub inside : List ℕ → List ℕ
inside text = drop 1 (object_opened text)

-- a key, a colon, and the text of its value
abbrev pub member_text : List ℕ → Data → List ℕ
member_text key value = compact_text (string key) ++ 58 ∷ compact_text value

-- a row of a list, behind a comma where a row stands before it
abbrev pub row_text : Bool → Data → List ℕ
row_text later row = comma_if later ++ compact_text row
