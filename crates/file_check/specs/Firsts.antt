-- Rows of which no two are alike, told by look-ups.
use Rattle.std.specs.Prelude.{ℕ, Bool, true, ◌==◌, List, Option, Some, None, find}

-- a row that is found has the id
abbrev pub has_id : {T : Type 0} → (T → ℕ) → ℕ → Option T → Bool
has_id key id None = true
has_id key id (Some row) = key row == id

-- no row before it is like it: the first one that is, if there is one, is the row itself
abbrev pub is_first : {T : Type 0} → (T → ℕ) → (T → T → Bool) → List T → T → Bool
is_first key alike rows row = has_id key (key row) (find (λ r. alike r row) rows)
