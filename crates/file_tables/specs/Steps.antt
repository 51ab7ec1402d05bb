-- What many things make of the tables, one after another.
use Rattle.std.specs.Prelude.{ℕ, List, [], ◌∷◌}
use Rattle.file_rows.specs.Tables.{Tables}

-- each one is made of what the one before it left, with the row number that is free then
abbrev pub made_each : {T : Type 0} → (T → ℕ → Tables → Tables) → (T → ℕ → ℕ) → List T → ℕ → Tables → Tables
made_each made next [] from t = t
made_each made next (x ∷ xs) from t = made_each made next xs (next x from) (made x from t)

-- the row number that is free after them
abbrev pub next_each : {T : Type 0} → (T → ℕ → ℕ) → List T → ℕ → ℕ
next_each next [] from = from
next_each next (x ∷ xs) from = next_each next xs (next x from)
