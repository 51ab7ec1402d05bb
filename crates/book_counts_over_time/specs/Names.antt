-- Rows that name others.
use Rattle.std.specs.Prelude.{ℕ, Bool, false, List, Option, Some, None}
use Rattle.base_tables.specs.Tables.{row_at}

-- there is one, and it passes the test
abbrev pub passes_if : {V : Type 0} → (V → Bool) → Option V → Bool
passes_if test None = false
passes_if test (Some v) = test v

-- the name is that of one that passes
abbrev pub names_one : {V : Type 0} → (V → ℕ) → (V → Bool) → List V → Option ℕ → Bool
names_one id test vs None = false
names_one id test vs (Some x) = passes_if test (row_at id x vs)
