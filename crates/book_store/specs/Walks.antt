-- What a walk over some ids finds.
use Rattle.std.specs.Prelude.{ℕ, Bool, List, [], ◌∷◌, ◌++◌, Option, Some, None, if◌then◌else◌}
use Rattle.base_tables.specs.Tables.{row_at, sum_at}

-- the row, if there is one
abbrev pub row_as_list : {T : Type 0} → Option T → List T
row_as_list None = []
row_as_list (Some row) = row ∷ []

-- the rows of these ids, as far as they stand
abbrev pub rows_of : {T : Type 0} → (T → ℕ) → List ℕ → List T → List T
rows_of id [] rows = []
rows_of id (i ∷ is) rows = row_as_list (row_at id i rows) ++ rows_of id is rows

-- the row, if there is one and it passes
abbrev pub passing : {T : Type 0} → (T → Bool) → Option T → Option T
passing test None = None
passing test (Some row) = if test row then Some row else None

-- 1 where there is a row, and it passes
unfoldable pub one_if : {T : Type 0} → (T → Bool) → Option T → ℕ
one_if test row = sum_at (λ r. if test r then 1 else 0) row

-- what the row counts, and 0 where there is none
unfoldable pub amount_of : {T : Type 0} → (T → ℕ) → Option T → ℕ
amount_of amount row = sum_at amount row
