-- Columns as parameters of a statement.
use Rattle.std.specs.Prelude.{◌≡◌, List, [], ◌∷◌, Result, IfOk}
use Rattle.sqlite_value.specs.declared.value.ValueRef.{ValueRef}
use Rattle.sqlite_value.specs.Value.{owned}
use Rattle.sqlite_value.specs.Order.{Row}
use Rattle.sqlite.specs.Values.{bound_value}
use Rattle.file_schema.specs.declared.error.RowError.{RowError}

-- each column that could be bound is bound to its value
abbrev pub AreBound : List (Result ValueRef RowError) → Row → Type 0
AreBound [] values = values ≡ []
AreBound (c ∷ cs) [] = ⊥
AreBound (c ∷ cs) (v ∷ vs) = IfOk c (λ x. bound_value (owned x) ≡ v) × AreBound cs vs
