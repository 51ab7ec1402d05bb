-- What a query is told.
use Rattle.std.specs.Prelude.{◌≡◌, Result, IfOk}

-- unless memory is refused it is this
abbrev pub IfOkIs : {T E : Type 0} → Result T E → T → Type 0
IfOkIs result what = IfOk result (λ is. is ≡ what)
