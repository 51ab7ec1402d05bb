-- What a test tells.
use Rattle.std.specs.Prelude.{◌↔◌, Bool, Result, IfOk, IsTrue}

-- where it comes to an end it tells whether this is so
abbrev pub TellsWhether : {E : Type 0} → Result Bool E → Type 0 → Type 0
TellsWhether result Holds = IfOk result (λ told. IsTrue told ↔ Holds)
