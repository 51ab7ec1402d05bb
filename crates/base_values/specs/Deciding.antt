-- How decisions are said: step by step, up to the first refusal. A step `x ← e` is the code's `let x = e?;`.
use Rattle.std.specs.Prelude.{Bool, Option, Some, None, Result, Ok, Err, if◌then◌else◌}

-- what comes next, with what the step gave
infixl 10 ◌>>=◌
abbrev pub ◌>>=◌ : {A B E : Type 0} → Result A E → (A → Result B E) → Result B E
Ok x >>= next = next x
Err refusal >>= next = Err refusal

-- what comes next, where the test passed
infixl 10 ◌>>◌
abbrev pub ◌>>◌ : {A E : Type 0} → Result (Unit {0}) E → Result A E → Result A E
Ok _ >> next = next
Err refusal >> next = Err refusal

-- refused unless it holds
abbrev pub check : {E : Type 0} → Bool → E → Result (Unit {0}) E
check holds refusal = if holds then Ok tt else Err refusal

-- refused where it holds
abbrev pub refuse_if : {E : Type 0} → Bool → E → Result (Unit {0}) E
refuse_if holds refusal = if holds then Err refusal else Ok tt

-- refused with what was found, where something was
abbrev pub refuse_some : {A E : Type 0} → (A → E) → Option A → Result (Unit {0}) E
refuse_some refusal None = Ok tt
refuse_some refusal (Some x) = Err (refusal x)

-- with the refusal of a lower layer as one of this layer
abbrev pub map_err : {A E F : Type 0} → (E → F) → Result A E → Result A F
map_err own (Ok x) = Ok x
map_err own (Err refusal) = Err (own refusal)
