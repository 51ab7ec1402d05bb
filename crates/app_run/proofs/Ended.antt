-- What ended well.
use Rattle.std.proofs.Common.{Result, Ok, Err, IfOk, OnOk, ◌≡◌, subst, sym}

-- what holds where it ended well holds of what was made, if that is handed on only then
pub once_well : {T E F : Type 0} (r : Result T F) (made : T) (ended : Result (Unit {0}) E) (P : T → Type 0) → IfOk r (λ it. it ≡ made) → IfOk r (λ _. ended ≡ Ok tt)
    → (ended ≡ Ok tt → P made) → IfOk r P
once_well (Ok it) made ended P same well h = subst P (sym same) (h well)
once_well (Err e) made ended P same well h = tt

-- what follows from a good end
pub well : {E : Type 0} (ended : Result (Unit {0}) E) (Q : Type 0) → ended ≡ Ok tt → OnOk ended Q → Q
well ended Q is given = subst (λ r. OnOk r Q) is given
