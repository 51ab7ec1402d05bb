-- What is known of each step of a decision that gave a value: `gave` of a step, `passed` and `unrefused` of a test.
use Rattle.std.proofs.Common.{◌≡◌, Bool, true, false, Option, Some, None, Result, Ok, Err, refl}
use Rattle.std.specs.Option.{ok_or}
use Rattle.base_values.specs.Deciding.{◌>>=◌, ◌>>◌, check, refuse_if, refuse_some, map_err}

module _ {A B E : Type 0} where
  -- the step gave a value, with which it went on
  pub gave : (step : Result A E) (next : A → Result B E) {y : B} → (step >>= next) ≡ Ok y → (x : A) × (step ≡ Ok x) × (next x ≡ Ok y)
  gave (Ok x) next h = (x, refl, h)
  gave (Err refusal) next h = absurd (cc)

  -- a step that takes what was found
  pub found : (o : Option A) (refusal : E) (next : A → Result B E) {y : B} → (ok_or o refusal >>= next) ≡ Ok y → (x : A) × (o ≡ Some x) × (next x ≡ Ok y)
  found (Some x) refusal next h = (x, refl, h)
  found None refusal next h = absurd (cc)

  -- a step of a lower layer
  pub gave_below : {D : Type 0} (own : D → E) (step : Result A D) (next : A → Result B E) {y : B} → (map_err own step >>= next) ≡ Ok y → (x : A) × (step ≡ Ok x) × (next x ≡ Ok y)
  gave_below own (Ok x) next h = (x, refl, h)
  gave_below own (Err refusal) next h = absurd (cc)

module _ {A E : Type 0} where
  -- the test passed
  pub passed : (holds : Bool) (refusal : E) (next : Result A E) {y : A} → (check holds refusal >> next) ≡ Ok y → (holds ≡ true) × (next ≡ Ok y)
  passed true refusal next h = (refl, h)
  passed false refusal next h = absurd (cc)

  pub unrefused : (holds : Bool) (refusal : E) (next : Result A E) {y : A} → (refuse_if holds refusal >> next) ≡ Ok y → (holds ≡ false) × (next ≡ Ok y)
  unrefused true refusal next h = absurd (cc)
  unrefused false refusal next h = (refl, h)

  pub found_none : {B : Type 0} (refusal : B → E) (o : Option B) (next : Result A E) {y : A} → (refuse_some refusal o >> next) ≡ Ok y → (o ≡ None) × (next ≡ Ok y)
  found_none refusal None next h = (refl, h)
  found_none refusal (Some x) next h = absurd (cc)

  -- a step that is told by its refusals alone
  pub gave_unit : (step : Result (Unit {0}) E) (next : Result A E) {y : A} → (step >> next) ≡ Ok y → (step ≡ Ok tt) × (next ≡ Ok y)
  gave_unit (Ok tt) next h = (refl, h)
  gave_unit (Err refusal) next h = absurd (cc)

  -- what it gave in the end
  pub gave_it : (x y : A) → (let given : Result A E = Ok x in given ≡ Ok y) → x ≡ y
  gave_it x y h = cc
