-- The first entries of a list, and those that are not kept.
use Rattle.std.proofs.Common.{◌≡◌, ℕ, zero, suc, List, [], ◌∷◌, length, take, Result, Ok, Err, refl, ap, ◌∙◌}
use Rattle.serde_json.specs.Data.{Data}
use Rattle.serde_json.specs.View.{view, items_view}
use Rattle.serde_json.specs.declared.value.Value.{Value}
use Rattle.web_fields.specs.declared.error.BodyFault.{BodyFault}
use Rattle.web_fields.specs.Reading.{◌>>=◌}
use Rattle.web_fields.specs.Lists.{all_of, at_most}

-- one entry more in front
abbrev pub led : {A : Type 0} → A → Result (List A) BodyFault → Result (List A) BodyFault
led x rest = rest >>= λ xs. Ok (x ∷ xs)

led_most : {A : Type 0} (n : ℕ) (x : A) (rest : Result (List A) BodyFault) → at_most (suc n) (led x rest) ≡ led x (at_most n rest)
led_most n x (Ok xs) = refl
led_most n x (Err e) = refl

most_of : {A : Type 0} (read : Data → Result A BodyFault) (v : Value) (rest : Result (List A) BodyFault) (n : ℕ)
    → at_most n rest ≡ rest → at_most (suc n) (read (view v) >>= λ x. led x rest) ≡ (read (view v) >>= λ x. led x rest)
most_of read v rest n h =
    elim (read (view v)) as (λ r. at_most (suc n) (r >>= λ x. led x rest) ≡ (r >>= λ x. led x rest)) [ Ok x ↦ led_most n x rest ∙ ap (led x) h | Err e ↦ refl ]

-- as many as there are keeps all of them
pub all_kept : {A : Type 0} (read : Data → Result A BodyFault) (list : List Value)
    → at_most (length list) (all_of read (items_view list)) ≡ all_of read (items_view list)
all_kept read [] = refl
all_kept read (v ∷ vs) = most_of read v (all_of read (items_view vs)) (length vs) (all_kept read vs)

-- what each entry says, where none has a fault
abbrev pub all_said : {A : Type 0} → (Data → A) → List Value → List A
all_said said [] = []
all_said said (v ∷ vs) = said (view v) ∷ all_said said vs

all_read : {A : Type 0} (said : Data → A) (list : List Value) → all_of (λ d. Ok (said d)) (items_view list) ≡ Ok (all_said said list)
all_read said [] = refl
all_read said (v ∷ vs) = ap (led (said (view v))) (all_read said vs)

all_taken : {A : Type 0} (said : Data → A) (n : ℕ) (list : List Value) → all_said said (take n list) ≡ take n (all_said said list)
all_taken said zero list = refl
all_taken said (suc n) [] = refl
all_taken said (suc n) (v ∷ vs) = ap (λ xs. said (view v) ∷ xs) (all_taken said n vs)

-- where no entry has a fault, the first entries alone say what the first of them all say
pub first_said : {A : Type 0} (said : Data → A) (n : ℕ) (list : List Value)
    → all_of (λ d. Ok (said d)) (items_view (take n list)) ≡ at_most n (all_of (λ d. Ok (said d)) (items_view list))
first_said said n list = rw (all_read said (take n list), all_read said list) (ap Ok (all_taken said n list))
