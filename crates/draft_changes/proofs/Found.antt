-- What is found at the places of a list.
use Rattle.std.proofs.Common.{◌≡◌, ℕ, zero, suc, ◌<◌, ◌≤◌, Bool, true, false, List, [], ◌∷◌, length, get_or, Some, None, refl, arith}
use Rattle.std.specs.Prelude.{if◌then◌else◌, find, option_map, is_some}
use Rattle.draft_changes.specs.Least.{found_at}

pub found_here : {T : Type 0} (key : T → ℕ) (passes : T → Bool) (rows : List T) (i : ℕ) (d : T) → i < length rows → found_at key passes rows i ≡ (if passes (get_or rows i d) then Some (key (get_or rows i d)) else None)
found_here key passes [] i d lt = absurd (omega arith)
found_here key passes (r ∷ rs) zero d lt = refl
found_here key passes (r ∷ rs) (suc i) d lt = found_here key passes rs i d (omega arith)

pub found_past : {T : Type 0} (key : T → ℕ) (passes : T → Bool) (rows : List T) (i : ℕ) → length rows ≤ i → found_at key passes rows i ≡ None
found_past key passes [] i le = refl
found_past key passes (r ∷ rs) zero le = absurd (omega arith)
found_past key passes (r ∷ rs) (suc i) le = found_past key passes rs i (omega arith)

-- the first that passes
pub found_none : {T : Type 0} (key : T → ℕ) (passes : T → Bool) (rows : List T) → ((place : ℕ) → found_at key passes rows place ≡ None) → option_map key (find passes rows) ≡ None
found_none key passes [] none = refl
found_none key passes (r ∷ rs) none = by_test (passes r) (none 0) (found_none key passes rs (λ place. none (suc place)))
  where
    by_test : (b : Bool) → (if b then Some (key r) else None) ≡ None → option_map key (find passes rs) ≡ None → option_map key (if b then Some r else find passes rs) ≡ None
    by_test true here rest = absurd (cc here)
    by_test false here rest = rest

pub found_first : {T : Type 0} (key : T → ℕ) (passes : T → Bool) (rows : List T) (at id : ℕ) → ((place : ℕ) → place < at → found_at key passes rows place ≡ None) → found_at key passes rows at ≡ Some id → option_map key (find passes rows) ≡ Some id
found_first key passes [] at id none some = absurd (cc some)
found_first key passes (r ∷ rs) zero id none some = by_test (passes r) some
  where
    by_test : (b : Bool) → (if b then Some (key r) else None) ≡ Some id → option_map key (if b then Some r else find passes rs) ≡ Some id
    by_test true here = here
    by_test false here = absurd (cc here)
found_first key passes (r ∷ rs) (suc at) id none some = by_test (passes r) (none 0 (omega arith)) (found_first key passes rs at id (λ place lt. none (suc place) (omega arith)) some)
  where
    by_test : (b : Bool) → (if b then Some (key r) else None) ≡ None → option_map key (find passes rs) ≡ Some id → option_map key (if b then Some r else find passes rs) ≡ Some id
    by_test true here rest = absurd (cc here)
    by_test false here rest = rest

-- what is found is at its place
pub found_within : {T : Type 0} (key : T → ℕ) (passes : T → Bool) (rows : List T) (i : ℕ) → is_some (found_at key passes rows i) ≡ true → i < length rows
found_within key passes [] i some = absurd (cc some)
found_within key passes (r ∷ rs) zero some = omega arith
found_within key passes (r ∷ rs) (suc i) some = omega (arith, found_within key passes rs i some)

pub found_is : {T : Type 0} (key : T → ℕ) (passes : T → Bool) (rows : List T) (i : ℕ) (d : T) → is_some (found_at key passes rows i) ≡ true → found_at key passes rows i ≡ Some (key (get_or rows i d))
found_is key passes [] i d some = absurd (cc some)
found_is key passes (r ∷ rs) zero d some = by_test (passes r) some
  where
    by_test : (b : Bool) → is_some (if b then Some (key r) else None) ≡ true → (if b then Some (key r) else None) ≡ Some (key r)
    by_test true here = refl
    by_test false here = absurd (cc here)
found_is key passes (r ∷ rs) (suc i) d some = found_is key passes rs i d some
