-- Rows in order of their keys, of which a function changes the one of a key.
use Rattle.std.proofs.Common.{◌≡◌, ◌≢◌, ℕ, zero, suc, ◌+◌, ◌<◌, ◌⊎◌, inl, inr, true, false, cond, eqb, List, [], ◌∷◌, get_or, set, map, Some, None, refl, sym, ap, ◌∙◌, subst, arith}
use Rattle.std.proofs.lemmas.Bool.Decides.{eqb_tells}
use Rattle.base_tables.specs.Tables.{row_at, InOrderFrom, IsPlace}
use Rattle.base_tables.proofs.Places.{at_least}

pub map_two : {A B C : Type 0} (f : A → B) (g : B → C) (xs : List A) → map g (map f xs) ≡ map (λ x. g (f x)) xs
map_two f g [] = refl
map_two f g (x ∷ xs) = ap (λ l. g (f x) ∷ l) (map_two f g xs)

module _ {T : Type 0} (key : T → ℕ) where
  -- a function that leaves each row but one of this key as it is
  module _ (f : T → T) (k : ℕ) (apart : (s : T) → key s ≢ k → f s ≡ s) where
    map_above : (n : ℕ) (rows : List T) → k < n → InOrderFrom key n rows → map f rows ≡ rows
    map_above n [] lt h = refl
    map_above n (r ∷ rs) lt h =
        let one : f r ≡ r = apart r (λ e. omega (arith, lt, h.0, e)) in
        let others = map_above (key r + 1) rs (omega (arith, lt, h.0)) h.1 in
        ap (λ s. s ∷ map f rs) one ∙ ap (λ l. r ∷ l) others

    pub map_absent : (rows : List T) → row_at key k rows ≡ None → map f rows ≡ rows
    map_absent [] e = refl
    map_absent (r ∷ rs) e = by_id (eqb_tells (key r) k) (map_absent rs)
      where
        by_id : ((eqb (key r) k ≡ true) × (key r ≡ k)) ⊎ ((eqb (key r) k ≡ false) × (key r ≢ k)) → (row_at key k rs ≡ None → map f rs ≡ rs) → map f (r ∷ rs) ≡ r ∷ rs
        by_id (inl t) more =
            let found : cond true (Some r) (row_at key k rs) ≡ None = ap (λ b. cond b (Some r) (row_at key k rs)) (sym t.0) ∙ e in
            absurd (cc (found))
        by_id (inr t) more =
            let others : row_at key k rs ≡ None = ap (λ b. cond b (Some r) (row_at key k rs)) (sym t.0) ∙ e in
            ap (λ s. s ∷ map f rs) (apart r t.1) ∙ ap (λ l. r ∷ l) (more others)

    pub map_set : (n : ℕ) (rows : List T) (i : ℕ) (d : T) → InOrderFrom key n rows → IsPlace key rows k i → set rows i (f (get_or rows i d)) ≡ map f rows
    map_set n [] i d h p = absurd (omega (arith, p.in_range))
    map_set n (r ∷ rs) zero d h p = ap (λ l. f r ∷ l) (sym (map_above (key r + 1) rs (omega (arith, p.has_id r)) h.1))
    map_set n (r ∷ rs) (suc i) d h p =
        let q : IsPlace key rs k i = record { in_range = omega (arith, p.in_range); has_id = p.has_id } in
        let one : f r ≡ r = apart r (λ e. omega (arith, e, q.has_id d, at_least key (key r + 1) rs h.1 i d q.in_range)) in
        ap (λ s. s ∷ set rs i (f (get_or rs i d))) (sym one) ∙ ap (λ l. f r ∷ l) (map_set (key r + 1) rs i d h.1 q)

-- rows made of rows, each with the key of the one that it is made of
pub mapped_in_order : {S T : Type 0} (of : S → ℕ) (key : T → ℕ) (f : S → T) → ((s : S) → key (f s) ≡ of s) → (n : ℕ) (rows : List S) → InOrderFrom of n rows → InOrderFrom key n (map f rows)
mapped_in_order of key f same n [] h = tt
mapped_in_order of key f same n (r ∷ rs) h = (omega (arith, h.0, same r), subst (λ (k : ℕ). InOrderFrom key (k + 1) (map f rs)) (sym (same r)) (mapped_in_order of key f same (of r + 1) rs h.1))
