-- Functions of rows that differ at one id alone: their values by place, and their sums.
use Rattle.std.proofs.Common.{◌≡◌, ℕ, zero, suc, ◌+◌, ◌≢◌, ◌⊎◌, inl, inr, Bool, true, false, eqb, List, [], ◌∷◌, get_or, set, map, Some, None, refl, sym, ap, ◌∙◌, sum_by, arith}
use Rattle.std.specs.Prelude.{if◌then◌else◌}
use Rattle.std.proofs.lemmas.Bool.Decides.{nat_tests, eqb_tells}
use Rattle.std.proofs.lemmas.List.Sums.{sum_by-cons}
use Rattle.base_tables.specs.Tables.{row_at, sum_at, InOrderFrom, IsPlace}
use Rattle.base_tables.proofs.Places.{at_least}
use Rattle.base_tables.proofs.Edits.{row_at_above}

module _ {T U : Type 0} (key : T → ℕ) (f g : T → U) (id : ℕ) (other : (r : T) → eqb (key r) id ≡ false → g r ≡ f r) where
  -- of rows without the id they are the same
  pub map_none : (rows : List T) → row_at key id rows ≡ None → map g rows ≡ map f rows
  map_none [] e = refl
  map_none (r ∷ rs) e = by_id (eqb (key r) id) refl (map_none rs)
    where
      by_id : (b : Bool) → eqb (key r) id ≡ b → (row_at key id rs ≡ None → map g rs ≡ map f rs) → map g (r ∷ rs) ≡ map f (r ∷ rs)
      by_id true t more = absurd (cc (sym (ap (λ b. if b then Some r else row_at key id rs) t) ∙ e))
      by_id false t more =
          let rest : row_at key id rs ≡ None = sym (ap (λ b. if b then Some r else row_at key id rs) t) ∙ e in
          λ i. other r t i ∷ more rest i

  -- of others they differ at the place of the id
  pub map_one : (n : ℕ) (rows : List T) (i : ℕ) (d : T) → InOrderFrom key n rows → IsPlace key rows id i → set (map f rows) i (g (get_or rows i d)) ≡ map g rows
  map_one n [] i d h p = absurd (omega (arith, p.in_range))
  map_one n (r ∷ rs) zero d h p = ap (λ l. g r ∷ l) (sym (map_none rs (row_at_above key (key r + 1) id rs (omega (arith, p.has_id r)) h.1)))
  map_one n (r ∷ rs) (suc i) d h p =
      let q : IsPlace key rs id i = record { in_range = omega (arith, p.in_range); has_id = p.has_id } in
      let above = at_least key (key r + 1) rs h.1 i d q.in_range in
      let differ : eqb (key r) id ≡ false = grind (arith, nat_tests, above, q.has_id d) in
      ap (λ (x : U). x ∷ set (map f rs) i (g (get_or rs i d))) (sym (other r differ)) ∙ ap (λ l. g r ∷ l) (map_one (key r + 1) rs i d h.1 q)

module _ {T : Type 0} (key : T → ℕ) (f g : T → ℕ) (id : ℕ) (other : (r : T) → eqb (key r) id ≡ false → g r ≡ f r) where
  -- and their sums by what the row of the id adds to each
  pub sum_one : (n : ℕ) (rows : List T) → InOrderFrom key n rows → sum_by g rows + sum_at f (row_at key id rows) ≡ sum_by f rows + sum_at g (row_at key id rows)
  sum_one n [] h = refl
  sum_one n (r ∷ rs) h = by_id (eqb_tells (key r) id) (sum_one (key r + 1) rs h.1)
    where
      by_id : ((eqb (key r) id ≡ true) × (key r ≡ id)) ⊎ ((eqb (key r) id ≡ false) × (key r ≢ id)) → sum_by g rs + sum_at f (row_at key id rs) ≡ sum_by f rs + sum_at g (row_at key id rs) → sum_by g (r ∷ rs) + sum_at f (row_at key id (r ∷ rs)) ≡ sum_by f (r ∷ rs) + sum_at g (row_at key id (r ∷ rs))
      by_id (inl t) more =
          let none = row_at_above key (key r + 1) id rs (omega (arith, t.1)) h.1 in
          omega (arith, more, ap (sum_at f) none, ap (sum_at g) none, sum_by-cons f r rs, sum_by-cons g r rs, ap (λ b. sum_at f (if b then Some r else row_at key id rs)) t.0, ap (λ b. sum_at g (if b then Some r else row_at key id rs)) t.0)
      by_id (inr t) more = omega (arith, more, other r t.0, sum_by-cons f r rs, sum_by-cons g r rs, ap (λ b. sum_at f (if b then Some r else row_at key id rs)) t.0, ap (λ b. sum_at g (if b then Some r else row_at key id rs)) t.0)
