-- What rows that name others add up to, by those that they name.
use Rattle.std.proofs.Common.{◌≡◌, ℕ, ◌+◌, Bool, true, false, eqb, List, [], ◌∷◌, Option, Some, None, refl, sym, ap, ◌∙◌, sum_by, arith}
use Rattle.std.specs.Prelude.{if◌then◌else◌}
use Rattle.std.proofs.lemmas.Bool.Decides.{nat_tests}
use Rattle.std.proofs.lemmas.List.Sums.{sum_by-cons}
use Rattle.base_tables.specs.Tables.{row_at, InOrderFrom, AreInOrder}
use Rattle.base_tables.proofs.Edits.{row_at_above}
use Rattle.model_rows.specs.Conditions.{names}
use Rattle.model_rows.proofs.Time.{sum_by_split, eqb_flip}
use Rattle.book_counts_over_time.specs.Names.{passes_if, names_one}

module _ {V C : Type 0} (id : V → ℕ) (name : C → Option ℕ) (test : V → Bool) (g : C → ℕ) (cs : List C) where
  -- what those add up to that name this one
  abbrev of_one : V → ℕ
  of_one v = if test v then sum_by (λ c. if names (id v) (name c) then g c else 0) cs else 0

  choose : (b : Bool) (v : V) (found : Option V) → passes_if test (if b then Some v else found) ≡ (if b then test v else passes_if test found)
  choose true v found = refl
  choose false v found = refl

  named_cons : (v : V) (vs : List V) (n : Option ℕ) → names_one id test (v ∷ vs) n ≡ (if names (id v) n then test v else names_one id test vs n)
  named_cons v vs None = refl
  named_cons v vs (Some x) = choose (eqb (id v) x) v (row_at id x vs) ∙ ap (λ b. if b then test v else names_one id test vs (Some x)) (eqb_flip (id v) x)

  apart : (v : V) (vs : List V) → InOrderFrom id (id v + 1) vs → (n : Option ℕ) → names (id v) n ≡ true → names_one id test vs n ≡ false
  apart v vs h None e = absurd (cc)
  apart v vs h (Some x) e =
      let same : x ≡ id v = grind (arith, nat_tests, e) in
      ap (passes_if test) (row_at_above id (id v + 1) x vs (omega arith) h)

  either : (named now before : Bool) (n : ℕ) → (named ≡ true → before ≡ false) → (if before then n else 0) + (if now then (if named then n else 0) else 0) ≡ (if (if named then now else before) then n else 0)
  either true true true n h = absurd (cc (h refl))
  either true true false n h = omega arith
  either true false true n h = absurd (cc (h refl))
  either true false false n h = omega arith
  either false true true n h = omega arith
  either false true false n h = omega arith
  either false false true n h = omega arith
  either false false false n h = omega arith

  gate : (b : Bool) (f : C → ℕ) (xs : List C) → (if b then sum_by f xs else 0) ≡ sum_by (λ c. if b then f c else 0) xs
  gate true f xs = refl
  gate false f xs = none xs
    where
      none : (xs : List C) → 0 ≡ sum_by (λ (c : C). 0) xs
      none [] = refl
      none (x ∷ xs) = omega (arith, none xs, sum_by-cons (λ (c : C). 0) x xs)

  by_name : (n : ℕ) (vs : List V) → InOrderFrom id n vs → sum_by of_one vs ≡ sum_by (λ c. if names_one id test vs (name c) then g c else 0) cs
  by_name n [] h = nothing cs
    where
      no_one : (o : Option ℕ) → names_one id test [] o ≡ false
      no_one None = refl
      no_one (Some x) = refl

      nothing : (xs : List C) → 0 ≡ sum_by (λ c. if names_one id test [] (name c) then g c else 0) xs
      nothing [] = refl
      nothing (x ∷ xs) = omega (arith, nothing xs, sum_by-cons (λ c. if names_one id test [] (name c) then g c else 0) x xs, ap (λ b. if b then g x else 0) (no_one (name x)))
  by_name n (v ∷ vs) h =
      let own = gate (test v) (λ c. if names (id v) (name c) then g c else 0) cs in
      let parts = sum_by_split (λ c. if names_one id test vs (name c) then g c else 0) (λ c. if test v then (if names (id v) (name c) then g c else 0) else 0) (λ c. if names_one id test (v ∷ vs) (name c) then g c else 0) cs
      (λ c. either (names (id v) (name c)) (test v) (names_one id test vs (name c)) (g c) (apart v vs h.1 (name c)) ∙ ap (λ b. if b then g c else 0) (sym (named_cons v vs (name c)))) in
      omega (arith, by_name (id v + 1) vs h.1, own, parts, sum_by-cons of_one v vs)

  -- added up by those that are named, as by those that name them
  pub sum_by_name : (vs : List V) → AreInOrder id vs → sum_by of_one vs ≡ sum_by (λ c. if names_one id test vs (name c) then g c else 0) cs
  sum_by_name vs order = by_name 0 vs order
