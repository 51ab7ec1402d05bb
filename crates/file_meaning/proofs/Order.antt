-- Lists in order of id.
use Rattle.std.proofs.Common.{◌≡◌, ℕ, ◌+◌, ◌<◌, ◌≤◌, ◌==◌, leb, true, false, cond, not, List, [], ◌∷◌, filter, refl, sym, ap, subst, ◌∙◌, arith, nat_lt}
use Rattle.std.specs.List.Sorted.{IsPermutation}
use Rattle.std.proofs.lemmas.Bool.Decides.{nat_tests}
use Rattle.std.proofs.lemmas.List.Sorted.{IsPermutation-refl, IsPermutation-sym, IsPermutation-trans, IsPermutation-cons, IsPermutation-middle, length_permutation}
use Rattle.sqlite_trees.proofs.ListLemmas.{IsPermutation-filter}
use Rattle.sqlite.proofs.Callers.{one_permutation}
use Rattle.base_tables.specs.Tables.{with_row, without_row, InOrderFrom, AreInOrder}
use Rattle.base_tables.proofs.Places.{order_weaker, without_above, with_row_in_order, without_row_in_order}

module _ {T : Type 0} (key : T → ℕ) where
  abbrev pub rows_at : ℕ → List T → List T
  rows_at id = filter (λ r. key r == id)

  pub at_above : (n id : ℕ) (rows : List T) → id < n → InOrderFrom key n rows → rows_at id rows ≡ []
  at_above n id [] lt h = refl
  at_above n id (r ∷ rs) lt h = grind (arith, nat_tests, h.0, at_above (key r + 1) id rs (omega (arith, h.0)) h.1)

  turned : (x y : T) (xs : List T) → IsPermutation (x ∷ y ∷ xs) (y ∷ x ∷ xs)
  turned x y xs = IsPermutation-sym (y ∷ x ∷ xs) (x ∷ y ∷ xs) (IsPermutation-middle (y ∷ []) x xs)

  -- a row that is put stands beside the others
  pub put_in : (n : ℕ) (row : T) (rows : List T) → InOrderFrom key n rows → IsPermutation (row ∷ without_row key (key row) rows) (with_row key row rows)
  put_in n row [] h = IsPermutation-refl (row ∷ [])
  put_in n row (r ∷ rs) h =
      elim (nat_lt (key r) (key row)) as (λ b. nat_lt (key r) (key row) ≡ b
      → IsPermutation (row ∷ cond (not (key r == key row)) (r ∷ without_row key (key row) rs) (without_row key (key row) rs)) (cond b (r ∷ with_row key row rs) (cond (key r == key row) (row ∷ rs) (row ∷ r ∷ rs)))) [
        | true ↦ λ e.
            let other : (key r == key row) ≡ false = grind (arith, nat_tests) in
            rw other (IsPermutation-trans (row ∷ r ∷ without_row key (key row) rs) (r ∷ row ∷ without_row key (key row) rs) (r ∷ with_row key row rs) (turned row r (without_row key (key row) rs))
            (IsPermutation-cons r (row ∷ without_row key (key row) rs) (with_row key row rs) (put_in (key r + 1) row rs h.1)))
        | false ↦ λ e.
            let above : without_row key (key row) rs ≡ rs = without_above key (key r + 1) rs (key row) (grind (arith, nat_tests)) h.1 in
            elim (key r == key row) as (λ b. IsPermutation (row ∷ cond (not b) (r ∷ without_row key (key row) rs) (without_row key (key row) rs)) (cond b (row ∷ rs) (row ∷ r ∷ rs))) [
              | true ↦ subst (λ l. IsPermutation (row ∷ l) (row ∷ rs)) (sym above) (IsPermutation-refl (row ∷ rs))
              | false ↦ subst (λ l. IsPermutation (row ∷ r ∷ l) (row ∷ r ∷ rs)) (sym above) (IsPermutation-refl (row ∷ r ∷ rs))
            ]
      ] refl

  pub only_first : (n : ℕ) (x : T) (xs : List T) → InOrderFrom key n (x ∷ xs) → rows_at (key x) (x ∷ xs) ≡ x ∷ []
  only_first n x xs h = grind (arith, nat_tests, at_above (key x + 1) (key x) xs (omega arith) h.1)

  pub first_gone : (n : ℕ) (x : T) (xs : List T) → InOrderFrom key n (x ∷ xs) → without_row key (key x) (x ∷ xs) ≡ xs
  first_gone n x xs h = grind (arith, nat_tests, without_above key (key x + 1) xs (key x) (omega arith) h.1)

  -- where one row of the id stands, the list goes not from above it
  not_below : (n : ℕ) (x : T) (xs ys : List T) → InOrderFrom key 0 (x ∷ xs) → InOrderFrom key n ys → IsPermutation (x ∷ xs) ys → n ≤ key x
  not_below n x xs ys h k same =
      let there : rows_at (key x) ys ≡ x ∷ [] = one_permutation x (rows_at (key x) ys) (subst (λ l. IsPermutation l (rows_at (key x) ys)) (only_first 0 x xs h) (IsPermutation-filter (λ r. key r == key x) (x ∷ xs) ys same)) in
      elim (leb n (key x)) as (λ b. leb n (key x) ≡ b → n ≤ key x) [
        | true ↦ λ e. grind (arith, nat_tests)
        | false ↦ λ e. absurd (let none : rows_at (key x) ys ≡ [] = at_above n (key x) ys (grind (arith, nat_tests)) k in let both : x ∷ [] ≡ [] = sym there ∙ none in cc)
      ] refl

  same_first : (x y : T) (xs ys : List T) → InOrderFrom key 0 (x ∷ xs) → InOrderFrom key 0 (y ∷ ys) → IsPermutation (x ∷ xs) (y ∷ ys) → x ≡ y
  same_first x y xs ys h k same =
      let low : key y ≤ key x = not_below (key y) x xs (y ∷ ys) h (omega arith, k.1) same in
      let high : key x ≤ key y = not_below (key x) y ys (x ∷ xs) k (omega arith, h.1) (IsPermutation-sym (x ∷ xs) (y ∷ ys) same) in
      let is : key x ≡ key y = omega (arith, low, high) in
      let there : rows_at (key x) (y ∷ ys) ≡ x ∷ [] = one_permutation x (rows_at (key x) (y ∷ ys)) (subst (λ l. IsPermutation l (rows_at (key x) (y ∷ ys))) (only_first 0 x xs h) (IsPermutation-filter (λ r. key r == key x) (x ∷ xs) (y ∷ ys) same)) in
      let here : rows_at (key x) (y ∷ ys) ≡ y ∷ [] = ap (λ id. rows_at id (y ∷ ys)) is ∙ only_first 0 y ys k in
      let both : x ∷ [] ≡ y ∷ [] = sym there ∙ here in cc

  -- two lists in order that are permutations are equal
  pub same_order : (xs ys : List T) → AreInOrder key xs → AreInOrder key ys → IsPermutation xs ys → xs ≡ ys
  same_order [] [] h k same = refl
  same_order [] (y ∷ ys) h k same = absurd (omega (arith, length_permutation [] (y ∷ ys) same))
  same_order (x ∷ xs) [] h k same = absurd (omega (arith, length_permutation (x ∷ xs) [] same))
  same_order (x ∷ xs) (y ∷ ys) h k same =
      let is : x ≡ y = same_first x y xs ys h k same in
      let less : IsPermutation (without_row key (key x) (x ∷ xs)) (without_row key (key x) (y ∷ ys)) = IsPermutation-filter (λ r. not (key r == key x)) (x ∷ xs) (y ∷ ys) same in
      let right : without_row key (key x) (y ∷ ys) ≡ ys = ap (λ r. without_row key (key r) (y ∷ ys)) is ∙ first_gone 0 y ys k in
      let rest : IsPermutation xs ys = subst (λ l. IsPermutation l ys) (first_gone 0 x xs h) (subst (IsPermutation (without_row key (key x) (x ∷ xs))) right less) in
      let more : xs ≡ ys = same_order xs ys (order_weaker key (key x + 1) 0 xs (omega arith) h.1) (order_weaker key (key y + 1) 0 ys (omega arith) k.1) rest in
      ap (λ r. r ∷ xs) is ∙ ap (λ l. y ∷ l) more

  pub put_stays : (row : T) (rows : List T) → AreInOrder key rows → AreInOrder key (with_row key row rows)
  put_stays row rows h = with_row_in_order key 0 row rows (omega arith) h

  pub drop_stays : (id : ℕ) (rows : List T) → AreInOrder key rows → AreInOrder key (without_row key id rows)
  drop_stays id rows h = without_row_in_order key 0 id rows h
