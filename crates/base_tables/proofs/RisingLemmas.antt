-- A list that rises and has the same members is the ids in rising order; what a search among them finds.
use Rattle.std.proofs.Common.{◌≡◌, ◌≢◌, ℕ, suc, ◌+◌, ◌<◌, ◌≤◌, ◌⊎◌, inl, inr, Bool, true, false, List, [], ◌∷◌, length, get_or, eqb, Result, Ok, Err, IfOk, IfErr, is_ok, refl, sym, ap₂, subst, ◌∙◌, arith}
use Rattle.std.specs.Prelude.{◌||◌}
use Rattle.std.specs.List.{AllPairs, Contains}
use Rattle.std.specs.List.Sorted.{IsStrictlyIncreasing}
use Rattle.std.proofs.lemmas.Bool.{false≢true, cases_lt}
use Rattle.std.proofs.lemmas.Bool.Decides.{nat_tests, eqb_tells}
use Rattle.std.proofs.lemmas.List.Folds.{list_any_at, Any-from_list_any}
use Rattle.std.proofs.lemmas.List.Kept.{AllPairs-from_increasing}
use Rattle.base_tables.specs.Tables.{has, with_row, InOrderFrom, AreInOrder, IsPlace, IsGap}
use Rattle.base_tables.specs.Rising.{with_ids, rising}
use Rattle.base_tables.proofs.Places.{with_row_in_order}

-- what a list has are its elements
same_id : (k : ℕ) → eqb k k ≡ true
same_id k = grind (arith, nat_tests)

has_from_contains : (k : ℕ) (ids : List ℕ) → Contains ids k → has k ids ≡ true
has_from_contains k ids h = list_any_at (λ x. eqb x k) ids h.0 k h.1 (rw h.2 (same_id k))

contains_from_has : (k : ℕ) (ids : List ℕ) → has k ids ≡ true → Contains ids k
contains_from_has k ids h =
    let found = Any-from_list_any (λ x. eqb x k) ids h in
    let is : found.1 ≡ k = grind (arith, nat_tests, found.4) in
    (found.0, found.2, subst (λ n. get_or ids found.0 n ≡ n) is found.3)

-- one more id, and more of them
has-with_row : (k id : ℕ) (ids : List ℕ) → has k (with_row (λ n. n) id ids) ≡ (eqb id k || has k ids)
has-with_row k id [] = refl
has-with_row k id (x ∷ xs) = grind (arith, nat_tests, has-with_row k id xs)

has-with_ids : (k : ℕ) (given ids : List ℕ) → has k (with_ids given ids) ≡ (has k given || has k ids)
has-with_ids k [] ids = refl
has-with_ids k (id ∷ more) ids = grind (arith, nat_tests, has-with_ids k more (with_row (λ n. n) id ids), has-with_row k id ids)

pub has-rising : (k : ℕ) (given : List ℕ) → has k (rising given) ≡ has k given
has-rising k given = grind (arith, nat_tests, has-with_ids k given [])

with_ids_in_order : (given ids : List ℕ) → AreInOrder (λ n. n) ids → AreInOrder (λ n. n) (with_ids given ids)
with_ids_in_order [] ids h = h
with_ids_in_order (id ∷ more) ids h = with_ids_in_order more (with_row (λ n. n) id ids) (with_row_in_order (λ n. n) 0 id ids (omega arith) h)

pub rising_in_order : (given : List ℕ) → AreInOrder (λ n. n) (rising given)
rising_in_order given = with_ids_in_order given [] tt

-- each number below those behind it
in_order_from : (n : ℕ) (ids : List ℕ) → (0 < length ids → n ≤ get_or ids 0 0) → AllPairs (λ x y. x < y) ids → InOrderFrom (λ n. n) n ids
in_order_from n [] low up = tt
in_order_from n (x ∷ xs) low up =
    (low (omega arith), in_order_from (x + 1) xs (λ some. let next : x < get_or xs 0 0 = up 0 1 0 (omega arith) (omega arith) in omega (arith, next)) (λ i j d below inside. up (suc i) (suc j) d (omega arith) (omega arith)))

pub in_order : (ids : List ℕ) → IsStrictlyIncreasing ids → AreInOrder (λ n. n) ids
in_order ids up = in_order_from 0 ids (λ some. omega arith) (AllPairs-from_increasing ids up)

has_below : (k n : ℕ) (ids : List ℕ) → k < n → InOrderFrom (λ n. n) n ids → has k ids ≡ false
has_below k n [] lt h = refl
has_below k n (x ∷ xs) lt h = grind (arith, nat_tests, h.0, has_below k (x + 1) xs (omega (arith, h.0)) h.1)

has_first : (x : ℕ) (xs : List ℕ) → has x (x ∷ xs) ≡ true
has_first x xs = grind (arith, nat_tests)

same_tail : (x k : ℕ) (xs ys : List ℕ) → InOrderFrom (λ n. n) (x + 1) xs → InOrderFrom (λ n. n) (x + 1) ys → (eqb x k || has k xs) ≡ (eqb x k || has k ys) → has k xs ≡ has k ys
same_tail x k xs ys p q same = by_id (eqb_tells x k)
  where
    by_id : ((eqb x k ≡ true) × (x ≡ k)) ⊎ ((eqb x k ≡ false) × (x ≢ k)) → has k xs ≡ has k ys
    by_id (inl e) = has_below k (x + 1) xs (omega (arith, e.1)) p ∙ sym (has_below k (x + 1) ys (omega (arith, e.1)) q)
    by_id (inr e) = rw e.0 at same

-- two lists in order that have the same are the same
same_list : (n m : ℕ) (xs ys : List ℕ) → InOrderFrom (λ n. n) n xs → InOrderFrom (λ n. n) m ys → ((k : ℕ) → has k xs ≡ has k ys) → xs ≡ ys
same_list n m [] [] p q same = refl
same_list n m [] (y ∷ ys) p q same = absurd (false≢true (same y ∙ has_first y ys))
same_list n m (x ∷ xs) [] p q same = absurd (false≢true (sym (same x) ∙ has_first x xs))
same_list n m (x ∷ xs) (y ∷ ys) p q same =
    by_order (λ is. let order = subst (λ k. InOrderFrom (λ n. n) (k + 1) ys) (sym is) q.1 in
    ap₂ (λ k ks. k ∷ ks) is (same_list (x + 1) (x + 1) xs ys p.1 order (λ k. same_tail x k xs ys p.1 order (subst (λ z. has k (x ∷ xs) ≡ has k (z ∷ ys)) (sym is) (same k))))) (cases_lt x y) (cases_lt y x)
  where
    by_order : (x ≡ y → x ∷ xs ≡ y ∷ ys) → (x < y) ⊎ (y ≤ x) → (y < x) ⊎ (x ≤ y) → x ∷ xs ≡ y ∷ ys
    by_order more (inl lt) b = absurd (false≢true (sym (has_below x y (y ∷ ys) lt (omega arith, q.1)) ∙ sym (same x) ∙ has_first x xs))
    by_order more (inr le) (inl lt) = absurd (false≢true (sym (has_below y x (x ∷ xs) lt (omega arith, p.1)) ∙ same y ∙ has_first y ys))
    by_order more (inr le) (inr ge) = more (omega arith)

module _ (given ids : List ℕ) (up : IsStrictlyIncreasing ids) (keeps : (k : ℕ) → Contains given k → Contains ids k) (adds_none : (k : ℕ) → Contains ids k → Contains given k) where
  same_members : (k : ℕ) (a b : Bool) → has k ids ≡ a → has k given ≡ b → has k ids ≡ has k given
  same_members k true true is was = is ∙ sym was
  same_members k false false is was = is ∙ sym was
  same_members k true false is was = absurd (false≢true (sym was ∙ has_from_contains k given (adds_none k (contains_from_has k ids is))))
  same_members k false true is was = absurd (false≢true (sym is ∙ has_from_contains k ids (keeps k (contains_from_has k given was))))

  -- a list that rises strictly and has the same members
  pub is_rising : ids ≡ rising given
  is_rising = same_list 0 0 ids (rising given) (in_order ids up) (rising_in_order given) (λ k. same_members k (has k ids) (has k given) refl refl ∙ sym (has-rising k given))

-- ---- a search

has_place : (k at : ℕ) (ids : List ℕ) → IsPlace (λ n. n) ids k at → true ≡ has k ids
has_place k at ids place = sym (has_from_contains k ids (at, place.in_range, place.has_id k))

has_gap : (k at : ℕ) (ids : List ℕ) → IsGap (λ n. n) ids k at → false ≡ has k ids
has_gap k at ids gap = by_answer (has k ids) refl
  where
    apart : (h : Contains ids k) → (h.0 < at) ⊎ (at ≤ h.0) → ⊥
    apart h (inl before) = omega (arith, gap.smaller_before h.0 k before, h.2)
    apart h (inr after) = omega (arith, gap.greater_after h.0 k after h.1, h.2)

    by_answer : (answer : Bool) → has k ids ≡ answer → false ≡ has k ids
    by_answer false is = sym is
    by_answer true is = let h = contains_from_has k ids is in absurd (apart h (cases_lt h.0 at))

-- an id that was found is among them
pub has_searched : (k : ℕ) (ids : List ℕ) (r : Result ℕ ℕ) → IfOk r (IsPlace (λ n. n) ids k) → IfErr r (IsGap (λ n. n) ids k) → is_ok r ≡ has k ids
has_searched k ids (Ok at) found absent = has_place k at ids found
has_searched k ids (Err at) found absent = has_gap k at ids absent
