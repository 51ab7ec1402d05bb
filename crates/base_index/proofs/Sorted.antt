-- Numbers that rise strictly, and what sorting leaves of them.
use Rattle.std.proofs.Common.{◌≡◌, ℕ, zero, suc, ◌+◌, true, List, [], ◌∷◌, get_or, eqb, sym, ◌∙◌, subst, arith}
use Rattle.std.specs.List.{Contains}
use Rattle.std.specs.List.Sorted.{IsStrictlyIncreasing}
use Rattle.std.proofs.lemmas.Bool.Decides.{nat_tests}
use Rattle.std.proofs.lemmas.List.Folds.{list_any_at, Any-from_list_any}
use Rattle.base_tables.specs.Tables.{has, InOrderFrom, AreInOrder}
use Rattle.base_tables.specs.Rising.{rising}
use Rattle.base_tables.proofs.Places.{at_least}
use Rattle.base_tables.proofs.RisingLemmas.{is_rising}

increasing : (n : ℕ) (ids : List ℕ) → InOrderFrom (λ n. n) n ids → IsStrictlyIncreasing ids
increasing n [] h k lt = absurd (omega arith)
increasing n (x ∷ xs) h zero lt = omega (arith, at_least (λ n. n) (x + 1) xs h.1 0 0 (omega arith))
increasing n (x ∷ xs) h (suc k) lt = let next : suc k + 1 ≡ suc (k + 1) = omega arith in rw next (increasing (x + 1) xs h.1 k (omega arith))

-- numbers that rise are so in rising order
rising_same : (ids : List ℕ) → AreInOrder (λ n. n) ids → rising ids ≡ ids
rising_same ids h = sym (is_rising ids ids (increasing 0 ids h) (λ k c. c) (λ k c. c))

-- two rising lists that have the same are the same
contains_if_has : (k : ℕ) (ids : List ℕ) → has k ids ≡ true → Contains ids k
contains_if_has k ids h =
    let found = Any-from_list_any (λ x. eqb x k) ids h in
    let is : found.1 ≡ k = grind (arith, nat_tests, found.4) in
    (found.0, found.2, subst (λ n. get_or ids found.0 n ≡ n) is found.3)

has_if_contains : (k : ℕ) (ids : List ℕ) → Contains ids k → has k ids ≡ true
has_if_contains k ids h = list_any_at (λ x. eqb x k) ids h.0 k h.1 (rw h.2 (same k))
  where
    same : (k : ℕ) → eqb k k ≡ true
    same k = grind (arith, nat_tests)

pub same_ids : (xs ys : List ℕ) → AreInOrder (λ n. n) xs → AreInOrder (λ n. n) ys → ((k : ℕ) → has k xs ≡ has k ys) → xs ≡ ys
same_ids xs ys p q same =
    is_rising ys xs (increasing 0 xs p) (λ k c. contains_if_has k xs (same k ∙ has_if_contains k ys c)) (λ k c. contains_if_has k ys (sym (same k) ∙ has_if_contains k xs c))
    ∙ rising_same ys q
