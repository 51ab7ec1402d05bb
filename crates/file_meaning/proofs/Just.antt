-- Ids that were found, and that are just these.
use Rattle.std.proofs.Common.{◌≡◌, ℕ, suc, ◌+◌, ◌≤◌, ◌==◌, nat_lt, true, false, cond, List, [], ◌∷◌, ◌++◌, length, bytes_eq, sym, ap, subst, ◌∙◌, arith, append-nil}
use Rattle.std.specs.List.Sorted.{IsPermutation}
use Rattle.std.proofs.lemmas.Bool.{and_parts}
use Rattle.std.proofs.lemmas.Bool.Decides.{nat_tests}
use Rattle.std.proofs.lemmas.List.Sorted.{IsPermutation-refl, IsPermutation-sym, IsPermutation-trans, IsPermutation-cons, IsPermutation-middle, IsPermutation-append_right}
use Rattle.std.proofs.lemmas.Slice.Eq.{bytes_eq-Decides}
use Rattle.base_tables.specs.Rising.{with_ids, rising}
use Rattle.base_tables.specs.Tables.{with_row}
use Rattle.file_meaning.specs.Links.{are_just}

abbrev with_one : ℕ → List ℕ → List ℕ
with_one id ids = with_row (λ n. n) id ids

-- one more id makes a list longer by one at most
at_most : (id : ℕ) (ids : List ℕ) → length (with_one id ids) ≤ suc (length ids)
at_most id [] = omega arith
at_most id (x ∷ xs) =
    elim (nat_lt x id) as (λ b. length (cond b (x ∷ with_one id xs) (cond (x == id) (id ∷ xs) (id ∷ x ∷ xs))) ≤ suc (suc (length xs))) [
      | true ↦ let more : length (with_one id xs) ≤ suc (length xs) = at_most id xs in omega (arith, more)
      | false ↦ elim (x == id) as (λ b. length (cond b (id ∷ xs) (id ∷ x ∷ xs)) ≤ suc (suc (length xs))) [
        | true ↦ omega arith
        | false ↦ omega arith
      ]
    ]

-- and where it does, the id was not there
one_more : (id : ℕ) (ids : List ℕ) → length (with_one id ids) ≡ suc (length ids) → IsPermutation (id ∷ ids) (with_one id ids)
one_more id [] is = IsPermutation-refl (id ∷ [])
one_more id (x ∷ xs) is =
    elim (nat_lt x id) as (λ b. length (cond b (x ∷ with_one id xs) (cond (x == id) (id ∷ xs) (id ∷ x ∷ xs))) ≡ suc (suc (length xs))
    → IsPermutation (id ∷ x ∷ xs) (cond b (x ∷ with_one id xs) (cond (x == id) (id ∷ xs) (id ∷ x ∷ xs)))) [
      | true ↦ λ long.
          let more : length (with_one id xs) ≡ suc (length xs) = omega (arith, long) in
          IsPermutation-trans (id ∷ x ∷ xs) (x ∷ id ∷ xs) (x ∷ with_one id xs) (IsPermutation-sym (x ∷ id ∷ xs) (id ∷ x ∷ xs) (IsPermutation-middle (x ∷ []) id xs))
          (IsPermutation-cons x (id ∷ xs) (with_one id xs) (one_more id xs more))
      | false ↦ elim (x == id) as (λ b. length (cond b (id ∷ xs) (id ∷ x ∷ xs)) ≡ suc (suc (length xs)) → IsPermutation (id ∷ x ∷ xs) (cond b (id ∷ xs) (id ∷ x ∷ xs))) [
        | true ↦ λ long. absurd (omega (arith, long))
        | false ↦ λ long. IsPermutation-refl (id ∷ x ∷ xs)
      ]
    ] is

all_at_most : (given ids : List ℕ) → length (with_ids given ids) ≤ length given + length ids
all_at_most [] ids = omega arith
all_at_most (id ∷ more) ids =
    let rest = all_at_most more (with_one id ids) in
    let one = at_most id ids in
    let all : length (with_ids more (with_one id ids)) ≤ suc (length more) + length ids = omega (arith, rest, one) in
    all

-- where each of them makes it longer, the ids and those that were there are all that is there
all_more : (given ids : List ℕ) → length (with_ids given ids) ≡ length given + length ids → IsPermutation (given ++ ids) (with_ids given ids)
all_more [] ids is = IsPermutation-refl ids
all_more (id ∷ more) ids is =
    let whole : length (with_ids more (with_one id ids)) ≡ suc (length more) + length ids = is in
    let most = all_at_most more (with_one id ids) in
    let one = at_most id ids in
    let long : length (with_one id ids) ≡ suc (length ids) = omega (arith, whole, most, one) in
    let left : length (with_ids more (with_one id ids)) ≡ length more + length (with_one id ids) = omega (arith, whole, long) in
    let rest = all_more more (with_one id ids) left in
    IsPermutation-trans (id ∷ (more ++ ids)) (more ++ id ∷ ids) (with_ids more (with_one id ids)) (IsPermutation-sym (more ++ id ∷ ids) (id ∷ (more ++ ids)) (IsPermutation-middle more id ids))
    (IsPermutation-trans (more ++ id ∷ ids) (more ++ with_one id ids) (with_ids more (with_one id ids)) (IsPermutation-append_right more (id ∷ ids) (with_one id ids) (one_more id ids long)) rest)

same_length : (n m : ℕ) → (n == m) ≡ true → n ≡ m
same_length n m is = grind (arith, nat_tests)

-- ids that are just these are these in some order
pub just_same : (ids found : List ℕ) → are_just ids found ≡ true → IsPermutation found ids
just_same ids found is =
    let parts = and_parts (length found == length ids) (bytes_eq (rising found) ids) is in
    let these : rising found ≡ ids = (bytes_eq-Decides (rising found) ids).0 parts.1 in
    let long : length (rising found) ≡ length found = ap length these ∙ sym (same_length (length found) (length ids) parts.0) in
    let apart : length (with_ids found []) ≡ length found + 0 = omega (arith, long) in
    subst (IsPermutation found) these (subst (λ l. IsPermutation l (rising found)) (append-nil found) (all_more found [] apart))
