-- The one row of an id, among the rows of a tree and among the values of a list.
use Rattle.std.proofs.Common.{◌≡◌, ◌==◌, Bool, true, false, cond, List, [], ◌∷◌, ℕ, ℤ, refl, sym, ap, subst, ◌∙◌, pos, map, filter, find, Some, None, length, arith}
use Rattle.std.specs.List.Sorted.{IsPermutation}
use Rattle.std.specs.Ordering.{is_eq, int_cmp}
use Rattle.std.proofs.lemmas.Bool.{eqb-true}
use Rattle.std.proofs.lemmas.Int.{ints}
use Rattle.std.proofs.lemmas.List.Sorted.{IsPermutation-sym, length_permutation}
use Rattle.sqlite_value.specs.declared.value.Value.TheVariants.{Int}
use Rattle.sqlite_value.specs.Order.{Row, value_cmp}
use Rattle.sqlite_value.proofs.OrderLemmas.{value_cmp-Int}
use Rattle.sqlite_trees.specs.Tree.{rowid, has_rowid}
use Rattle.sqlite_trees.proofs.ListLemmas.{IsPermutation-filter}
use Rattle.sqlite.proofs.Callers.{one_permutation}

pub find_one : {A : Type 0} (p : A → Bool) (xs : List A) (a : A) → filter p xs ≡ a ∷ [] → find p xs ≡ Some a
find_one p [] a e = absurd cc
find_one p (x ∷ xs) a e = elim (p x) as (λ b. cond b (x ∷ filter p xs) (filter p xs) ≡ a ∷ [] → cond b (Some x) (find p xs) ≡ Some a) [
  | true ↦ λ same. let first : x ≡ a = cc in ap Some first
  | false ↦ λ rest. find_one p xs a rest
] e

pub find_none : {A : Type 0} (p : A → Bool) (xs : List A) → filter p xs ≡ [] → find p xs ≡ None
find_none p [] e = refl
find_none p (x ∷ xs) e = elim (p x) as (λ b. cond b (x ∷ filter p xs) (filter p xs) ≡ [] → cond b (Some x) (find p xs) ≡ None) [
  | true ↦ λ same. absurd cc
  | false ↦ λ rest. find_none p xs rest
] e

passes : {A : Type 0} (p : A → Bool) (xs rest : List A) (a : A) → filter p xs ≡ a ∷ rest → p a ≡ true
passes p [] rest a e = absurd cc
passes p (x ∷ xs) rest a e = elim (p x) as (λ b. p x ≡ b → cond b (x ∷ filter p xs) (filter p xs) ≡ a ∷ rest → p a ≡ true) [
  | true ↦ λ yes same. let first : x ≡ a = cc in sym (ap p first) ∙ yes
  | false ↦ λ no others. passes p xs rest a others
] refl e

shown_with : (f : Row → Row) (id : ℤ) → ((r : Row) → rowid (f r) ≡ rowid r) → (rows : List Row) → filter (has_rowid id) (map f rows) ≡ map f (filter (has_rowid id) rows)
shown_with f id same [] = refl
shown_with f id same (r ∷ rows) =
    let here : has_rowid id (f r) ≡ has_rowid id r = ap (λ v. is_eq (value_cmp v (Int id))) (same r) in
    let rest = shown_with f id same rows in
    let step : cond (has_rowid id r) (f r ∷ filter (has_rowid id) (map f rows)) (filter (has_rowid id) (map f rows)) ≡ map f (cond (has_rowid id r) (r ∷ filter (has_rowid id) rows) (filter (has_rowid id) rows)) =
    elim (has_rowid id r) as (λ b. cond b (f r ∷ filter (has_rowid id) (map f rows)) (filter (has_rowid id) (map f rows)) ≡ map f (cond b (r ∷ filter (has_rowid id) rows) (filter (has_rowid id) rows))) [
      | true ↦ ap (λ l. f r ∷ l) rest
      | false ↦ rest
    ] in ap (λ b. cond b (f r ∷ filter (has_rowid id) (map f rows)) (filter (has_rowid id) (map f rows))) here ∙ step

module _ {A : Type 0} (row : A → Row) (id_of : A → ℕ) (keyed : (a : A) → rowid (row a) ≡ Int (pos (id_of a))) (id : ℕ) where
  same_pos : (a b : ℕ) → is_eq (int_cmp (pos a) (pos b)) ≡ (a == b)
  same_pos a b = grind (arith, ints)

  same_id : (a : A) → has_rowid (pos id) (row a) ≡ (id_of a == id)
  same_id a = ap (λ v. is_eq (value_cmp v (Int (pos id)))) (keyed a) ∙ ap is_eq (value_cmp-Int (pos (id_of a)) (pos id)) ∙ same_pos (id_of a) id

  rows_with : (xs : List A) → map row (filter (λ a. id_of a == id) xs) ≡ filter (has_rowid (pos id)) (map row xs)
  rows_with [] = refl
  rows_with (a ∷ xs) =
      let rest = rows_with xs in
      let step : map row (cond (id_of a == id) (a ∷ filter (λ a. id_of a == id) xs) (filter (λ a. id_of a == id) xs)) ≡ cond (id_of a == id) (row a ∷ filter (has_rowid (pos id)) (map row xs)) (filter (has_rowid (pos id)) (map row xs)) =
      elim (id_of a == id) as (λ b. map row (cond b (a ∷ filter (λ a. id_of a == id) xs) (filter (λ a. id_of a == id) xs)) ≡ cond b (row a ∷ filter (has_rowid (pos id)) (map row xs)) (filter (has_rowid (pos id)) (map row xs))) [
        | true ↦ ap (λ l. row a ∷ l) rest
        | false ↦ rest
      ] in step ∙ ap (λ b. cond b (row a ∷ filter (has_rowid (pos id)) (map row xs)) (filter (has_rowid (pos id)) (map row xs))) (sym (same_id a))

  module _ (f : Row → Row) (same : (r : Row) → rowid (f r) ≡ rowid r) (tree : List Row) (xs : List A) (holds : IsPermutation (map row xs) (map f tree)) where
    among : IsPermutation (map row (filter (λ a. id_of a == id) xs)) (map f (filter (has_rowid (pos id)) tree))
    among = rw (rows_with xs, sym (shown_with f (pos id) same tree)) (IsPermutation-filter (has_rowid (pos id)) (map row xs) (map f tree) holds)

    one_value : (l : List A) (r : Row) → map row l ≡ r ∷ [] → (a : A) × (l ≡ a ∷ []) × (r ≡ row a)
    one_value [] r e = absurd cc
    one_value (a ∷ []) r e = (a, refl, let first : row a ≡ r = cc in sym first)
    one_value (a ∷ b ∷ l) r e = absurd cc

    -- one row of the tree has the id: so has one value
    pub found_one : (r : Row) → filter (has_rowid (pos id)) tree ≡ r ∷ [] → (a : A) × (filter (λ a. id_of a == id) xs ≡ a ∷ []) × (f r ≡ row a) × (id_of a ≡ id)
    found_one r one =
        let here : IsPermutation (map row (filter (λ a. id_of a == id) xs)) (f r ∷ []) = subst (λ l. IsPermutation (map row (filter (λ a. id_of a == id) xs)) (map f l)) one among in
        let it = one_value (filter (λ a. id_of a == id) xs) (f r) (one_permutation (f r) _ (IsPermutation-sym _ _ here)) in
        (it.0, it.1, it.2, eqb-true _ _ (passes (λ a. id_of a == id) xs [] it.0 it.1))

    no_value : (l : List A) → length (map row l) ≡ 0 → l ≡ []
    no_value [] e = refl
    no_value (a ∷ l) e = absurd (omega arith)

    -- no row of the tree has it: nor has a value
    pub found_none : filter (has_rowid (pos id)) tree ≡ [] → filter (λ a. id_of a == id) xs ≡ []
    found_none none = no_value _ (length_permutation _ _ (IsPermutation-sym _ _ among) ∙ ap (λ l. length (map f l)) none)
