-- What is told of the rows that a look-up finds.
use Rattle.std.proofs.Common.{◌≡◌, ℕ, Bool, true, false, cond, ◌&&◌, ◌==◌, bytes_eq, List, [], ◌∷◌, ◌++◌, length, map, filter, find, Option, Some, None, option_map, Result, Ok, Err, IfOk, refl, sym, ap, subst, ◌∙◌, arith}
use Rattle.std.specs.List.Sorted.{IsPermutation}
use Rattle.std.proofs.lemmas.List.Sorted.{IsPermutation-trans, IsPermutation-map, length_permutation}
use Rattle.sqlite_trees.proofs.ListLemmas.{IsPermutation-filter}
use Rattle.sqlite.proofs.Callers.{one_permutation}
use Rattle.model_answers.specs.declared.kept.Kept.{Kept}
use Rattle.model_answers.specs.KeptAnswers.{has_key, lasts, is_for, told_by}
use Rattle.file_rows.specs.declared.rows.KeptRow.{KeptRow}
use Rattle.file_rows.specs.declared.rows.Token.{Token}
use Rattle.file_reads.specs.Lookups.{is_under, has_digest}
use Rattle.file_tables.specs.Held.{number_of}

empty : {A : Type 0} (l : List A) → length l ≡ 0 → l ≡ []
empty [] e = refl
empty (x ∷ l) e = absurd (omega (arith, e))

none_permutation : {A : Type 0} (xs : List A) → IsPermutation [] xs → xs ≡ []
none_permutation xs h = empty xs (length_permutation [] xs h)

pub single : {A : Type 0} (l xs : List A) (r : A) → xs ≡ l ++ r ∷ [] → length l ≡ 0 → xs ≡ r ∷ []
single [] xs r e n = e
single (x ∷ l) xs r e n = absurd (omega (arith, n))

-- where this holds of what is found if the schema is a shop's, then of what is found it holds that, if it is, this does
pub found_if : {T E : Type 0} (r : Result T E) (Known : Type 0) (P : T → Type 0) → (Known → IfOk r P) → IfOk r (λ x. Known → P x)
found_if (Ok x) Known P h = h
found_if (Err e) Known P h = tt

-- ---- tokens

abbrev first : {A : Type 0} → List A → Option A
first [] = None
first (x ∷ xs) = Some x

found_first : {A : Type 0} (p : A → Bool) (xs : List A) → find p xs ≡ first (filter p xs)
found_first p [] = refl
found_first p (x ∷ xs) = elim (p x) as (λ b. cond b (Some x) (find p xs) ≡ first (cond b (x ∷ filter p xs) (filter p xs))) [ true ↦ refl | false ↦ found_first p xs ]

module _ (tokens : List ℕ → Option ℕ) (digest : List ℕ) (all rows : List Token) (told : tokens digest ≡ number_of all digest) (h : IsPermutation rows (filter (has_digest digest) all)) where
  number_is : tokens digest ≡ option_map (λ (t : Token). t.id) (first (filter (has_digest digest) all))
  number_is = told ∙ ap (option_map (λ (t : Token). t.id)) (found_first (has_digest digest) all)

  pub number_none : rows ≡ [] → None ≡ tokens digest
  number_none none =
      let is = none_permutation (filter (has_digest digest) all) (subst (λ l. IsPermutation l (filter (has_digest digest) all)) none h) in
      sym (number_is ∙ ap (λ l. option_map (λ (t : Token). t.id) (first l)) is)

  pub number_one : (token : Token) → rows ≡ token ∷ [] → Some token.id ≡ tokens digest
  number_one token one =
      let is = one_permutation token (filter (has_digest digest) all) (subst (λ l. IsPermutation l (filter (has_digest digest) all)) one h) in
      sym (number_is ∙ ap (λ l. option_map (λ (t : Token). t.id) (first l)) is)

-- ---- answers

module _ (token : ℕ) (key : List ℕ) (at : ℕ) where
  abbrev by_key : Kept → Bool
  by_key k = (k.token == token) && bytes_eq k.key key

  filter_kept : (rows : List KeptRow) → filter by_key (map (λ (r : KeptRow). r.kept) rows) ≡ map (λ (r : KeptRow). r.kept) (filter (is_under token key) rows)
  filter_kept [] = refl
  filter_kept (r ∷ rows) = elim (is_under token key r) as (λ b. cond b (r.kept ∷ filter by_key (map (λ (r : KeptRow). r.kept) rows)) (filter by_key (map (λ (r : KeptRow). r.kept) rows)) ≡ map (λ (r : KeptRow). r.kept) (cond b (r ∷ filter (is_under token key) rows) (filter (is_under token key) rows))) [
    | true ↦ ap (λ l. r.kept ∷ l) (filter_kept rows)
    | false ↦ filter_kept rows
  ]

  implied : (h a b l : Bool) → (h && a && b && l) ≡ true → (a && b) ≡ true
  implied true true true true e = refl
  implied true true true false e = absurd cc
  implied true true false l e = absurd cc
  implied true false b l e = absurd cc
  implied false a b l e = absurd cc

  find_filter : (xs : List Kept) → find (is_for token key at) (filter by_key xs) ≡ find (is_for token key at) xs
  find_filter [] = refl
  find_filter (x ∷ xs) = elim (by_key x) as (λ b. by_key x ≡ b → find (is_for token key at) (cond b (x ∷ filter by_key xs) (filter by_key xs)) ≡ cond (is_for token key at x) (Some x) (find (is_for token key at) xs)) [
    | true ↦ λ e. ap (cond (is_for token key at x) (Some x)) (find_filter xs)
    | false ↦ λ e. elim (is_for token key at x) as (λ b. is_for token key at x ≡ b → find (is_for token key at) (filter by_key xs) ≡ cond b (Some x) (find (is_for token key at) xs)) [
      | true ↦ λ f. absurd (let both : true ≡ false = sym (implied (has_key key) (x.token == token) (bytes_eq x.key key) (lasts at x.at) f) ∙ e in cc)
      | false ↦ λ f. find_filter xs
    ] refl
  ] refl

  module _ (all rows : List KeptRow) (ks : List Kept) (kept : IsPermutation (map (λ (r : KeptRow). r.kept) all) ks) (h : IsPermutation rows (filter (is_under token key) all)) where
    those : IsPermutation (map (λ (r : KeptRow). r.kept) rows) (filter by_key ks)
    those =
        let shown = IsPermutation-map (λ (r : KeptRow). r.kept) rows (filter (is_under token key) all) h in
        let here = subst (IsPermutation (map (λ (r : KeptRow). r.kept) rows)) (sym (filter_kept all)) shown in
        IsPermutation-trans _ _ _ here (IsPermutation-filter by_key (map (λ (r : KeptRow). r.kept) all) ks kept)

    pub told_none : rows ≡ [] → None ≡ told_by token key at ks
    told_none none =
        let is = none_permutation (filter by_key ks) (subst (λ l. IsPermutation (map (λ (r : KeptRow). r.kept) l) (filter by_key ks)) none those) in
        sym (ap (option_map (λ (k : Kept). k.response)) (sym (find_filter ks) ∙ ap (find (is_for token key at)) is))

    pub told_one : (r : KeptRow) (b : Bool) → rows ≡ r ∷ [] → is_for token key at r.kept ≡ b → cond b (Some r.kept.response) None ≡ told_by token key at ks
    told_one r b one test =
        let is = one_permutation r.kept (filter by_key ks) (subst (λ l. IsPermutation (map (λ (r : KeptRow). r.kept) l) (filter by_key ks)) one those) in
        let got : find (is_for token key at) ks ≡ cond b (Some r.kept) None = sym (find_filter ks) ∙ ap (find (is_for token key at)) is ∙ ap (λ b. cond b (Some r.kept) None) test in
        sym (ap (option_map (λ (k : Kept). k.response)) got ∙ elim b as (λ b. option_map (λ (k : Kept). k.response) (cond b (Some r.kept) None) ≡ cond b (Some r.kept.response) None) [ true ↦ refl | false ↦ refl ])
