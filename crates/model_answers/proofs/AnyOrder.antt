-- What is held under a key is found in any order of the answers.
use Rattle.std.proofs.Common.{◌≡◌, ℕ, zero, suc, ◌+◌, ◌≤◌, ◌<◌, Bool, true, false, cond, ◌||◌, ◌&&◌, List, [], ◌∷◌, length, find, Option, Some, None, option_map, is_some, IsPermutation, Contains, sum_by, slice_index_or, refl, sym, ap, ◌∙◌, subst, arith, bytes_eq, ◌==◌}
use Rattle.std.proofs.lemmas.Bool.{and_parts, and_from, or_parts, eqb-true, eq-eqb, cases_Bool}
use Rattle.std.proofs.lemmas.List.Sorted.{sum_by-IsPermutation, Contains-permutation}
use Rattle.std.proofs.lemmas.List.Sums.{sum_by-cons, get_or-le-sum_by}
use Rattle.std.proofs.lemmas.Slice.Eq.{bytes_eq-Decides}
use Rattle.std.specs.List.{list_any}
use Rattle.base_values.specs.declared.answer.Response.{Response}
use Rattle.model_answers.specs.declared.kept.Kept.{Kept}
use Rattle.model_answers.specs.KeptAnswers.{has_key, lasts, same_key, AreOneForEachKey, told_by}
use Rattle.model_answers.proofs.Lists.{some-find}

abbrev pub worth : Bool → ℕ
worth b = cond b 1 0

-- how many pass
abbrev pub passing : (Kept → Bool) → List Kept → ℕ
passing p ks = sum_by (λ k. worth (p k)) ks

passing-cons : (p : Kept → Bool) (k : Kept) (ks : List Kept) → passing p (k ∷ ks) ≡ worth (p k) + passing p ks
passing-cons p k ks = sum_by-cons (λ (k : Kept). worth (p k)) k ks

passing-none : (p : Kept → Bool) (ks : List Kept) → list_any p ks ≡ false → passing p ks ≡ 0
passing-none p [] none = refl
passing-none p (k ∷ ks) none =
    let x = or_parts (p k) (list_any p ks) none in
    let rest = passing-none p ks x.1 in
    let here : worth (p k) ≡ 0 = ap (λ (b : Bool). worth b) x.0 in
    passing-cons p k ks ∙ omega (arith, here, rest)

none-passing : (p : Kept → Bool) (ks : List Kept) → passing p ks ≡ 0 → find p ks ≡ None
none-passing p [] e = refl
none-passing p (k ∷ ks) e = elim (p k) as (λ b. p k ≡ b → cond b (Some k) (find p ks) ≡ None) [
  | true ↦ λ hit.
      let sum = passing-cons p k ks in
      let one : worth (p k) ≡ 1 = ap (λ (b : Bool). worth b) hit in
      absurd (omega (arith, sum, one, e))
  | false ↦ λ miss.
      let sum = passing-cons p k ks in
      let none : worth (p k) ≡ 0 = ap (λ (b : Bool). worth b) miss in
      none-passing p ks (omega (arith, sum, none, e))
] refl

found-in : (p : Kept → Bool) (ks : List Kept) (k : Kept) → find p ks ≡ Some k → Contains ks k × (p k ≡ true)
found-in p [] k e = absurd (let none : Option Kept = None in let both : none ≡ Some k = e in cc)
found-in p (j ∷ ks) k e = elim (p j) as (λ b. p j ≡ b → cond b (Some j) (find p ks) ≡ Some k → Contains (j ∷ ks) k × (p k ≡ true)) [
  | true ↦ λ hit is. let same : j ≡ k = cc in ((zero, omega arith, same), subst (λ (x : Kept). p x ≡ true) same hit)
  | false ↦ λ miss is. let rest = found-in p ks k is in ((suc rest.0.0, omega (arith, rest.0.1), rest.0.2), rest.1)
] refl e

one-found : (p : Kept → Bool) (ks : List Kept) (k : Kept) (i : ℕ) → i < length ks → slice_index_or ks i k ≡ k → p k ≡ true → passing p ks ≤ 1 → find p ks ≡ Some k
one-found p [] k i below at hit few = absurd (omega (arith, below))
one-found p (j ∷ ks) k zero below at hit few = ap (λ (b : Bool). cond b (Some j) (find p ks)) (subst (λ (x : Kept). p x ≡ true) (sym at) hit) ∙ ap (λ (x : Kept). let some : Option Kept = Some x in some) at
one-found p (j ∷ ks) k (suc i) below at hit few = elim (p j) as (λ b. p j ≡ b → cond b (Some j) (find p ks) ≡ Some k) [
  | true ↦ λ other.
      let sum = passing-cons p j ks in
      let one : worth (p j) ≡ 1 = ap (λ (b : Bool). worth b) other in
      let more = get_or-le-sum_by (λ (x : Kept). worth (p x)) ks i k (omega (arith, below)) in
      let itself : worth (p (slice_index_or ks i k)) ≡ 1 = ap (λ (x : Kept). worth (p x)) at ∙ ap (λ (b : Bool). worth b) hit in
      absurd (omega (arith, sum, one, more, itself, few))
  | false ↦ λ miss.
      let sum = passing-cons p j ks in
      let none : worth (p j) ≡ 0 = ap (λ (b : Bool). worth b) miss in
      one-found p ks k i (omega (arith, below)) at hit (omega (arith, sum, none, few))
] refl

module _ (token : ℕ) (key : List ℕ) (now : ℕ) where
  abbrev pub test : Kept → Bool
  test k = has_key key && (k.token == token) && bytes_eq k.key key && lasts now k.at

  pub record Passes (k : Kept) : Type 0 where
    token_is : k.token ≡ token
    key_is : k.key ≡ key

  passes : (k : Kept) → test k ≡ true → Passes k
  passes k e =
      let x = and_parts (has_key key && (k.token == token) && bytes_eq k.key key) (lasts now k.at) e in
      let y = and_parts (has_key key && (k.token == token)) (bytes_eq k.key key) x.0 in
      let z = and_parts (has_key key) (k.token == token) y.0 in
      record { token_is = eqb-true k.token token z.1; key_is = (bytes_eq-Decides k.key key).0 y.1 }

  both-same : (j k : Kept) → test j ≡ true → test k ≡ true → same_key j k ≡ true
  both-same j k hit other =
      let a = passes j hit in
      let b = passes k other in
      and_from (j.token == k.token) (bytes_eq j.key k.key) (eq-eqb j.token k.token (a.token_is ∙ sym b.token_is)) ((bytes_eq-Decides j.key k.key).1 (a.key_is ∙ sym b.key_is))

  no-other : (j : Kept) (ks : List Kept) → test j ≡ true → list_any (same_key j) ks ≡ false → list_any test ks ≡ false
  no-other j [] hit none = refl
  no-other j (k ∷ ks) hit none =
      let x = or_parts (same_key j k) (list_any (same_key j) ks) none in
      elim (test k) as (λ b. test k ≡ b → (b || list_any test ks) ≡ false) [
        | true ↦ λ other. absurd (let both : true ≡ false = sym (both-same j k hit other) ∙ x.0 in cc)
        | false ↦ λ miss. no-other j ks hit x.1
      ] refl

  at-most-one : (ks : List Kept) → AreOneForEachKey ks → passing test ks ≤ 1
  at-most-one [] one = omega arith
  at-most-one (k ∷ ks) (here, one) = elim (test k) as (λ b. test k ≡ b → passing test (k ∷ ks) ≤ 1) [
    | true ↦ λ hit.
        let sum = passing-cons test k ks in
        let first : worth (test k) ≡ 1 = ap (λ (b : Bool). worth b) hit in
        let rest = passing-none test ks (no-other k ks hit here) in
        omega (arith, sum, first, rest)
    | false ↦ λ miss.
        let sum = passing-cons test k ks in
        let none : worth (test k) ≡ 0 = ap (λ (b : Bool). worth b) miss in
        let rest = at-most-one ks one in
        omega (arith, sum, none, rest)
  ] refl

  by-found : (ks js : List Kept) → AreOneForEachKey ks → IsPermutation ks js → (o : Option Kept) → find test ks ≡ o → find test js ≡ o
  by-found ks js one same (Some k) e =
      let found = found-in test ks k e in
      let there = Contains-permutation ks js k same found.0 in
      let few = at-most-one ks one in
      let sums = sum_by-IsPermutation (λ (x : Kept). worth (test x)) ks js same in
      one-found test js k there.0 there.1 there.2 found.1 (omega (arith, few, sums))
  by-found ks js one same None e =
      let none = passing-none test ks (sym (some-find test ks) ∙ ap is_some e) in
      let sums = sum_by-IsPermutation (λ (x : Kept). worth (test x)) ks js same in
      none-passing test js (sums ∙ none)

  pub in-any-order : (ks js : List Kept) → AreOneForEachKey ks → IsPermutation ks js → told_by token key now js ≡ told_by token key now ks
  in-any-order ks js one same = ap (λ (o : Option Kept). option_map (λ k. k.response) o) (by-found ks js one same (find test ks) refl)
