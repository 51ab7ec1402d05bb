-- What any search finds among rows in order is the row of its id.
use Rattle.std.proofs.Common.{◌≡◌, ℕ, ◌+◌, ◌≤◌, Bool, true, false, cond, List, [], ◌∷◌, Some, ap, arith}
use Rattle.std.specs.Prelude.{find}
use Rattle.std.specs.List.{AllByRecursion}
use Rattle.std.proofs.lemmas.Bool.Decides.{nat_tests}
use Rattle.base_tables.specs.Tables.{row_at, InOrderFrom}
use Rattle.model_rows.proofs.EachRow.{all_weaker, all_both}

module _ {T : Type 0} (key : T → ℕ) (test : T → Bool) where
  found_from : (n : ℕ) (rows : List T) (row : T) → InOrderFrom key n rows → find test rows ≡ Some row → n ≤ key row
  found_from n [] row h e = absurd (cc)
  found_from n (r ∷ rs) row h e = by_test (test r) e (found_from (key r + 1) rs row h.1)
    where
      by_test : (b : Bool) → cond b (Some r) (find test rs) ≡ Some row → (find test rs ≡ Some row → key r + 1 ≤ key row) → n ≤ key row
      by_test true found more =
          let same : r ≡ row = cc in
          omega (arith, h.0, ap key same)
      by_test false found more = omega (arith, h.0, more found)

  pub row_at_found : (n : ℕ) (rows : List T) (row : T) → InOrderFrom key n rows → find test rows ≡ Some row → row_at key (key row) rows ≡ Some row
  row_at_found n [] row h e = absurd (cc)
  row_at_found n (r ∷ rs) row h e = by_test (test r) e (row_at_found (key r + 1) rs row h.1) (found_from (key r + 1) rs row h.1)
    where
      by_test : (b : Bool) → cond b (Some r) (find test rs) ≡ Some row → (find test rs ≡ Some row → row_at key (key row) rs ≡ Some row) → (find test rs ≡ Some row → key r + 1 ≤ key row) → row_at key (key row) (r ∷ rs) ≡ Some row
      by_test true found more above =
          let same : r ≡ row = cc in
          grind (arith, nat_tests, same)
      by_test false found more above = grind (arith, nat_tests, more found, above found)

module _ {T : Type 0} (key : T → ℕ) where
  all_from : (n : ℕ) (rows : List T) → InOrderFrom key n rows → AllByRecursion (λ r. n ≤ key r) rows
  all_from n [] h = tt
  all_from n (r ∷ rs) h = (h.0, all_weaker (λ s. key r + 1 ≤ key s) (λ s. n ≤ key s) (λ s le. omega (arith, le, h.0)) rs (all_from (key r + 1) rs h.1))

  -- each row is the one of its id
  pub each_found : (n : ℕ) (rows : List T) → InOrderFrom key n rows → AllByRecursion (λ r. row_at key (key r) rows ≡ Some r) rows
  each_found n [] h = tt
  each_found n (r ∷ rs) h =
      let own : row_at key (key r) (r ∷ rs) ≡ Some r = grind (arith, nat_tests) in (
        own,
        all_weaker (λ s. (key r + 1 ≤ key s) × (row_at key (key s) rs ≡ Some s)) (λ s. row_at key (key s) (r ∷ rs) ≡ Some s) (λ s both. grind (arith, nat_tests, both.0, both.1)) rs
            (all_both (λ s. key r + 1 ≤ key s) (λ s. row_at key (key s) rs ≡ Some s) rs (all_from (key r + 1) rs h.1) (each_found (key r + 1) rs h.1)),
      )
