-- Rows in order that are put one after another are the list that they are.
use Rattle.std.proofs.Common.{◌≡◌, ℕ, ◌+◌, ◌<◌, ◌≤◌, List, [], ◌∷◌, ◌++◌, refl, sym, ap, ◌∙◌, arith, append-nil, append_assoc}
use Rattle.std.specs.List.{AllByRecursion}
use Rattle.std.proofs.lemmas.Bool.Decides.{nat_tests}
use Rattle.base_tables.specs.Tables.{with_row, InOrderFrom, AreInOrder}
use Rattle.file_meaning.specs.Counts.{with_all}

module _ {T : Type 0} (key : T → ℕ) where
  at_end : (row : T) (rows : List T) → AllByRecursion (λ r. key r < key row) rows → with_row key row rows ≡ rows ++ row ∷ []
  at_end row [] h = refl
  at_end row (r ∷ rs) h = grind (arith, nat_tests, h.0, at_end row rs h.1)

  lower : (n m : ℕ) (rows : List T) → n ≤ m → AllByRecursion (λ r. key r < n) rows → AllByRecursion (λ r. key r < m) rows
  lower n m [] le h = tt
  lower n m (r ∷ rs) le h = (omega (arith, h.0, le), lower n m rs le h.1)

  one_more : (n : ℕ) (row : T) (rows : List T) → key row < n → AllByRecursion (λ r. key r < n) rows → AllByRecursion (λ r. key r < n) (rows ++ row ∷ [])
  one_more n row [] lt h = (lt, tt)
  one_more n row (r ∷ rs) lt h = (h.0, one_more n row rs lt h.1)

  pub put_behind : (n : ℕ) (rows before : List T) → InOrderFrom key n rows → AllByRecursion (λ r. key r < n) before → with_all key rows before ≡ before ++ rows
  put_behind n [] before h low = sym (append-nil before)
  put_behind n (r ∷ rs) before h low =
      ap (with_all key rs) (at_end r before (lower n (key r) before h.0 low))
      ∙ put_behind (key r + 1) rs (before ++ r ∷ []) h.1 (one_more (key r + 1) r before (omega arith) (lower n (key r + 1) before (omega (arith, h.0)) low))
      ∙ append_assoc before (r ∷ []) rs

  pub all_put : (rows : List T) → AreInOrder key rows → with_all key rows [] ≡ rows
  all_put rows h = put_behind 0 rows [] h tt
