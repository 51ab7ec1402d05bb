-- Rows of which no two are alike.
use Rattle.std.proofs.Common.{◌≡◌, ℕ, Bool, true, false, ◌&&◌, not, eqb, List, [], ◌∷◌, ◌++◌, refl, ◌∙◌, arith}
use Rattle.std.specs.Prelude.{◌||◌}
use Rattle.std.specs.List.{list_any, AllByRecursion}
use Rattle.std.proofs.lemmas.Bool.Decides.{nat_tests}
use Rattle.base_tables.specs.Tables.{with_row}
use Rattle.model_rows.proofs.EachRow.{with_row_cases}

-- none is alike to one behind it
abbrev pub AreApart : {T : Type 0} → (T → T → Bool) → List T → Type 0
AreApart alike [] = Unit {0}
AreApart alike (r ∷ rs) = AllByRecursion (λ s. alike r s ≡ false) rs × AreApart alike rs

-- a row that is put is one of them
pub put_has : {T : Type 0} (key : T → ℕ) (P : T → Type 0) (row : T) (rows : List T) → AllByRecursion P (with_row key row rows) → P row
put_has key P row [] h = h.0
put_has key P row (r ∷ rs) h = with_row_cases key (λ list. AllByRecursion P list → P row) row r rs (λ lt all. put_has key P row rs all.1) (λ e all. all.0) (λ lt all. all.0) h

-- neither of two
pub neither : (a b : Bool) → a ≡ false → b ≡ false → (a || b) ≡ false
neither true b e h = absurd (cc (e))
neither false b e h = h

first_fails : (a b : Bool) → a ≡ false → (a && b) ≡ false
first_fails true b e = absurd (cc (e))
first_fails false b e = refl

same_fails : (a same : Bool) → same ≡ true → (a && not same) ≡ false
same_fails a false e = absurd (cc (e))
same_fails true true e = refl
same_fails false true e = refl

module _ {T : Type 0} (key : T → ℕ) (alike : T → T → Bool) (flip : (a b : T) → alike a b ≡ alike b a) (row : T) where
  abbrev shares : T → Bool
  shares r = alike r row && not (eqb (key r) (key row))

  none_share : (rows : List T) → AllByRecursion (λ r. alike row r ≡ false) rows → list_any shares rows ≡ false
  none_share [] h = refl
  none_share (r ∷ rs) h = neither (shares r) (list_any shares rs) (first_fails (alike r row) (not (eqb (key r) (key row))) (flip r row ∙ h.0)) (none_share rs h.1)

  -- where it is put among rows that are apart, no other one was alike
  pub put_apart : (rows : List T) → AreApart alike (with_row key row rows) → list_any shares rows ≡ false
  put_apart [] h = refl
  put_apart (r ∷ rs) h = with_row_cases key (λ list. AreApart alike list → list_any shares (r ∷ rs) ≡ false) row r rs
      (λ lt apart. neither (shares r) (list_any shares rs) (first_fails (alike r row) (not (eqb (key r) (key row))) (put_has key (λ s. alike r s ≡ false) row rs apart.0)) (put_apart rs apart.1))
      (λ e apart. neither (shares r) (list_any shares rs) (same_fails (alike r row) (eqb (key r) (key row)) (grind (arith, nat_tests, e))) (none_share rs apart.0))
      (λ lt apart. none_share (r ∷ rs) apart.0)
      h

-- those in front are apart too
front_fails : {T : Type 0} (P : T → Type 0) (xs ys : List T) → AllByRecursion P (xs ++ ys) → AllByRecursion P xs
front_fails P [] ys h = tt
front_fails P (x ∷ xs) ys h = (h.0, front_fails P xs ys h.1)

pub front_apart : {T : Type 0} (alike : T → T → Bool) (xs ys : List T) → AreApart alike (xs ++ ys) → AreApart alike xs
front_apart alike [] ys h = tt
front_apart alike (x ∷ xs) ys h = (front_fails (λ s. alike x s ≡ false) xs ys h.0, front_apart alike xs ys h.1)
