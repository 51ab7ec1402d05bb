-- What keeps the codes of vouchers apart.
use Rattle.std.proofs.Common.{◌≡◌, ℕ, ◌+◌, ◌<◌, Bool, true, false, ◌&&◌, not, eqb, List, [], ◌∷◌, refl, ◌∙◌, arith}
use Rattle.std.specs.List.{list_any, AllByRecursion}
use Rattle.std.proofs.lemmas.Bool.Decides.{nat_tests}
use Rattle.base_tables.specs.Tables.{with_row, without_row, InOrderFrom}
use Rattle.base_values.specs.Texts.{same_text}
use Rattle.model_rows.specs.declared.rows.Voucher.{Voucher}
use Rattle.model_rows.specs.Named.{AreUnlike}
use Rattle.model_rows.proofs.EachRow.{with_row_cases, without_row_cases, all-with_row, all-without_row, neither_first, neither_second}

-- either of two texts may be named before the other
pub same_text_flip : (a b : List ℕ) → same_text a b ≡ same_text b a
same_text_flip [] [] = refl
same_text_flip [] (y ∷ ys) = refl
same_text_flip (x ∷ xs) [] = refl
same_text_flip (x ∷ xs) (y ∷ ys) = grind (arith, nat_tests, same_text_flip xs ys)

differ : (same other : Bool) → (same && not other) ≡ false → other ≡ false → same ≡ false
differ same true h e = absurd (cc)
differ true false h e = h
differ false false h e = refl

module _ (row : Voucher) where
  abbrev shares : Voucher → Bool
  shares v = same_text v.code row.code && not (eqb v.id row.id)

  -- each voucher of a higher id has another code
  above : (n : ℕ) (vs : List Voucher) → row.id < n → InOrderFrom (λ r. r.id) n vs → list_any shares vs ≡ false → AllByRecursion (λ v. same_text row.code v.code ≡ false) vs
  above n [] lt o h = tt
  above n (v ∷ vs) lt o h =
      let other : eqb v.id row.id ≡ false = grind (arith, nat_tests, lt, o.0) in
      (same_text_flip row.code v.code ∙ differ (same_text v.code row.code) (eqb v.id row.id) (neither_first (shares v) (list_any shares vs) h) other, above (v.id + 1) vs (omega (arith, lt, o.0)) o.1 (neither_second (shares v) (list_any shares vs) h))

  -- a voucher whose code no other one has
  pub unlike_put : (n : ℕ) (vs : List Voucher) → InOrderFrom (λ r. r.id) n vs → list_any shares vs ≡ false → AreUnlike vs → AreUnlike (with_row (λ r. r.id) row vs)
  unlike_put n [] o h u = (tt, tt)
  unlike_put n (v ∷ vs) o h u =
      let none = neither_second (shares v) (list_any shares vs) h in
      let more = unlike_put (v.id + 1) vs o.1 none u.1 in
      with_row_cases (λ r. r.id) AreUnlike row v vs
      (λ lt. (all-with_row (λ r. r.id) (λ w. same_text v.code w.code ≡ false) row vs (differ (same_text v.code row.code) (eqb v.id row.id) (neither_first (shares v) (list_any shares vs) h) (grind (arith, nat_tests, lt))) u.0, more))
      (λ e. (above (v.id + 1) vs (omega (arith, e)) o.1 none, u.1))
      (λ lt. (above v.id (v ∷ vs) lt (omega arith, o.1) h, u))

pub unlike_drop : (id : ℕ) (vs : List Voucher) → AreUnlike vs → AreUnlike (without_row (λ r. r.id) id vs)
unlike_drop id [] u = tt
unlike_drop id (v ∷ vs) u =
    let more = unlike_drop id vs u.1 in
    without_row_cases (λ r. r.id) AreUnlike id v vs more (all-without_row (λ r. r.id) (λ w. same_text v.code w.code ≡ false) id vs u.0, more)
