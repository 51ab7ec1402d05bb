-- What is spent of a voucher's budget: no more than all discounts, and nothing where no position uses the voucher.
use Rattle.std.proofs.Common.{◌≡◌, ℕ, ◌*◌, ◌≤◌, Bool, true, false, List, [], ◌∷◌, length, refl, count_by, sum_by, arith}
use Rattle.std.specs.Prelude.{if◌then◌else◌}
use Rattle.std.specs.List.{AllByRecursion}
use Rattle.std.proofs.lemmas.List.Sums.{sum_by-cons}
use Rattle.model_rows.specs.declared.rows.OrderPos.{OrderPos}
use Rattle.model_rows.specs.Kept.{IsKept}
use Rattle.model_rows.specs.Lists.{Lists}
use Rattle.model_rows.specs.Usage.{uses, redeemed, spends, spent}
use Rattle.model_rows.proofs.Time.{one}

module _ (id : ℕ) (lists : Lists) where
  one_few : (p : OrderPos) → p.discount ≤ 9999999999 → spends id lists p ≤ 9999999999
  one_few p le = by_test (uses id lists p)
    where
      by_test : (b : Bool) → (if b then p.discount else 0) ≤ 9999999999
      by_test true = le
      by_test false = omega arith

  spent_few : (ps : List OrderPos) → AllByRecursion (λ p. p.discount ≤ 9999999999) ps → sum_by (spends id lists) ps ≤ length ps * 9999999999
  spent_few [] h = omega arith
  spent_few (p ∷ ps) h = omega (arith, spent_few ps h.1, sum_by-cons (spends id lists) p ps, one_few p h.0)

  pub spent_le : (limit : ℕ) → IsKept limit lists → AllByRecursion (λ p. p.discount ≤ 9999999999) lists.positions → spent id lists ≤ limit * 9999999999
  spent_le limit kept priced = omega (arith, kept.positions.few, spent_few lists.positions priced)

  none_spends : (b : Bool) (discount : ℕ) → one b ≡ 0 → ◌≡◌ {A = ℕ} (if b then discount else 0) 0
  none_spends true discount e = absurd (cc e)
  none_spends false discount e = refl

  unused : (ps : List OrderPos) → count_by (uses id lists) ps ≡ 0 → sum_by (spends id lists) ps ≡ 0
  unused [] e = refl
  unused (p ∷ ps) e =
      let parts = sum_by-cons (λ q. one (uses id lists q)) p ps in
      omega (arith, sum_by-cons (spends id lists) p ps, none_spends (uses id lists p) p.discount (omega (arith, e, parts)), unused ps (omega (arith, e, parts)))

  -- of a voucher that isn't redeemed nothing is spent
  pub unused_unspent : redeemed id lists ≡ 0 → spent id lists ≡ 0
  unused_unspent e = unused lists.positions e
