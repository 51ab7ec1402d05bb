-- What is known of a voucher id that wasn't given yet: nothing names it.
use Rattle.std.proofs.Common.{◌≡◌, ℕ, ◌+◌, ◌≤◌, Bool, true, false, ◌&&◌, eqb, List, [], ◌∷◌, Option, Some, None, refl, sum_by, arith}
use Rattle.std.specs.Prelude.{IfSome, if◌then◌else◌}
use Rattle.std.specs.List.{AllByRecursion}
use Rattle.std.proofs.lemmas.Bool.Decides.{nat_tests}
use Rattle.std.proofs.lemmas.List.Sums.{sum_by-cons}
use Rattle.base_tables.specs.Tables.{row_at}
use Rattle.model_catalogue.specs.declared.rows.Product.{Product}
use Rattle.model_rows.specs.declared.rows.CartPos.{CartPos}
use Rattle.model_rows.specs.declared.rows.OrderPos.{OrderPos}
use Rattle.model_rows.specs.declared.rows.Voucher.{Voucher}
use Rattle.model_rows.specs.Conditions.{is_live_cart, names, holds, is_in_force}
use Rattle.model_rows.specs.Lists.{Lists, order_at, voucher_at}
use Rattle.model_rows.specs.Usage.{redeemed, spends, spent, uses, stands_as}
use Rattle.model_rows.specs.Headroom.{held}
use Rattle.model_rows.specs.Fits.{fits_if, is_fit, AllFit}
use Rattle.model_invariant.specs.Ids.{AreNumbered}
use Rattle.model_rows.proofs.Time.{one}
use Rattle.model_rows.proofs.EachRow.{found_below}

module _ (lists : Lists) (next : ℕ) (numbered : AreNumbered (λ r. r.id) next lists.vouchers) where
  by_found : (product : Product) (id : ℕ) (found : Option Voucher) → row_at (λ r. r.id) id lists.vouchers ≡ found → fits_if lists.catalogue product found ≡ true → eqb id next ≡ false
  by_found product id None is h = absurd (cc)
  by_found product id (Some voucher) is h = grind (arith, nat_tests, found_below (λ (r : Voucher). r.id) id next lists.vouchers voucher is numbered.below)

  -- a fit row doesn't name it
  fit_unnamed : (product : Product) (name : Option ℕ) → is_fit lists product name ≡ true → names next name ≡ false
  fit_unnamed product None h = refl
  fit_unnamed product (Some id) h = by_found product id (voucher_at id lists) refl h

  none_first : (named other : Bool) → named ≡ false → one (named && other) ≡ 0
  none_first true other e = absurd (cc)
  none_first false other e = refl

  none_last : (other named : Bool) → named ≡ false → one (other && named) ≡ 0
  none_last other true e = absurd (cc)
  none_last true false e = refl
  none_last false false e = refl

  pub none_redeemed : (rows : List OrderPos) → AllByRecursion (λ p. is_fit lists p.product p.voucher ≡ true) rows → sum_by (λ p. one (uses next lists p)) rows ≡ 0
  none_redeemed [] h = refl
  none_redeemed (p ∷ ps) h = omega (arith, sum_by-cons (λ r. one (uses next lists r)) p ps, none_first (names next p.voucher) (stands_as is_in_force (order_at p.order lists)) (fit_unnamed p.product p.voucher h.0), none_redeemed ps h.1)

  pub none_held : (at : ℕ) (rows : List CartPos) → AllByRecursion (λ c. is_fit lists c.product c.voucher ≡ true) rows → sum_by (λ c. one (holds at next c)) rows ≡ 0
  none_held at [] h = refl
  none_held at (c ∷ cs) h = omega (arith, sum_by-cons (λ r. one (holds at next r)) c cs, none_last (is_live_cart at c) (names next c.voucher) (fit_unnamed c.product c.voucher h.0), none_held at cs h.1)

  -- so it has headroom, however often it may be used
  pub fresh_headroom : (at most : ℕ) → AllFit lists → redeemed next lists + held at next lists ≤ most
  fresh_headroom at most h = omega (arith, none_redeemed lists.positions h.positions, none_held at lists.carts h.carts)

  none_given : (named other : Bool) (n : ℕ) → named ≡ false → (if named && other then n else 0) ≡ 0
  none_given true other n e = absurd (cc)
  none_given false other n e = refl

  pub none_spent : (rows : List OrderPos) → AllByRecursion (λ p. is_fit lists p.product p.voucher ≡ true) rows → sum_by (spends next lists) rows ≡ 0
  none_spent [] h = refl
  none_spent (p ∷ ps) h = omega (arith, sum_by-cons (spends next lists) p ps, none_given (names next p.voucher) (stands_as is_in_force (order_at p.order lists)) p.discount (fit_unnamed p.product p.voucher h.0), none_spent ps h.1)

  -- and is within its budget, whatever that is
  pub fresh_budget : (budget : Option ℕ) → AllFit lists → IfSome budget (λ b. spent next lists ≤ b)
  fresh_budget None h = tt
  fresh_budget (Some b) h = omega (arith, none_spent lists.positions h.positions)
