-- Which cart positions count after a voucher came, changed or went.
use Rattle.std.proofs.Common.{◌≡◌, ℕ, ◌+◌, Bool, true, false, not, ◌&&◌, eqb, List, Option, Some, None, refl, sym, ap, ◌∙◌, count_by, arith}
use Rattle.std.specs.Prelude.{if◌then◌else◌}
use Rattle.std.proofs.lemmas.Bool.Decides.{nat_tests}
use Rattle.base_tables.specs.Tables.{row_at}
use Rattle.model_catalogue.specs.declared.rows.Quota.{Quota}
use Rattle.model_catalogue.specs.Member.{is_in}
use Rattle.model_rows.specs.declared.rows.Voucher.{Voucher}
use Rattle.model_rows.specs.declared.rows.CartPos.{CartPos}
use Rattle.model_rows.specs.Conditions.{is_live_cart, names, holds}
use Rattle.model_rows.specs.Lists.{Lists, voucher_at}
use Rattle.model_rows.specs.Usage.{cart_counts, blocks_if, is_covered_by}
use Rattle.model_rows.proofs.Time.{one, eqb_flip, gated, same_sums, sum_by_split}
use Rattle.model_rows.specs.Asked.{held_in}

-- what passes unless a test holds
unless : {X : Type 0} (b : Bool) (p : X → Bool) (xs : List X) → count_by (λ x. not b && p x) xs ≡ (if b then 0 else count_by p xs)
unless b p xs = gated (not b) p xs ∙ turned b (count_by p xs)
  where
    turned : (b : Bool) (n : ℕ) → (if not b then n else 0) ≡ (if b then 0 else n)
    turned true n = refl
    turned false n = refl

choose : (b : Bool) (at : ℕ) (quota : Quota) (come found : Option Voucher) → blocks_if at quota (if b then come else found) ≡ (if b then blocks_if at quota come else blocks_if at quota found)
choose true at quota come found = refl
choose false at quota come found = refl

-- vouchers of which the id's has become another one, or none
module _ (lists : Lists) (at : ℕ) (quota : Quota) (id : ℕ) (come : Option Voucher) (vouchers : List Voucher) (is : (x : ℕ) → row_at (λ r. r.id) x vouchers ≡ (if eqb id x then come else voucher_at x lists)) where
  abbrev after : Lists
  after = record lists { vouchers = vouchers }

  covered_now : (name : Option ℕ) → is_covered_by after at quota name ≡ (if names id name then blocks_if at quota come else is_covered_by lists at quota name)
  covered_now None = refl
  covered_now (Some x) = ap (blocks_if at quota) (is x) ∙ choose (eqb id x) at quota come (voucher_at x lists) ∙ ap (λ b. if b then blocks_if at quota come else is_covered_by lists at quota (Some x)) (eqb_flip id x)

  covered_before : (name : Option ℕ) → names id name ≡ true → is_covered_by lists at quota name ≡ blocks_if at quota (voucher_at id lists)
  covered_before None e = absurd (cc e)
  covered_before (Some x) e =
      let same : x ≡ id = grind (arith, nat_tests, e) in
      ap (λ y. blocks_if at quota (voucher_at y lists)) same

  -- one cart position: live, of the quota, names the voucher; what the old and the new voucher cover; whether it was covered
  each : (l i n o w p : Bool) → (n ≡ true → p ≡ o) → one (l && i && not (if n then w else p)) + one (not o && (l && n && i)) ≡ one (l && i && not p) + one (not w && (l && n && i))
  each l i n o w p h = grind (arith, h)

  pub carts_with : count_by (cart_counts after at quota) lists.carts + (if blocks_if at quota (voucher_at id lists) then 0 else held_in at quota id lists) ≡ count_by (cart_counts lists at quota) lists.carts + (if blocks_if at quota come then 0 else held_in at quota id lists)
  carts_with =
      let old = blocks_if at quota (voucher_at id lists) in
      let new = blocks_if at quota come in
      let claims : CartPos → Bool = λ c. holds at id c && is_in quota c.product in
      let before : CartPos → ℕ = λ c. one (cart_counts after at quota c) + one (not old && claims c) in
      let later : CartPos → ℕ = λ c. one (cart_counts lists at quota c) + one (not new && claims c) in
      ap (λ n. count_by (cart_counts after at quota) lists.carts + n) (sym (unless old claims lists.carts))
      ∙ sum_by_split (λ c. one (cart_counts after at quota c)) (λ c. one (not old && claims c)) before lists.carts (λ c. refl)
      ∙ same_sums before later lists.carts (λ c. ap (λ b. one (is_live_cart at c && is_in quota c.product && not b) + one (not old && claims c)) (covered_now c.voucher) ∙ each (is_live_cart at c) (is_in quota c.product) (names id c.voucher) old new (is_covered_by lists at quota c.voucher) (covered_before c.voucher))
      ∙ sym (sum_by_split (λ c. one (cart_counts lists at quota c)) (λ c. one (not new && claims c)) later lists.carts (λ c. refl))
      ∙ ap (λ n. count_by (cart_counts lists at quota) lists.carts + n) (unless new claims lists.carts)
