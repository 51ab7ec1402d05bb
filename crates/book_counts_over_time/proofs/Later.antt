-- The usage at a later moment, by what a walk over what came due adds up to.
use Rattle.std.proofs.Common.{◌≡◌, ℕ, ◌-◌, ◌≤◌, Bool, true, false, not, ◌&&◌, leb, ltb, List, Option, Some, None, refl, sym, ap, ◌∙◌, count_by, sum_by, arith}
use Rattle.std.specs.Prelude.{if◌then◌else◌, is_some}
use Rattle.std.proofs.lemmas.Bool.Decides.{nat_tests}
use Rattle.std.proofs.lemmas.List.Sums.{count_by-le-length}
use Rattle.base_tables.specs.Tables.{row_at}
use Rattle.model_catalogue.specs.declared.rows.Quota.{Quota}
use Rattle.model_catalogue.specs.Member.{is_in}
use Rattle.model_rows.specs.declared.rows.Voucher.{Voucher}
use Rattle.model_rows.specs.declared.rows.CartPos.{CartPos}
use Rattle.model_rows.specs.declared.rows.Usage.{Usage}
use Rattle.model_rows.specs.Conditions.{is_live_cart, has_not_ended, hits, names, holds}
use Rattle.model_rows.specs.Lists.{Lists, voucher_at}
use Rattle.model_rows.proofs.EachRow.{key-row_at}
use Rattle.model_rows.specs.Kept.{IsKept}
use Rattle.model_rows.specs.Usage.{redeemed, cart_counts, usage_of}
use Rattle.model_rows.specs.Asked.{held_in}
use Rattle.model_rows.specs.CameDue.{ends_between, is_due_cart, is_due_voucher, is_due_if, names_due_by, names_due, naming_due}
use Rattle.book_counts_over_time.specs.Names.{passes_if, names_one}
use Rattle.book_counts_over_time.specs.Later.{Stands, release_if, free_if, naming_if}
use Rattle.book_counts_over_time.specs.UsageUpdates.{count_moved, blocks_released, carts_freed, carts_lapsed, time_shift}
use Rattle.book_counts_over_time.proofs.Due.{has_lapsed, has_released, released_if, released_by, is_freed, carts_later, blocked_later}
use Rattle.book_indexes.proofs.EntryLemmas.{sums_like}
use Rattle.book_counts_over_time.proofs.ByName.{sum_by_name}

abbrev one : Bool → ℕ
one b = if b then 1 else 0

-- what is found by an id stands
pub stands_at : (lists : Lists) (id : ℕ) (found : Option Voucher) → found ≡ voucher_at id lists → Stands lists found
stands_at lists id None is = tt
stands_at lists id (Some v) is = ap (λ x. voucher_at x lists) (key-row_at (λ r. r.id) id lists.vouchers v (sym is)) ∙ sym is

-- one that doesn't stand isn't there
pub none_stands : (found : Option Voucher) → found ≡ None → is_some found ≡ true → ⊥
none_stands found none some = cc (sym (ap is_some none) ∙ some)

module _ (quota : Quota) (lists : Lists) (from to : ℕ) (le : from ≤ to) where
  due_cart_is : (c : CartPos) → is_due_cart from to c ≡ has_lapsed quota lists from to le c
  due_cart_is c = grind (arith, nat_tests)

  lapsed_is : count_by (λ c. is_due_cart from to c && cart_counts lists from quota c) lists.carts ≡ count_by (λ c. has_lapsed quota lists from to le c && cart_counts lists from quota c) lists.carts
  lapsed_is = sums_like (λ c. one (is_due_cart from to c && cart_counts lists from quota c)) (λ c. one (has_lapsed quota lists from to le c && cart_counts lists from quota c)) lists.carts (λ c. ap (λ b. one (b && cart_counts lists from quota c)) (due_cart_is c))

  ends : (block hit : Bool) (o : Option ℕ) (n : ℕ) → (if ends_between from to o then (if block && hit then n else 0) else 0) ≡ (if ((block && has_not_ended from o) && hit) && not (has_not_ended to o) then n else 0)
  ends true true None n = refl
  ends true false None n = refl
  ends false hit None n = refl
  ends true true (Some e) n = ap (λ b. if b then n else 0) due
    where
      due : (leb from e && ltb e to) ≡ ((leb from e && true) && not (leb to e))
      due = grind (arith, nat_tests)
  ends true false (Some e) n = none (leb from e && ltb e to) (leb from e)
    where
      none : (a b : Bool) → (if a then 0 else 0) ≡ (if (b && false) && not (leb to e) then n else 0)
      none true true = refl
      none true false = refl
      none false true = refl
      none false false = refl
  ends false hit (Some e) n = none (leb from e && ltb e to)
    where
      none : (a : Bool) → ◌≡◌ {A = ℕ} (if a then 0 else 0) 0
      none true = refl
      none false = refl

  released_is : sum_by (λ v. if is_due_voucher from to v then release_if lists quota (Some v) else 0) lists.vouchers ≡ sum_by (λ v. if has_released quota lists from to le v then v.max_usages - redeemed v.id lists else 0) lists.vouchers
  unfolding release_if
  released_is = sums_like (λ v. if is_due_voucher from to v then release_if lists quota (Some v) else 0) (λ v. if has_released quota lists from to le v then v.max_usages - redeemed v.id lists else 0) lists.vouchers (λ v. ends v.block_quota (hits quota v) v.valid_until (v.max_usages - redeemed v.id lists))

  abbrev counts_now : CartPos → ℕ
  counts_now c = one (is_live_cart to c && is_in quota c.product)

  third : (a b d : Bool) → one ((b && a) && d) ≡ (if a then one (b && d) else 0)
  third true true d = refl
  third true false d = refl
  third false true d = refl
  third false false d = refl

  held_is : (id : ℕ) → held_in to quota id lists ≡ sum_by (λ c. if names id c.voucher then counts_now c else 0) lists.carts
  held_is id = sums_like (λ c. one (holds to id c && is_in quota c.product)) (λ c. if names id c.voucher then counts_now c else 0) lists.carts (λ c. third (names id c.voucher) (is_live_cart to c) (is_in quota c.product))

  released_name : (vs : List Voucher) (o : Option ℕ) → names_one (λ v. v.id) (has_released quota lists from to le) vs o ≡ released_by quota lists from to le vs o
  released_name vs None = refl
  released_name vs (Some x) = by_found (row_at (λ v. v.id) x vs)
    where
      by_found : (found : Option Voucher) → passes_if (has_released quota lists from to le) found ≡ released_if quota lists from to le found
      by_found None = refl
      by_found (Some v) = refl

  last : (a b : Bool) → (if a then one b else 0) ≡ one (b && a)
  last true true = refl
  last true false = refl
  last false true = refl
  last false false = refl

  freed_is : IsKept 4294967296 lists → sum_by (λ v. if is_due_voucher from to v then free_if lists to quota (Some v) else 0) lists.vouchers ≡ count_by (is_freed quota lists from to le lists.vouchers) lists.carts
  unfolding free_if
  freed_is kept =
      sums_like (λ v. if is_due_voucher from to v then free_if lists to quota (Some v) else 0) (λ v. if has_released quota lists from to le v then sum_by (λ c. if names v.id c.voucher then counts_now c else 0) lists.carts else 0) lists.vouchers
      (λ v. ends v.block_quota (hits quota v) v.valid_until (held_in to quota v.id lists) ∙ ap (λ n. if has_released quota lists from to le v then n else 0) (held_is v.id))
      ∙ sum_by_name (λ v. v.id) (λ c. c.voucher) (has_released quota lists from to le) counts_now lists.carts lists.vouchers kept.vouchers.in_order
      ∙ sums_like (λ c. if names_one (λ v. v.id) (has_released quota lists from to le) lists.vouchers c.voucher then counts_now c else 0) (λ c. one (is_freed quota lists from to le lists.vouchers c)) lists.carts
      (λ c. ap (λ b. if b then counts_now c else 0) (released_name lists.vouchers c.voucher) ∙ last (released_by quota lists from to le lists.vouchers c.voucher) (is_live_cart to c && is_in quota c.product))

  -- how many name those that came due
  pub naming_is : IsKept 4294967296 lists → sum_by (λ v. if is_due_voucher from to v then naming_if lists (Some v) else 0) lists.vouchers ≡ naming_due from to lists
  unfolding naming_if
  naming_is kept =
      sum_by_name (λ v. v.id) (λ c. c.voucher) (is_due_voucher from to) (λ c. 1) lists.carts lists.vouchers kept.vouchers.in_order
      ∙ sums_like (λ c. if names_one (λ v. v.id) (is_due_voucher from to) lists.vouchers c.voucher then 1 else 0) (λ c. one (names_due from to lists c)) lists.carts (λ c. ap one (due_name c.voucher))
    where
      due_name : (o : Option ℕ) → names_one (λ v. v.id) (is_due_voucher from to) lists.vouchers o ≡ names_due_by from to lists o
      due_name None = refl
      due_name (Some x) = by_found (row_at (λ v. v.id) x lists.vouchers)
        where
          by_found : (found : Option Voucher) → passes_if (is_due_voucher from to) found ≡ is_due_if from to found
          by_found None = refl
          by_found (Some v) = refl

  -- the usage at a later moment
  pub usage_later : IsKept 4294967296 lists → (blocked carts released freed lapsed : ℕ) → (usage_of lists from quota).blocked ≤ 18446744073709551615
      → released ≡ sum_by (λ v. if is_due_voucher from to v then release_if lists quota (Some v) else 0) lists.vouchers
      → freed ≡ sum_by (λ v. if is_due_voucher from to v then free_if lists to quota (Some v) else 0) lists.vouchers
      → lapsed ≡ count_by (λ c. is_due_cart from to c && cart_counts lists from quota c) lists.carts
      → blocked ≡ count_moved (usage_of lists from quota).blocked 0 released
      → carts ≡ count_moved (usage_of lists from quota).carts freed lapsed
      → record (usage_of lists from quota) { blocked = blocked; carts = carts } ≡ usage_of lists to quota
  unfolding usage_of
  usage_later kept blocked carts released freed lapsed small r f l b n =
      let b_is : blocked ≡ (usage_of lists to quota).blocked = omega (arith, b, r, released_is, blocked_later quota lists from to le, small) in
      let n_is : carts ≡ (usage_of lists to quota).carts = omega (arith, n, f, l, freed_is kept, lapsed_is, carts_later quota lists from to le, count_by-le-length (cart_counts lists from quota) lists.carts, count_by-le-length (is_freed quota lists from to le lists.vouchers) lists.carts, kept.carts.few) in
      λ i. record (usage_of lists from quota) { blocked = b_is i; carts = n_is i }

  -- a usage that is kept, after time has passed
  pub time_is : IsKept 4294967296 lists → (usage : Usage) → usage ≡ usage_of lists from quota → usage.blocked ≤ 18446744073709551615 → time_shift lists from to quota usage ≡ usage_of lists to quota
  time_is kept usage is fits =
      let small : (usage_of lists from quota).blocked ≤ 18446744073709551615 = omega (arith, fits, ap (λ (u : Usage). u.blocked) is) in
      ap (time_shift lists from to quota) is
      ∙ usage_later kept (count_moved (usage_of lists from quota).blocked 0 (blocks_released lists from to quota)) (count_moved (usage_of lists from quota).carts (carts_freed lists from to quota) (carts_lapsed lists from to quota)) (blocks_released lists from to quota) (carts_freed lists from to quota) (carts_lapsed lists from to quota) small refl refl refl refl refl
