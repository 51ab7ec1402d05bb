-- Counts of a sound office.
use Rattle.std.proofs.Common.{◌≤◌, ℕ, Bool, true, false, ◌-◌, ◌*◌, List, [], ◌∷◌, length, sum_by, if◌then◌else◌, arith}
use Rattle.std.specs.List.{AllByRecursion}
use Rattle.std.proofs.lemmas.List.Sums.{count_by-le-length, sum_by-cons}
use Rattle.base_values.specs.Money.{last_cents}
use Rattle.model_catalogue.specs.Limits.{most_rows}
use Rattle.model_catalogue.specs.declared.rows.Quota.{Quota}
use Rattle.model_rows.specs.declared.rows.OrderPos.{OrderPos}
use Rattle.model_rows.specs.declared.rows.Voucher.{Voucher}
use Rattle.model_rows.specs.Conditions.{blocks, is_paid, is_pending}
use Rattle.model_rows.specs.Lists.{Lists, State}
use Rattle.model_rows.specs.Usage.{blocked_by, cart_counts, exit_counts, position_counts, redeemed, spends, spent, usage_of, uses, waits_for}
use Rattle.model_invariant.specs.Limits.{IsLimitedPosition, IsLimitedVoucher}
use Rattle.model_invariant.specs.Sound.{IsSound}
use Rattle.file_capacity.specs.Bounded.{IsBounded}

-- at most so many each
blocks_few : (b : Bool) (most spent : ℕ) → most ≤ 1000000 → (if b then most - spent else 0) ≤ 1000000
blocks_few true most spent h = omega (arith, h)
blocks_few false most spent h = omega arith

blocked_few : (lists : Lists) (at : ℕ) (quota : Quota) (v : Voucher) → IsLimitedVoucher v → blocked_by lists at quota v ≤ 1000000
unfolding blocked_by
blocked_few lists at quota v h = blocks_few (blocks at quota v) v.max_usages (redeemed v.id lists) h.uses.1

all_few : {X : Type 0} (P : X → Type 0) (f : X → ℕ) → ((x : X) → P x → f x ≤ 1000000) → (xs : List X) → AllByRecursion P xs → sum_by f xs ≤ length xs * 1000000
all_few P f few [] h = omega arith
all_few P f few (x ∷ xs) h = omega (arith, sum_by-cons f x xs, few x h.0, all_few P f few xs h.1)

within : (n most : ℕ) → n ≤ most → most ≤ 1000000 → n ≤ 1000000
within n most h k = omega (arith, h, k)

pub quota_bounded : (state : State) → IsSound state → (quota : Quota) → IsBounded (usage_of state.lists state.moment quota)
unfolding usage_of
quota_bounded state sound quota =
    let lists = state.lists in
    record {
      paid = within _ _ (count_by-le-length (position_counts is_paid lists quota) lists.positions) sound.few.positions;
      pending = within _ _ (count_by-le-length (position_counts is_pending lists quota) lists.positions) sound.few.positions;
      blocked = omega (arith, all_few IsLimitedVoucher (blocked_by lists state.moment quota) (blocked_few lists state.moment quota) lists.vouchers sound.limits.vouchers, sound.few.vouchers);
      carts = within _ _ (count_by-le-length (cart_counts lists state.moment quota) lists.carts) sound.few.carts;
      waiting = within _ _ (count_by-le-length (waits_for quota) lists.waiting) sound.few.waiting;
      exited = within _ _ (count_by-le-length (exit_counts lists quota) lists.positions) sound.few.positions;
    }

pub voucher_bounded : (state : State) → IsSound state → (voucher : ℕ) → redeemed voucher state.lists ≤ most_rows
voucher_bounded state sound voucher = within _ _ (count_by-le-length (uses voucher state.lists) state.lists.positions) sound.few.positions

-- what is spent: a discount for each position that uses the voucher
taken_few : (counts : Bool) (discount : ℕ) → discount ≤ 9999999999 → (if counts then discount else 0) ≤ 9999999999
taken_few true discount h = h
taken_few false discount h = omega arith

all_spent : (voucher : ℕ) (lists : Lists) (ps : List OrderPos) → AllByRecursion IsLimitedPosition ps → sum_by (spends voucher lists) ps ≤ length ps * 9999999999
all_spent voucher lists [] h = omega arith
all_spent voucher lists (p ∷ ps) h = omega (arith, sum_by-cons (spends voucher lists) p ps, taken_few (uses voucher lists p) p.discount h.0.discount, all_spent voucher lists ps h.1)

pub spent_bounded : (state : State) → IsSound state → (voucher : ℕ) → spent voucher state.lists ≤ most_rows * last_cents
spent_bounded state sound voucher = omega (arith, all_spent voucher state.lists state.lists.positions sound.limits.positions, sound.few.positions)
