-- What a row that comes or goes does to the quotas that have its product, and to no other.
use Rattle.std.proofs.Common.{◌≡◌, ℕ, Bool, true, false, not, ◌&&◌, List, Option, Some, None, refl, sym, ap, arith}
use Rattle.std.specs.Prelude.{if◌then◌else◌}
use Rattle.model_catalogue.specs.declared.rows.Quota.{Quota}
use Rattle.model_catalogue.specs.Member.{is_in}
use Rattle.model_rows.specs.declared.rows.CartPos.{CartPos}
use Rattle.model_rows.specs.declared.rows.Waiting.{Waiting}
use Rattle.model_rows.specs.declared.rows.Usage.{Usage}
use Rattle.model_rows.specs.declared.rows.OrderPos.{OrderPos}
use Rattle.model_rows.specs.declared.rows.Status.{Status}
use Rattle.model_rows.specs.Conditions.{is_live_cart, is_paid, is_pending}
use Rattle.model_rows.specs.Lists.{Lists, order_at}
use Rattle.model_rows.specs.Usage.{is_covered, has_none, is_released, stands_as}
use Rattle.book_usage.specs.Shares.{cart_share, exited_share, status_share, waiting_share}
use Rattle.book_counts_over_time.specs.Redemptions.{position_shift}
use Rattle.book_counts_over_time.specs.UsageUpdates.{map_beside, only, count_moved, cart_shift, waiting_shift}
use Rattle.book_counts_over_time.proofs.TouchedLemmas.{beside_alike}

-- where a row isn't in the quota, nothing moves
pub either : {X : Type 0} (b : Bool) (x y : X) → (b ≡ false → x ≡ y) → (if b then x else y) ≡ x
either true x y h = refl
either false x y h = sym (h refl)

none_of : (a b d : Bool) → b ≡ false → ◌≡◌ {A = ℕ} (if a && b && d then 1 else 0) 0
none_of true true d h = absurd (cc h)
none_of true false d h = refl
none_of false b d h = refl

cart_none : (lists : Lists) (at : ℕ) (quota : Quota) (cart : CartPos) → is_in quota cart.product ≡ false → cart_share lists at quota (Some cart) ≡ 0
unfolding cart_share
cart_none lists at quota cart none = none_of (is_live_cart at cart) (is_in quota cart.product) (not (is_covered lists at quota cart)) none

pub no_cart : (lists : Lists) (at : ℕ) (quota : Quota) → cart_share lists at quota None ≡ 0
unfolding cart_share
no_cart lists at quota = refl

cart_still : (lists : Lists) (at : ℕ) (come gone : Option CartPos) (quota : Quota) (usage : Usage) → cart_share lists at quota come ≡ 0 → cart_share lists at quota gone ≡ 0 → cart_shift lists at come gone quota usage ≡ usage
cart_still lists at come gone quota usage a b =
    let same : count_moved usage.carts (cart_share lists at quota come) (cart_share lists at quota gone) ≡ usage.carts = omega (arith, a, b) in
    ap (λ (n : ℕ). record usage { carts = n }) same

module _ (lists : Lists) (at : ℕ) (quotas : List Quota) (us : List Usage) where
  pub cart_comes_one : (cart : CartPos) → map_beside (only (λ q. is_in q cart.product) (cart_shift lists at (Some cart) None)) quotas us ≡ map_beside (cart_shift lists at (Some cart) None) quotas us
  cart_comes_one cart = beside_alike (only (λ q. is_in q cart.product) (cart_shift lists at (Some cart) None)) (cart_shift lists at (Some cart) None) quotas us
      (λ q u. either (is_in q cart.product) (cart_shift lists at (Some cart) None q u) u (λ none. cart_still lists at (Some cart) None q u (cart_none lists at q cart none) (no_cart lists at q)))

-- the same of waiting entries
second_of : (a b : Bool) → b ≡ false → ◌≡◌ {A = ℕ} (if a && b then 1 else 0) 0
second_of true true h = absurd (cc h)
second_of true false h = refl
second_of false b h = refl

entry_none : (quota : Quota) (entry : Waiting) → is_in quota entry.product ≡ false → waiting_share quota (Some entry) ≡ 0
unfolding waiting_share
entry_none quota entry none = second_of (has_none entry.voucher) (is_in quota entry.product) none

no_entry : (quota : Quota) → waiting_share quota None ≡ 0
unfolding waiting_share
no_entry quota = refl

entry_still : (come gone : Option Waiting) (quota : Quota) (usage : Usage) → waiting_share quota come ≡ 0 → waiting_share quota gone ≡ 0 → waiting_shift come gone quota usage ≡ usage
entry_still come gone quota usage a b =
    let same : count_moved usage.waiting (waiting_share quota come) (waiting_share quota gone) ≡ usage.waiting = omega (arith, a, b) in
    ap (λ (n : ℕ). record usage { waiting = n }) same

module _ (quotas : List Quota) (us : List Usage) where
  pub entry_comes_one : (entry : Waiting) → map_beside (only (λ q. is_in q entry.product) (waiting_shift (Some entry) None)) quotas us ≡ map_beside (waiting_shift (Some entry) None) quotas us
  entry_comes_one entry = beside_alike (only (λ q. is_in q entry.product) (waiting_shift (Some entry) None)) (waiting_shift (Some entry) None) quotas us
      (λ q u. either (is_in q entry.product) (waiting_shift (Some entry) None q u) u (λ none. entry_still (Some entry) None q u (entry_none q entry none) (no_entry q)))

-- the same of order positions
first_of : (a b : Bool) → b ≡ false → ◌≡◌ {A = ℕ} (if a && b then 1 else 0) 0
first_of a b none = second_of a b none

position_none : (test : Status → Bool) (lists : Lists) (quota : Quota) (row : OrderPos) → is_in quota row.product ≡ false → status_share test lists quota (Some row) ≡ 0
unfolding status_share
position_none test lists quota row none = first_of (stands_as test (order_at row.order lists)) (is_in quota row.product) none

no_position : (test : Status → Bool) (lists : Lists) (quota : Quota) → status_share test lists quota None ≡ 0
unfolding status_share
no_position test lists quota = refl

-- and of those that are released
inside : (a b d : Bool) → b ≡ false → ◌≡◌ {A = ℕ} (if a && (b && d) then 1 else 0) 0
inside true true d h = absurd (cc h)
inside true false d h = refl
inside false b d h = refl

exit_none : (lists : Lists) (quota : Quota) (row : OrderPos) → is_in quota row.product ≡ false → exited_share lists quota (Some row) ≡ 0
unfolding exited_share
exit_none lists quota row none = inside (stands_as is_paid (order_at row.order lists)) (is_in quota row.product) (is_released lists quota row) none

no_exit : (lists : Lists) (quota : Quota) → exited_share lists quota None ≡ 0
unfolding exited_share
no_exit lists quota = refl

position_still : (lists : Lists) (come gone : Option OrderPos) (quota : Quota) (usage : Usage) → ((test : Status → Bool) → status_share test lists quota come ≡ 0) → ((test : Status → Bool) → status_share test lists quota gone ≡ 0) → exited_share lists quota come ≡ 0 → exited_share lists quota gone ≡ 0 → position_shift lists come gone quota usage ≡ usage
position_still lists come gone quota usage a b d e =
    let paid : count_moved usage.paid (status_share is_paid lists quota come) (status_share is_paid lists quota gone) ≡ usage.paid = omega (arith, a is_paid, b is_paid) in
    let pending : count_moved usage.pending (status_share is_pending lists quota come) (status_share is_pending lists quota gone) ≡ usage.pending = omega (arith, a is_pending, b is_pending) in
    let exited : count_moved usage.exited (exited_share lists quota come) (exited_share lists quota gone) ≡ usage.exited = omega (arith, d, e) in
    λ i. record usage { paid = paid i; pending = pending i; exited = exited i }

module _ (lists : Lists) (quotas : List Quota) (us : List Usage) where
  pub position_comes_one : (row : OrderPos) → map_beside (only (λ q. is_in q row.product) (position_shift lists (Some row) None)) quotas us ≡ map_beside (position_shift lists (Some row) None) quotas us
  position_comes_one row = beside_alike (only (λ q. is_in q row.product) (position_shift lists (Some row) None)) (position_shift lists (Some row) None) quotas us
      (λ q u. either (is_in q row.product) (position_shift lists (Some row) None q u) u (λ none. position_still lists (Some row) None q u (λ test. position_none test lists q row none) (λ test. no_position test lists q) (exit_none lists q row none) (no_exit lists q)))
