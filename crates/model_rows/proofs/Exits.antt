-- Those who have gone out are among the paid ones; what takes a place, after a new check-in and after an order's status changed.
use Rattle.std.proofs.Common.{◌≡◌, ℕ, ◌+◌, ◌≤◌, ◌≢◌, ◌⊎◌, inl, inr, Bool, true, false, ◌&&◌, eqb, List, [], ◌∷◌, Option, Some, None, refl, ap, ◌∙◌, sum_by, count_by, arith}
use Rattle.std.specs.Prelude.{if◌then◌else◌}
use Rattle.std.proofs.lemmas.Bool.Decides.{nat_tests, eqb_tells}
use Rattle.std.proofs.lemmas.List.Sums.{sum_by-cons, sum_by-le-sum_by}
use Rattle.base_tables.specs.Tables.{row_at, sum_at, InOrderFrom, AreInOrder}
use Rattle.base_tables.proofs.Edits.{row_at-with_row}
use Rattle.base_tables.proofs.OneId.{sum_one}
use Rattle.model_catalogue.specs.declared.rows.Quota.{Quota}
use Rattle.model_catalogue.specs.Member.{is_in}
use Rattle.model_rows.specs.declared.rows.Checkin.{Checkin}
use Rattle.model_rows.specs.declared.rows.Order.{Order}
use Rattle.model_rows.specs.declared.rows.OrderPos.{OrderPos}
use Rattle.model_rows.specs.declared.rows.Status.{Status}
use Rattle.model_rows.specs.declared.rows.Status.TheVariants.{Pending, Paid, Expired, Cancelled}
use Rattle.model_rows.specs.declared.changes.Change.TheVariants.{PutOrder, PutCheckin}
use Rattle.model_rows.specs.Conditions.{is_paid, is_pending}
use Rattle.model_rows.specs.Lists.{Lists, order_at, position_at, checkin_at}
use Rattle.model_rows.specs.Change.{after_change}
use Rattle.model_rows.specs.Passages.{is_at, is_out}
use Rattle.model_rows.specs.Usage.{usage_of, stands_as, position_counts, is_released, exit_counts, holds_place, takes_place, blocked_by, cart_counts, waits_for}
use Rattle.model_rows.specs.Total.{total}
use Rattle.model_rows.proofs.Time.{one, same_sums, gated}
use Rattle.model_rows.proofs.Orders.{sum_by_swap}
use Rattle.model_rows.proofs.LastPassages.{other_out}

module _ (lists : Lists) (quota : Quota) where
  fewer : (s i r : Bool) → one (s && (i && r)) ≤ one (s && i)
  fewer true true true = omega arith
  fewer true true false = omega arith
  fewer true false r = omega arith
  fewer false i r = omega arith

  exits_le : count_by (exit_counts lists quota) lists.positions ≤ count_by (position_counts is_paid lists quota) lists.positions
  exits_le = sum_by-le-sum_by (λ p. one (exit_counts lists quota p)) (λ p. one (position_counts is_paid lists quota p)) lists.positions (λ p. fewer (stands_as is_paid (order_at p.order lists)) (is_in quota p.product) (is_released lists quota p))

  -- those who have gone out are among the paid ones
  pub exited_are_paid : (at : ℕ) → (usage_of lists at quota).exited ≤ (usage_of lists at quota).paid
  unfolding usage_of
  exited_are_paid at = exits_le

  parted : (o : Option Order) (i r : Bool) → one (stands_as is_paid o && (i && r)) + one (stands_as (λ s. holds_place s r) o && i) ≡ one (stands_as is_paid o && i) + one (stands_as is_pending o && i)
  parted None i r = refl
  parted (Some o) i r = by_status o.status i r
    where
      by_status : (s : Status) (i r : Bool) → one (is_paid s && (i && r)) + one (holds_place s r && i) ≡ one (is_paid s && i) + one (is_pending s && i)
      by_status Pending true r = refl
      by_status Pending false r = refl
      by_status Paid true true = refl
      by_status Paid true false = refl
      by_status Paid false true = refl
      by_status Paid false false = refl
      by_status Expired i r = refl
      by_status Cancelled i r = refl

  -- a position of a paid or pending order has gone out, or takes its place
  pub places_and_exits : count_by (exit_counts lists quota) lists.positions + count_by (takes_place lists quota) lists.positions ≡ count_by (position_counts is_paid lists quota) lists.positions + count_by (position_counts is_pending lists quota) lists.positions
  places_and_exits = sum_by_swap (λ p. one (exit_counts lists quota p)) (λ p. one (takes_place lists quota p)) (λ p. one (position_counts is_paid lists quota p)) (λ p. one (position_counts is_pending lists quota p)) lists.positions (λ p. parted (order_at p.order lists) (is_in quota p.product) (is_released lists quota p))

  -- all that is used, as a sum of places
  pub total_is : (at : ℕ) → total (usage_of lists at quota) ≡ count_by (takes_place lists quota) lists.positions + sum_by (blocked_by lists at quota) lists.vouchers + count_by (cart_counts lists at quota) lists.carts + count_by (waits_for quota) lists.waiting
  unfolding usage_of
  total_is at = omega (arith, exits_le, places_and_exits)

-- a quota that keeps its places has none that are set free
module _ (lists : Lists) (quota : Quota) (closed : quota.release_after_exit ≡ false) where
  none_released : (s i r : Bool) → one (s && (i && (quota.release_after_exit && r))) ≡ 0
  none_released s i r = ap (λ (b : Bool). one (s && (i && (b && r)))) closed ∙ by_each s i
    where
      by_each : (s i : Bool) → one (s && (i && false)) ≡ 0
      by_each true true = refl
      by_each true false = refl
      by_each false i = refl

  pub none_exited : (at : ℕ) → (usage_of lists at quota).exited ≡ 0
  unfolding usage_of
  none_exited at = same_sums (λ p. one (exit_counts lists quota p)) (λ p. one (false && true)) lists.positions (λ p. none_released (stands_as is_paid (order_at p.order lists)) (is_in quota p.product) (is_out p.id lists.checkins)) ∙ gated false (λ p. true) lists.positions

-- a new check-in
module _ (row : Checkin) (lists : Lists) (new : checkin_at row.id lists ≡ None) (order : AreInOrder (λ p. p.id) lists.positions) (quota : Quota) where
  abbrev after : Lists
  after = after_change (PutCheckin row) lists

  abbrev own : Option OrderPos
  own = position_at row.position lists

  released_other : (p : OrderPos) → eqb p.id row.position ≡ false → is_released after quota p ≡ is_released lists quota p
  released_other p e =
      let other : is_at p.id row ≡ false = grind (arith, nat_tests, e) in
      ap (λ (b : Bool). quota.release_after_exit && b) (other_out p.id row lists.checkins new other)

  -- its position counts as one that has gone out, or no longer, and no other one does otherwise
  pub exit_shift : count_by (exit_counts after quota) lists.positions + sum_at (λ p. one (exit_counts lists quota p)) own ≡ count_by (exit_counts lists quota) lists.positions + sum_at (λ p. one (exit_counts after quota p)) own
  exit_shift = sum_one (λ (p : OrderPos). p.id) (λ p. one (exit_counts lists quota p)) (λ p. one (exit_counts after quota p)) row.position (λ p e. ap (λ (b : Bool). one (stands_as is_paid (order_at p.order lists) && (is_in quota p.product && b))) (released_other p e)) 0 lists.positions order

  takes_shift : count_by (takes_place after quota) lists.positions + sum_at (λ p. one (takes_place lists quota p)) own ≡ count_by (takes_place lists quota) lists.positions + sum_at (λ p. one (takes_place after quota p)) own
  takes_shift = sum_one (λ (p : OrderPos). p.id) (λ p. one (takes_place lists quota p)) (λ p. one (takes_place after quota p)) row.position (λ p e. ap (λ (b : Bool). one (stands_as (λ s. holds_place s b) (order_at p.order lists) && is_in quota p.product)) (released_other p e)) 0 lists.positions order

  -- all that is used: its position takes its place, or no longer
  pub place_shift : (at : ℕ) → total (usage_of after at quota) + sum_at (λ p. one (takes_place lists quota p)) own ≡ total (usage_of lists at quota) + sum_at (λ p. one (takes_place after quota p)) own
  unfolding blocked_by
  place_shift at = omega (arith, takes_shift, total_is lists quota at, total_is after quota at)

-- an order in the place of its id
module _ (row : Order) (lists : Lists) (quota : Quota) where
  abbrev later : Lists
  later = after_change (PutOrder row) lists

  abbrev places : Option Order → OrderPos → Bool
  places o p = stands_as (λ s. holds_place s (is_released lists quota p)) o && is_in quota p.product

  -- the places that its positions hold, where it is of this status
  abbrev pub held_by : Status → ℕ
  held_by status = count_by (λ p. eqb row.id p.order && (holds_place status (is_released lists quota p) && is_in quota p.product)) lists.positions

  abbrev pub held_if : Option Order → ℕ
  held_if None = 0
  held_if (Some o) = held_by o.status

  all_none : (xs : List OrderPos) → count_by (λ p. eqb row.id p.order && places None p) xs ≡ 0
  all_none xs = same_sums (λ p. one (eqb row.id p.order && places None p)) (λ p. one (false && true)) xs (λ p. ap one (none (eqb row.id p.order))) ∙ gated false (λ p. true) xs
    where
      none : (b : Bool) → (b && false) ≡ false
      none true = refl
      none false = refl

  held_is : (o : Option Order) → count_by (λ p. eqb row.id p.order && places o p) lists.positions ≡ held_if o
  held_is None = all_none lists.positions
  held_is (Some o) = refl

  each : (p : OrderPos) → one (takes_place later quota p) + one (eqb row.id p.order && places (order_at row.id lists) p) ≡ one (takes_place lists quota p) + one (eqb row.id p.order && places (Some row) p)
  each p = ap (λ (o : Option Order). one (places o p) + one (eqb row.id p.order && places (order_at row.id lists) p)) (row_at-with_row (λ r. r.id) p.order row lists.orders) ∙ by_own (eqb row.id p.order) refl
    where
      by_own : (b : Bool) → eqb row.id p.order ≡ b → one (places (if b then Some row else order_at p.order lists) p) + one (b && places (order_at row.id lists) p) ≡ one (takes_place lists quota p) + one (b && places (Some row) p)
      by_own true e =
          let same : row.id ≡ p.order = grind (arith, nat_tests, e) in
          omega (arith, ap (λ (n : ℕ). one (places (order_at n lists) p)) same)
      by_own false e = refl

  -- the places of its positions go, and come by its new status
  pub order_places : count_by (takes_place later quota) lists.positions + held_if (order_at row.id lists) ≡ count_by (takes_place lists quota) lists.positions + held_by row.status
  order_places =
      let sums = sum_by_swap (λ p. one (takes_place later quota p)) (λ p. one (eqb row.id p.order && places (order_at row.id lists) p)) (λ p. one (takes_place lists quota p)) (λ p. one (eqb row.id p.order && places (Some row) p)) lists.positions each in
      omega (arith, sums, held_is (order_at row.id lists), held_is (Some row))
