-- An order whose status changes, but that doesn't come back: that raises no usage, unless it takes places again that exits set free.
use Rattle.std.proofs.Common.{◌≡◌, ℕ, ◌+◌, ◌≤◌, ◌⊎◌, inl, inr, Bool, true, false, ◌&&◌, ◌||◌, cond, eqb, List, [], ◌∷◌, Option, Some, refl, sym, ap, ◌∙◌, subst, sum_by, count_by, arith}
use Rattle.std.specs.Prelude.{if◌then◌else◌, filter}
use Rattle.std.specs.List.{AllByRecursion, list_any}
use Rattle.std.proofs.lemmas.Bool.Decides.{nat_tests}
use Rattle.std.proofs.lemmas.List.Sums.{sum_by-cons}
use Rattle.base_tables.specs.Tables.{AreInOrder}
use Rattle.base_tables.proofs.Edits.{row_at-with_row}
use Rattle.model_catalogue.specs.declared.rows.Quota.{Quota}
use Rattle.model_catalogue.specs.CatalogueLists.{quota_at}
use Rattle.model_catalogue.specs.Member.{is_in}
use Rattle.model_rows.specs.declared.rows.Order.{Order}
use Rattle.model_rows.specs.declared.rows.OrderPos.{OrderPos}
use Rattle.model_rows.specs.declared.rows.Status.{Status}
use Rattle.model_rows.specs.declared.rows.Status.TheVariants.{Pending, Paid, Expired, Cancelled}
use Rattle.model_rows.specs.declared.changes.Change.TheVariants.{PutOrder}
use Rattle.model_rows.specs.Conditions.{is_paid, is_in_force}
use Rattle.model_rows.specs.Lists.{Lists, State, order_at, positions_of}
use Rattle.model_rows.specs.Change.{after_change}
use Rattle.model_rows.specs.Passages.{is_out}
use Rattle.model_rows.specs.Usage.{stands_as, is_covered_by, is_released, holds_place, blocked_by, usage_of}
use Rattle.model_rows.specs.Refills.{blocks_again, refills_by, refills}
use Rattle.model_rows.specs.Total.{total}
use Rattle.model_rows.specs.Headroom.{AllHaveHeadroom}
use Rattle.model_invariant.specs.Sound.{IsSound}
use Rattle.model_rows.proofs.EachRow.{neither_first, neither_second, key-row_at}
use Rattle.model_rows.proofs.Time.{one, same_sums, gated}
use Rattle.model_rows.proofs.Orders.{counts, of_order, order_step, blocked_linear}
use Rattle.model_rows.proofs.OrderHeadroom.{headroom_kept_order}
use Rattle.model_rows.proofs.Exits.{total_is, held_by, held_if, order_places}
use Rattle.model_invariant.proofs.Exact.{all_inside, sound_exact}

module _ (row : Order) (lists : Lists) (at : ℕ) (quota : Quota) where
  abbrev after : Lists
  after = after_change (PutOrder row) lists

  abbrev in_it : OrderPos → Bool
  in_it p = is_in quota p.product

  -- its voucher blocks the quota
  abbrev covered : OrderPos → Bool
  covered p = is_covered_by lists at quota p.voucher

  abbrev out : OrderPos → Bool
  out p = is_released lists quota p

  -- the uses of the order's positions that vouchers block again
  abbrev given : ℕ
  given = count_by (λ p. of_order is_in_force covered row p && counts is_in_force covered lists p) lists.positions

  module _ (ended : is_in_force row.status ≡ false) where
    -- the order's own positions count no longer
    none_left : count_by (λ p. of_order is_in_force covered row p && counts is_in_force covered after p) lists.positions ≡ 0
    none_left = same_sums (λ p. one (of_order is_in_force covered row p && counts is_in_force covered after p)) (λ p. one (false && true)) lists.positions (λ p. ap one (none p)) ∙ gated false (λ p. true) lists.positions
      where
        by_order : (own : Bool) (found : Option Order) (m : Bool) → (own && (stands_as is_in_force (if own then Some row else found) && m)) ≡ false
        by_order true found m = ap (λ b. b && m) ended
        by_order false found m = refl

        none : (p : OrderPos) → (of_order is_in_force covered row p && counts is_in_force covered after p) ≡ false
        none p = ap (λ (o : Option Order). eqb row.id p.order && (stands_as is_in_force o && covered p)) (row_at-with_row (λ r. r.id) p.order row lists.orders) ∙ by_order (eqb row.id p.order) (order_at p.order lists) (covered p)

    no_place : (own i r : Bool) → one (own && (holds_place row.status r && i)) ≡ 0
    no_place own i r = by_status row.status ended own
      where
        by_status : (s : Status) → is_in_force s ≡ false → (own : Bool) → one (own && (holds_place s r && i)) ≡ 0
        by_status Pending e own = absurd (cc (e))
        by_status Paid e own = absurd (cc (e))
        by_status Expired e true = refl
        by_status Expired e false = refl
        by_status Cancelled e true = refl
        by_status Cancelled e false = refl

    holds_none : (ps : List OrderPos) → count_by (λ p. eqb row.id p.order && (holds_place row.status (out p) && in_it p)) ps ≡ 0
    holds_none [] = refl
    holds_none (p ∷ ps) = omega (arith, sum_by-cons (λ q. one (eqb row.id q.order && (holds_place row.status (out q) && in_it q))) p ps, no_place (eqb row.id p.order) (in_it p) (out p), holds_none ps)

    -- what each of them gives back it held
    abbrev IsGiven : Option Order → OrderPos → Type 0
    IsGiven old p = (covered p ≡ true → in_it p ≡ true) × (eqb row.id p.order ≡ true → (stands_as is_paid old && (out p && covered p)) ≡ false)

    held : (s : Status) (r c i : Bool) → (c ≡ true → i ≡ true) → (is_paid s && (r && c)) ≡ false → one (is_in_force s && c) ≤ one (holds_place s r && i)
    held Pending r true true h k = omega arith
    held Pending r true false h k = absurd (cc (h refl))
    held Pending r false i h k = omega arith
    held Paid true true i h k = absurd (cc (k))
    held Paid false true true h k = omega arith
    held Paid false true false h k = absurd (cc (h refl))
    held Paid r false i h k = omega arith
    held Expired r c i h k = omega arith
    held Cancelled r c i h k = omega arith

    given_le : (old : Order) → order_at row.id lists ≡ Some old → (ps : List OrderPos) → AllByRecursion (IsGiven (Some old)) ps → sum_by (λ p. one (of_order is_in_force covered row p && counts is_in_force covered lists p)) ps ≤ sum_by (λ p. one (eqb row.id p.order && (holds_place old.status (out p) && in_it p))) ps
    given_le old stood [] h = omega arith
    given_le old stood (p ∷ ps) h = omega (arith, by_own (eqb row.id p.order) refl, given_le old stood ps h.1, sum_by-cons (λ q. one (of_order is_in_force covered row q && counts is_in_force covered lists q)) p ps, sum_by-cons (λ q. one (eqb row.id q.order && (holds_place old.status (out q) && in_it q))) p ps)
      where
        by_own : (b : Bool) → eqb row.id p.order ≡ b → one (b && counts is_in_force covered lists p) ≤ one (b && (holds_place old.status (out p) && in_it p))
        by_own false e = omega arith
        by_own true e =
            let same : p.order ≡ row.id = grind (arith, nat_tests, e) in
            let found : order_at p.order lists ≡ Some old = ap (λ n. order_at n lists) same ∙ stood in
            subst (λ (o : Option Order). one (stands_as is_in_force o && covered p) ≤ one (holds_place old.status (out p) && in_it p)) (sym found) (held old.status (out p) (covered p) (in_it p) h.0.0 (h.0.1 e))

    -- where positions whose voucher blocks the quota are in it, and no own one of a paid order has gone out
    pub ended_order_lowers : (old : Order) → order_at row.id lists ≡ Some old → AreInOrder (λ r. r.id) lists.vouchers → AllHaveHeadroom at lists → AllByRecursion (IsGiven (Some old)) lists.positions → total (usage_of after at quota) ≤ total (usage_of lists at quota)
    unfolding blocked_by
    ended_order_lowers old stood vouchers room inside =
        let room_after = headroom_kept_order row lists at (λ force. absurd (cc (ended, force))) room in
        omega (
          arith,
          total_is lists quota at,
          total_is after quota at,
          order_places row lists quota,
          ap (λ (o : Option Order). held_if row lists quota o) stood,
          holds_none lists.positions,
          order_step is_in_force covered row lists,
          none_left,
          blocked_linear at quota lists vouchers room,
          blocked_linear at quota after vouchers room_after,
          given_le old stood lists.positions inside,
        )

  module _ (now : is_in_force row.status ≡ true) (old : Order) (stood : order_at row.id lists ≡ Some old) (before : is_in_force old.status ≡ true) where
    force_now : (id : ℕ) → eqb row.id id ≡ true → stands_as is_in_force (order_at id after) ≡ true
    force_now id e = ap (stands_as is_in_force) (row_at-with_row (λ r. r.id) id row lists.orders ∙ ap (λ b. if b then Some row else order_at id lists) e) ∙ now

    force_before : (id : ℕ) → eqb row.id id ≡ true → stands_as is_in_force (order_at id lists) ≡ true
    force_before id e =
        let same : id ≡ row.id = grind (arith, nat_tests, e) in
        ap (λ n. stands_as is_in_force (order_at n lists)) same ∙ ap (stands_as is_in_force) stood ∙ before

    same_spent : sum_by (λ p. one (of_order is_in_force covered row p && counts is_in_force covered after p)) lists.positions ≡ given
    same_spent = same_sums (λ p. one (of_order is_in_force covered row p && counts is_in_force covered after p)) (λ p. one (of_order is_in_force covered row p && counts is_in_force covered lists p)) lists.positions (λ p. by_order p (eqb row.id p.order) refl)
      where
        by_order : (p : OrderPos) (own : Bool) → eqb row.id p.order ≡ own → one (own && counts is_in_force covered after p) ≡ one (own && counts is_in_force covered lists p)
        by_order p false e = refl
        by_order p true e = ap (λ b. one (b && covered p)) (force_now p.order e ∙ sym (force_before p.order e))

    -- an order that was in force and still is holds other places, by its status
    pub kept_order_turns : AreInOrder (λ r. r.id) lists.vouchers → AllHaveHeadroom at lists → total (usage_of after at quota) + held_by row lists quota old.status ≡ total (usage_of lists at quota) + held_by row lists quota row.status
    unfolding blocked_by
    kept_order_turns vouchers room =
        let room_after = headroom_kept_order row lists at (λ force. ap (stands_as is_in_force) stood ∙ before) room in
        omega (
          arith,
          total_is lists quota at,
          total_is after quota at,
          order_places row lists quota,
          ap (λ (o : Option Order). held_if row lists quota o) stood,
          order_step is_in_force covered row lists,
          same_spent,
          blocked_linear at quota lists vouchers room,
          blocked_linear at quota after vouchers room_after,
        )

    -- it holds no more of them, unless a payment is taken back and the quota releases places
    fewer : (s t : Status) (r i own releases : Bool) → is_in_force s ≡ true → is_in_force t ≡ true → refills_by s t releases false ≡ false → (releases ≡ false → r ≡ false) → one (own && (holds_place t r && i)) ≤ one (own && (holds_place s r && i))
    fewer s t r i false releases e f h k = omega arith
    fewer Pending Pending r i true releases e f h k = omega arith
    fewer Pending Paid true i true releases e f h k = omega arith
    fewer Pending Paid false i true releases e f h k = omega arith
    fewer Paid Paid r i true releases e f h k = omega arith
    fewer Paid Pending true i true false e f h k = absurd (cc (k refl))
    fewer Paid Pending true i true true e f h k = absurd (cc (h))
    fewer Paid Pending false i true releases e f h k = omega arith
    fewer Pending Expired r i true releases e f h k = absurd (cc (f))
    fewer Pending Cancelled r i true releases e f h k = absurd (cc (f))
    fewer Paid Expired r i true releases e f h k = absurd (cc (f))
    fewer Paid Cancelled r i true releases e f h k = absurd (cc (f))
    fewer Expired t r i true releases e f h k = absurd (cc (e))
    fewer Cancelled t r i true releases e f h k = absurd (cc (e))

    holds_fewer : refills_by old.status row.status quota.release_after_exit false ≡ false → (ps : List OrderPos) → count_by (λ p. eqb row.id p.order && (holds_place row.status (out p) && in_it p)) ps ≤ count_by (λ p. eqb row.id p.order && (holds_place old.status (out p) && in_it p)) ps
    holds_fewer h [] = omega arith
    holds_fewer h (p ∷ ps) = omega (arith, fewer old.status row.status (out p) (in_it p) (eqb row.id p.order) quota.release_after_exit before now h (λ e. ap (λ b. b && is_out_of p) e), holds_fewer h ps, sum_by-cons (λ q. one (eqb row.id q.order && (holds_place row.status (out q) && in_it q))) p ps, sum_by-cons (λ q. one (eqb row.id q.order && (holds_place old.status (out q) && in_it q))) p ps)
      where
        is_out_of : OrderPos → Bool
        is_out_of q = is_out q.id lists.checkins

    pub kept_order_lowers : refills_by old.status row.status quota.release_after_exit false ≡ false → AreInOrder (λ r. r.id) lists.vouchers → AllHaveHeadroom at lists → total (usage_of after at quota) ≤ total (usage_of lists at quota)
    kept_order_lowers h vouchers room = omega (arith, kept_order_turns vouchers room, holds_fewer h lists.positions)

-- a quota that keeps its places has none that were set free, so no order takes one again
module _ (lists : Lists) (at : ℕ) (quota : Quota) (closed : quota.release_after_exit ≡ false) where
  none_again : (ps : List OrderPos) → list_any (blocks_again lists at quota) ps ≡ false
  none_again [] = refl
  none_again (p ∷ ps) = ap (λ (b : Bool). ((b && is_out p.id lists.checkins) && is_covered_by lists at quota p.voucher) || list_any (blocks_again lists at quota) ps) closed ∙ none_again ps

  pub kept_refills_none : (old : Order) (status : Status) → refills lists at quota old status ≡ false
  kept_refills_none old status = by_statuses old.status status
    where
      by_statuses : (s t : Status) → refills_by s t quota.release_after_exit (list_any (blocks_again lists at quota) (positions_of old.id lists)) ≡ false
      by_statuses Paid Pending = closed
      by_statuses Paid Paid = refl
      by_statuses Paid Expired = none_again (positions_of old.id lists)
      by_statuses Paid Cancelled = none_again (positions_of old.id lists)
      by_statuses Pending t = refl
      by_statuses Expired t = refl
      by_statuses Cancelled t = refl

-- cancelling or expiring an order, its payment, and taking the payment back: no move but a revival raises the usage of a quota that
-- stands, unless it takes places again that exits set free
pub moved_order_lowers : (state : State) (row old : Order) (quota : Quota) → order_at row.id state.lists ≡ Some old → quota_at quota.id state.lists.catalogue ≡ Some quota → (is_in_force row.status ≡ false) ⊎ (is_in_force old.status ≡ true)
    → refills state.lists state.moment quota old row.status ≡ false → IsSound state → total (usage_of (after_change (PutOrder row) state.lists) state.moment quota) ≤ total (usage_of state.lists state.moment quota)
moved_order_lowers state row old quota stood stands which again h = by_which which
  where
    lists : Lists
    lists = state.lists

    same_id : old.id ≡ row.id
    same_id = key-row_at (λ (o : Order). o.id) row.id lists.orders old stood

    inside : AllByRecursion (λ p. is_covered_by lists state.moment quota p.voucher ≡ true → is_in quota p.product ≡ true) lists.positions
    inside = all_inside lists state.moment quota stands h.fit.positions (sound_exact state h)

    -- none of its positions blocks a place again
    none_again : (ps : List OrderPos) → list_any (blocks_again lists state.moment quota) (filter (λ p. eqb row.id p.order) ps) ≡ false → AllByRecursion (λ p. eqb row.id p.order ≡ true → blocks_again lists state.moment quota p ≡ false) ps
    none_again [] e = tt
    none_again (p ∷ ps) e = by_own (eqb row.id p.order) refl e (none_again ps)
      where
        by_own : (b : Bool) → eqb row.id p.order ≡ b → list_any (blocks_again lists state.moment quota) (cond b (p ∷ filter (λ q. eqb row.id q.order) ps) (filter (λ q. eqb row.id q.order) ps)) ≡ false
            → (list_any (blocks_again lists state.moment quota) (filter (λ q. eqb row.id q.order) ps) ≡ false → AllByRecursion (λ q. eqb row.id q.order ≡ true → blocks_again lists state.moment quota q ≡ false) ps)
            → AllByRecursion (λ q. eqb row.id q.order ≡ true → blocks_again lists state.moment quota q ≡ false) (p ∷ ps)
        by_own true is e more = (λ own. neither_first (blocks_again lists state.moment quota p) (list_any (blocks_again lists state.moment quota) (filter (λ q. eqb row.id q.order) ps)) e, more (neither_second (blocks_again lists state.moment quota p) (list_any (blocks_again lists state.moment quota) (filter (λ q. eqb row.id q.order) ps)) e))
        by_own false is e more = (λ own. absurd (cc (is, own)), more e)

    both_given : (paid : Bool) → (ps : List OrderPos) → (paid ≡ true → AllByRecursion (λ p. eqb row.id p.order ≡ true → blocks_again lists state.moment quota p ≡ false) ps)
        → AllByRecursion (λ p. is_covered_by lists state.moment quota p.voucher ≡ true → is_in quota p.product ≡ true) ps
        → AllByRecursion (λ p. (is_covered_by lists state.moment quota p.voucher ≡ true → is_in quota p.product ≡ true) × (eqb row.id p.order ≡ true → (paid && (is_released lists quota p && is_covered_by lists state.moment quota p.voucher)) ≡ false)) ps
    both_given paid [] k i = tt
    both_given true (p ∷ ps) k i = ((i.0, (k refl).0), both_given true ps (λ e. (k refl).1) i.1)
    both_given false (p ∷ ps) k i = ((i.0, λ own. refl), both_given false ps (λ e. absurd (cc (e))) i.1)

    by_ended : is_in_force row.status ≡ false → total (usage_of (after_change (PutOrder row) lists) state.moment quota) ≤ total (usage_of lists state.moment quota)
    by_ended ended = ended_order_lowers row lists state.moment quota ended old stood h.ids.vouchers.in_order h.headroom (both_given (is_paid old.status) lists.positions (λ paid. none_again lists.positions (ap (λ (n : ℕ). list_any (blocks_again lists state.moment quota) (positions_of n lists)) (sym same_id) ∙ by_statuses old.status row.status paid ended again)) inside)
      where
        by_statuses : (s t : Status) → is_paid s ≡ true → is_in_force t ≡ false → refills_by s t quota.release_after_exit (list_any (blocks_again lists state.moment quota) (positions_of old.id lists)) ≡ false → list_any (blocks_again lists state.moment quota) (positions_of old.id lists) ≡ false
        by_statuses Paid Expired p e r = r
        by_statuses Paid Cancelled p e r = r
        by_statuses Paid Pending p e r = absurd (cc (e))
        by_statuses Paid Paid p e r = absurd (cc (e))
        by_statuses Pending t p e r = absurd (cc (p))
        by_statuses Expired t p e r = absurd (cc (p))
        by_statuses Cancelled t p e r = absurd (cc (p))

    by_kept : is_in_force old.status ≡ true → (b : Bool) → is_in_force row.status ≡ b → total (usage_of (after_change (PutOrder row) lists) state.moment quota) ≤ total (usage_of lists state.moment quota)
    by_kept kept false ended = by_ended ended
    by_kept kept true now = kept_order_lowers row lists state.moment quota now old stood kept (by_statuses old.status row.status kept now again) h.ids.vouchers.in_order h.headroom
      where
        by_statuses : (s t : Status) → is_in_force s ≡ true → is_in_force t ≡ true → refills_by s t quota.release_after_exit (list_any (blocks_again lists state.moment quota) (positions_of old.id lists)) ≡ false → refills_by s t quota.release_after_exit false ≡ false
        by_statuses Paid Pending e f r = r
        by_statuses Paid Paid e f r = refl
        by_statuses Pending t e f r = refl
        by_statuses Paid Expired e f r = absurd (cc (f))
        by_statuses Paid Cancelled e f r = absurd (cc (f))
        by_statuses Expired t e f r = absurd (cc (e))
        by_statuses Cancelled t e f r = absurd (cc (e))

    by_which : (is_in_force row.status ≡ false) ⊎ (is_in_force old.status ≡ true) → total (usage_of (after_change (PutOrder row) lists) state.moment quota) ≤ total (usage_of lists state.moment quota)
    by_which (inl ended) = by_ended ended
    by_which (inr kept) = by_kept kept (is_in_force row.status) refl
