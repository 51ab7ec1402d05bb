-- What is known where an order was moved.
use Rattle.std.proofs.Common.{◌≡◌, ℕ, ◌≤◌, ◌⊎◌, inl, inr, Bool, true, false, map, Option, Some, None, Result, Ok, refl, sym, ap, ◌∙◌, subst}
use Rattle.std.specs.Prelude.{if◌then◌else◌}
use Rattle.base_values.proofs.Decided.{found, found_none, gave_it, passed}
use Rattle.model_catalogue.specs.declared.rows.Quota.{Quota}
use Rattle.model_catalogue.specs.CatalogueLists.{quota_at}
use Rattle.model_rows.specs.declared.rows.Order.{Order}
use Rattle.model_rows.specs.declared.rows.OrderRows.{OrderRows}
use Rattle.model_rows.specs.declared.rows.Own.TheVariants.{Position}
use Rattle.model_rows.specs.declared.changes.Change.TheVariants.{PutOrder}
use Rattle.model_rows.specs.Lists.{State, order_at, positions_of}
use Rattle.model_rows.specs.Change.{after_change, change_applied}
use Rattle.std.specs.List.{AllByRecursion}
use Rattle.model_rows.specs.Over.{first_over, ignores}
use Rattle.model_rows.specs.Refills.{refills}
use Rattle.model_rows.proofs.EachRow.{all-row_at}
use Rattle.model_invariant.specs.Limits.{IsLimitedOrder}
use Rattle.model_invariant.specs.Sound.{IsSound}
use Rattle.model_rows.specs.Takes.{places_used, TakesNoMore}
use Rattle.model_rows.specs.Conditions.{is_in_force}
use Rattle.model_invariant.proofs.ByNumber.{all_unsorted}
use Rattle.model_invariant.proofs.OrderLowers.{moved_order_lowers}
use Rattle.model_invariant.proofs.SoundOrders.{sound_changed_order}
use Rattle.model_commands.specs.FitRequests.{IsFitMove}
use Rattle.model_commands.specs.declared.orders.Move.{Move}
use Rattle.decide_orders.specs.declared.moves.Transition.{Transition}
use Rattle.model_commands.specs.declared.orders.OrderRefusal.{OrderRefusal}
use Rattle.model_commands.specs.declared.orders.OrderRefusal.TheVariants.{Voucher as OfVoucher}
use Rattle.model_commands.specs.declared.vouchers.VoucherRefusal.TheVariants.{SoldOut}
use Rattle.decide_orders.specs.Moves.{transition_of, moved_row, have_uses_again, have_budgets_again, order_rows, moved_to, over_again, revival, order_moved}
use Rattle.decide_orders.proofs.Limited.{moved_limited}
use Rattle.decide_orders.proofs.MoveLemmas.{found_id, kept_force}
use Rattle.decide_orders.proofs.Revivals.{over_sorted, revival_takes_no_more}

some_order : (a b : Order) → (let found : Option Order = Some a in found ≡ Some b) → a ≡ b
some_order a b h = cc

-- the tests that an order that comes back passed, and the box office with it
record IsRevived (row : Order) (before after : State) (rows : OrderRows) : Type 0 where
  uses : have_uses_again row before ≡ true
  budgets : have_budgets_again row before ≡ true
  not_over : over_again row before ≡ None
  is : moved_to row before ≡ (after, rows)

-- the order as it stood, what the move makes of it, the tests that it passed if it comes back, and the box office with it
pub record IsMoved (number : ℕ) (change : Move) (before after : State) (rows : OrderRows) : Type 0 where
  pub old : Order
  pub turn : Transition
  pub stood : order_at number before.lists ≡ Some old
  pub turns : transition_of old.status change ≡ Some turn
  pub is_row : moved_row old turn.status change ≡ rows.order
  pub is_rows : order_rows rows.order before ≡ rows
  pub is_after : change_applied (PutOrder rows.order) before ≡ after
  pub uses : turn.revival ≡ true → have_uses_again rows.order before ≡ true
  pub budgets : turn.revival ≡ true → have_budgets_again rows.order before ≡ true
  pub not_over : turn.revival ≡ true → over_again rows.order before ≡ None

module _ (number : ℕ) (change : Move) (before after : State) (rows : OrderRows) where
  abbrev Gives : Result (State × OrderRows) OrderRefusal → Type 0
  Gives result = result ≡ Ok (after, rows)

  revived_is : (row : Order) → Gives (revival row before) → IsRevived row before after rows
  unfolding revival
  revived_is row h =
      let (uses, h1) = passed (have_uses_again row before) _ _ h in
      let (budgets, h2) = passed (have_budgets_again row before) _ _ h1 in
      let (over, h3) = found_none (λ quota. OfVoucher (SoldOut quota)) (over_again row before) _ h2 in
      record { uses = uses; budgets = budgets; not_over = over; is = gave_it (moved_to row before) (after, rows) h3 }

  module _ (old : Order) (stood : order_at number before.lists ≡ Some old) where
    abbrev asked : Transition → Order
    asked turn = moved_row old turn.status change

    with_tests : (turn : Transition) → transition_of old.status change ≡ Some turn → moved_to (asked turn) before ≡ (after, rows)
        → (turn.revival ≡ true → have_uses_again (asked turn) before ≡ true) → (turn.revival ≡ true → have_budgets_again (asked turn) before ≡ true)
        → (turn.revival ≡ true → over_again (asked turn) before ≡ None) → IsMoved number change before after rows
    with_tests turn turns is uses budgets not_over =
        let same : order_rows (asked turn) before ≡ rows = ap (λ (x : State × OrderRows). x.1) is in
        let row : asked turn ≡ rows.order = ap (λ (r : OrderRows). r.order) same in
        record {
          old = old;
          turn = turn;
          stood = stood;
          turns = turns;
          is_row = row;
          is_rows = ap (λ (o : Order). order_rows o before) (sym row) ∙ same;
          is_after = ap (λ (o : Order). change_applied (PutOrder o) before) (sym row) ∙ ap (λ (x : State × OrderRows). x.0) is;
          uses = λ e. subst (λ (o : Order). have_uses_again o before ≡ true) row (uses e);
          budgets = λ e. subst (λ (o : Order). have_budgets_again o before ≡ true) row (budgets e);
          not_over = λ e. subst (λ (o : Order). over_again o before ≡ None) row (not_over e);
        }

    by_revival : (turn : Transition) → transition_of old.status change ≡ Some turn → (back : Bool) → turn.revival ≡ back → Gives (if back then revival (asked turn) before else Ok (moved_to (asked turn) before)) → IsMoved number change before after rows
    by_revival turn turns true is h =
        let r = revived_is (asked turn) h in
        with_tests turn turns r.is (λ e. r.uses) (λ e. r.budgets) (λ e. r.not_over)
    by_revival turn turns false is h = with_tests turn turns (gave_it (moved_to (asked turn) before) (after, rows) h) (λ e. absurd (cc (e, is))) (λ e. absurd (cc (e, is))) (λ e. absurd (cc (e, is)))

  pub moved_is : Gives (order_moved number change before) → IsMoved number change before after rows
  unfolding order_moved
  moved_is h =
      let (old, stood, h1) = found (order_at number before.lists) _ _ h in
      let (turn, turns, h2) = found (transition_of old.status change) _ _ h1 in
      by_revival old stood turn turns turn.revival refl h2

  pub moved_moment : Gives (order_moved number change before) → after.moment ≡ before.moment
  moved_moment h = sym (ap (λ (s : State). s.moment) (moved_is h).is_after)

  -- the order stood under its number
  stood_as : (m : IsMoved number change before after rows) → order_at rows.order.id before.lists ≡ Some m.old
  stood_as m =
      let id : m.old.id ≡ number = found_id number before.lists.orders m.old m.stood in
      let row : rows.order.id ≡ m.old.id = sym (ap (λ (o : Order). o.id) m.is_row) in
      ap (λ n. order_at n before.lists) (row ∙ id) ∙ m.stood

  status_is : (m : IsMoved number change before after rows) → rows.order.status ≡ m.turn.status
  status_is m = sym (ap (λ (o : Order). o.status) m.is_row)

  -- it isn't in force afterwards, or it was before
  keeps_force : (m : IsMoved number change before after rows) → m.turn.revival ≡ false → (is_in_force rows.order.status ≡ false) ⊎ (is_in_force m.old.status ≡ true)
  keeps_force m plain = by_force (is_in_force rows.order.status) refl
    where
      by_force : (force : Bool) → is_in_force rows.order.status ≡ force → (is_in_force rows.order.status ≡ false) ⊎ (is_in_force m.old.status ≡ true)
      by_force false e = inl e
      by_force true e = inr (kept_force m.old.status change m.turn m.turns plain (ap (λ s. is_in_force s) (sym (status_is m)) ∙ e))

  -- the box office stays sound
  pub moved_sound : IsFitMove change → IsSound before → Gives (order_moved number change before) → IsSound after
  moved_sound fit sound h = subst IsSound m.is_after (by_back m.turn.revival refl)
    where
      m : IsMoved number change before after rows
      m = moved_is h

      stood : order_at rows.order.id before.lists ≡ Some m.old
      stood = stood_as m

      limits : IsLimitedOrder rows.order
      limits = subst IsLimitedOrder m.is_row (moved_limited m.old m.turn.status change fit (all-row_at (λ (o : Order). o.id) IsLimitedOrder number before.lists.orders m.old m.stood sound.limits.orders))

      by_plain : (is_in_force rows.order.status ≡ false) ⊎ (is_in_force m.old.status ≡ true) → IsSound (change_applied (PutOrder rows.order) before)
      by_plain (inl ended) = sound_changed_order before rows.order m.old stood limits sound (inl ended)
      by_plain (inr kept) = sound_changed_order before rows.order m.old stood limits sound (inr (inl kept))

      by_back : (back : Bool) → m.turn.revival ≡ back → IsSound (change_applied (PutOrder rows.order) before)
      by_back true is = sound_changed_order before rows.order m.old stood limits sound (inr (inr (m.uses is, m.budgets is)))
      by_back false is = by_plain (keeps_force m is)

  -- an order that isn't in force, and is afterwards, comes back
  comes_back : (m : IsMoved number change before after rows) → is_in_force m.old.status ≡ false → is_in_force rows.order.status ≡ true → m.turn.revival ≡ true
  comes_back m ended force = by_back m.turn.revival refl
    where
      by_back : (back : Bool) → m.turn.revival ≡ back → m.turn.revival ≡ true
      by_back true is = is
      by_back false is =
          let kept = kept_force m.old.status change m.turn m.turns is (ap (λ s. is_in_force s) (sym (status_is m)) ∙ force) in
          absurd (cc (kept, ended))

  its_old : (m : IsMoved number change before after rows) (old : Order) → order_at number before.lists ≡ Some old → is_in_force m.old.status ≡ is_in_force old.status
  its_old m old stood =
      let same : m.old ≡ old = some_order m.old old (sym m.stood ∙ stood) in
      ap (λ (o : Order). is_in_force o.status) same

  -- an order that comes back takes too much of no quota
  pub revived_none_over : (old : Order) → order_at number before.lists ≡ Some old → is_in_force old.status ≡ false → is_in_force rows.order.status ≡ true → Gives (order_moved number change before) → first_over before.lists after.lists before.moment (map (λ p. Position p.id) rows.positions) ≡ None
  revived_none_over old stood ended force h =
      let m = moved_is h in
      let weighed = m.not_over (comes_back m (its_old m old stood ∙ ended) force) in
      let later = ap (λ (s : State). first_over before.lists s.lists before.moment (map (λ p. Position p.id) rows.positions)) (sym m.is_after) in
      later ∙ ap (λ ps. first_over before.lists (after_change (PutOrder rows.order) before.lists) before.moment (map (λ p. Position p.id) ps)) (sym (ap (λ (r : OrderRows). r.positions) m.is_rows))
      ∙ over_sorted before.lists (after_change (PutOrder rows.order) before.lists) before.moment (positions_of rows.order.id before.lists) ∙ weighed

  -- and where the vouchers of its positions heed quotas, what is used is within the size or no more than before
  pub revived_takes_no_more : (old : Order) → IsSound before → order_at number before.lists ≡ Some old → is_in_force old.status ≡ false → is_in_force rows.order.status ≡ true → AllByRecursion (λ p. ignores after.lists p.voucher ≡ false) rows.positions → Gives (order_moved number change before) → TakesNoMore before after
  revived_takes_no_more old sound stood ended force heed h =
      let m = moved_is h in
      let weighed = m.not_over (comes_back m (its_old m old stood ∙ ended) force) in
      let in_before = subst (λ (s : State). AllByRecursion (λ p. ignores s.lists p.voucher ≡ false) rows.positions) (sym m.is_after) heed in
      let own = subst (λ ps. AllByRecursion (λ p. ignores before.lists p.voucher ≡ false) ps) (sym (ap (λ (r : OrderRows). r.positions) m.is_rows)) in_before in
      let heeds = all_unsorted (λ p. ignores before.lists p.voucher ≡ false) (positions_of rows.order.id before.lists) own in
      subst (λ (s : State). TakesNoMore before s) m.is_after (revival_takes_no_more before rows.order sound.ids.positions.in_order heeds weighed)

  -- any other move raises no usage of a quota that stands, unless it takes places again that exits set free
  pub moved_lowers : (old : Order) (quota : Quota) → IsSound before → quota_at quota.id before.lists.catalogue ≡ Some quota → order_at number before.lists ≡ Some old
      → (is_in_force old.status ≡ true) ⊎ (is_in_force rows.order.status ≡ false) → refills before.lists before.moment quota old rows.order.status ≡ false
      → Gives (order_moved number change before) → places_used after quota ≤ places_used before quota
  moved_lowers old quota sound stands stood which again h = subst (λ (s : State). places_used s quota ≤ places_used before quota) m.is_after (by_which which)
    where
      m : IsMoved number change before after rows
      m = moved_is h

      same : m.old ≡ old
      same = some_order m.old old (sym m.stood ∙ stood)

      its_again : refills before.lists before.moment quota m.old rows.order.status ≡ false
      its_again = ap (λ (o : Order). refills before.lists before.moment quota o rows.order.status) same ∙ again

      by_which : (is_in_force old.status ≡ true) ⊎ (is_in_force rows.order.status ≡ false) → places_used (change_applied (PutOrder rows.order) before) quota ≤ places_used before quota
      by_which (inl kept) = moved_order_lowers before rows.order m.old quota (stood_as m) stands (inr (its_old m old stood ∙ kept)) its_again sound
      by_which (inr ended) = moved_order_lowers before rows.order m.old quota (stood_as m) stands (inl ended) its_again sound
