-- What is known of a step that made an order, or moved one.
use Rattle.std.proofs.Common.{◌≡◌, ℕ, ◌≤◌, ◌⊎◌, inl, inr, Bool, true, false, map, Option, Some, None, Ok, refl, sym, ap, ◌∙◌, subst}
use Rattle.std.specs.List.{AllByRecursion}
use Rattle.base_values.specs.declared.draw.Draw.{Draw}
use Rattle.model_catalogue.specs.declared.rows.Quota.{Quota}
use Rattle.model_catalogue.specs.CatalogueLists.{quota_at}
use Rattle.model_rows.specs.declared.rows.Order.{Order}
use Rattle.model_rows.specs.declared.rows.OrderRows.{OrderRows}
use Rattle.model_rows.specs.declared.rows.Own.TheVariants.{Position}
use Rattle.model_rows.specs.declared.rows.Status.{Status}
use Rattle.model_rows.specs.declared.rows.Status.TheVariants.{Pending, Paid, Expired, Cancelled}
use Rattle.model_rows.specs.Lists.{State}
use Rattle.model_rows.specs.Over.{first_over, ignores}
use Rattle.model_rows.specs.Refills.{refills}
use Rattle.model_invariant.specs.Sound.{IsSound}
use Rattle.model_rows.specs.Takes.{places_used, TakesNoMore}
use Rattle.model_rows.specs.Conditions.{is_in_force}
use Rattle.model_commands.specs.declared.orders.Move.{Move}
use Rattle.model_commands.specs.declared.orders.Move.TheVariants.{MarkPaid, MarkPending, MarkExpired, MarkCanceled, Extend}
use Rattle.decide_orders.specs.declared.moves.Transition.{Transition}
use Rattle.model_commands.specs.declared.orders.NewOrder.{NewOrder}
use Rattle.decide_orders.specs.Created.{order_created}
use Rattle.decide_orders.specs.Moves.{transition_of, order_moved}
use Rattle.decide_orders.proofs.Created.{created_none_over}
use Rattle.decide_orders.proofs.CreatedTakes.{created_takes_no_more}
use Rattle.decide_orders.proofs.Moved.{IsMoved, moved_is, revived_none_over, revived_takes_no_more, moved_lowers}
use Rattle.office_runs.specs.NewIds.{AllIdsGoOn}
use Rattle.model_commands.specs.declared.requests.Command.TheVariants.{MoveOrder}
use Rattle.office_runs.specs.Takings.{revives, revives_found, brings_back, refills_turned, refills_found, fills_again}
use Rattle.office_runs.proofs.NewIds.{created_ids, moved_ids}

-- where an order was made or moved, whether it took places, and of which quotas it took some again
pub record IsOrderFine (state after : State) (rows : OrderRows) (takes : Bool) (again : Quota → Bool) : Type 0 where
  pub ids : AllIdsGoOn state after
  pub not_over : takes ≡ true → first_over state.lists after.lists state.moment (map (λ p. Position p.id) rows.positions) ≡ None
  pub within : takes ≡ true → IsSound state → AllByRecursion (λ p. ignores after.lists p.voucher ≡ false) rows.positions → TakesNoMore state after
  pub lowers : takes ≡ false → IsSound state → (quota : Quota) → quota_at quota.id state.lists.catalogue ≡ Some quota → again quota ≡ false → places_used after quota ≤ places_used state quota

pub made_fine : (new : NewOrder) (draw : Draw) (state after : State) (rows : OrderRows) → order_created new draw state ≡ Ok (after, rows) → IsOrderFine state after rows true (λ quota. false)
made_fine new draw state after rows h = record {
  ids = created_ids new draw state after rows h;
  not_over = λ takes. created_none_over new draw state after rows h;
  within = λ takes sound heed. created_takes_no_more new draw state after rows heed h;
  lowers = λ takes. absurd (cc);
}

abbrev force_of : Option Transition → Bool
force_of None = false
force_of (Some turn) = is_in_force turn.status

-- what a move that is possible does to an order that comes back
came_back : (status : Status) (change : Move) (turn : Transition) → transition_of status change ≡ Some turn → revives status change ≡ true → (is_in_force turn.status ≡ true) × (is_in_force status ≡ false)
came_back Pending change turn e back = absurd (cc (back))
came_back Paid change turn e back = absurd (cc (back))
came_back Cancelled change turn e back = absurd (cc (back))
came_back Expired MarkPaid turn e back = (ap (λ (o : Option Transition). force_of o) (sym e), refl)
came_back Expired (Extend end) turn e back = (ap (λ (o : Option Transition). force_of o) (sym e), refl)
came_back Expired MarkPending turn e back = absurd (cc (back))
came_back Expired MarkExpired turn e back = absurd (cc (back))
came_back Expired MarkCanceled turn e back = absurd (cc (back))

-- and to any other
stayed : (status : Status) (change : Move) (turn : Transition) → transition_of status change ≡ Some turn → revives status change ≡ false → (is_in_force status ≡ true) ⊎ (is_in_force turn.status ≡ false)
stayed Pending change turn e back = inl refl
stayed Paid change turn e back = inl refl
stayed Cancelled change turn e back = absurd (cc (e))
stayed Expired MarkPaid turn e back = absurd (cc (back))
stayed Expired (Extend end) turn e back = absurd (cc (back))
stayed Expired MarkPending turn e back = absurd (cc (e))
stayed Expired MarkExpired turn e back = absurd (cc (e))
stayed Expired MarkCanceled turn e back = inr (ap (λ (o : Option Transition). force_of o) (sym e))

module _ (number : ℕ) (change : Move) (state after : State) (rows : OrderRows) (h : order_moved number change state ≡ Ok (after, rows)) where
  m : IsMoved number change state after rows
  m = moved_is number change state after rows h

  abbrev takes : Bool
  takes = brings_back number change state.lists

  -- the move and the order's status tell whether it comes back
  by_status : takes ≡ revives m.old.status change
  by_status = ap (λ (o : Option Order). revives_found o change) m.stood

  status_is : rows.order.status ≡ m.turn.status
  status_is = sym (ap (λ (o : Order). o.status) m.is_row)

  forces : takes ≡ true → (is_in_force rows.order.status ≡ true) × (is_in_force m.old.status ≡ false)
  forces back =
      let both = came_back m.old.status change m.turn m.turns (sym by_status ∙ back) in
      (ap (λ s. is_in_force s) status_is ∙ both.0, both.1)

  stays : takes ≡ false → (is_in_force m.old.status ≡ true) ⊎ (is_in_force rows.order.status ≡ false)
  stays plain = subst (λ s. (is_in_force m.old.status ≡ true) ⊎ (is_in_force s ≡ false)) (sym status_is) (stayed m.old.status change m.turn m.turns (sym by_status ∙ plain))

  -- the places that its turn takes again
  refills_is : (quota : Quota) → fills_again (MoveOrder number change) state quota ≡ refills state.lists state.moment quota m.old rows.order.status
  refills_is quota =
      ap (λ (o : Option Order). refills_found state quota o change) m.stood
      ∙ ap (λ (t : Option Transition). refills_turned state quota m.old t) m.turns
      ∙ ap (λ s. refills state.lists state.moment quota m.old s) (sym status_is)

  pub moved_fine : IsOrderFine state after rows (brings_back number change state.lists) (λ quota. fills_again (MoveOrder number change) state quota)
  moved_fine = record {
    ids = moved_ids number change state after rows h;
    not_over = λ back. revived_none_over number change state after rows m.old m.stood (forces back).1 (forces back).0 h;
    within = λ back sound heed. revived_takes_no_more number change state after rows m.old sound m.stood (forces back).1 (forces back).0 heed h;
    lowers = λ plain sound quota stands none. moved_lowers number change state after rows m.old quota sound stands m.stood (stays plain) (sym (refills_is quota) ∙ none) h;
  }
