use Rattle.std.proofs.Common.{◌≡◌, false, ap, ◌∙◌}
use Rattle.draft_changes.specs.DraftState.{now}
use Rattle.model_rows.specs.declared.rows.Order.{Order}
use Rattle.model_rows.specs.Conditions.{is_in_force}
use Rattle.model_rows.proofs.OrderHeadroom.{headroom_kept_order}
use Rattle.decide_orders.proofs.periodic.expire.Goals as goal

pub put_order-requires : goal.put_order-requires
put_order-requires g c =
    let state = now c.args.draft.now in
    let row = c.in_ok-row-in-Some.row in
    let ended : is_in_force row.status ≡ false = ap (λ (o : Order). is_in_force o.status) c.in_ok-row-in-Some.ensures in
    headroom_kept_order row state.lists state.moment (λ force. absurd (cc (ended, force))) c.recall_invariant.ensures.headroom
