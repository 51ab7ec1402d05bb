use Rattle.std.proofs.Common.{◌≡◌, true, sym, subst, None}
use Rattle.model_rows.specs.declared.rows.OrderPos.{OrderPos}
use Rattle.model_rows.specs.declared.changes.Change.TheVariants.{PutPosition}
use Rattle.model_rows.specs.Lists.{position_at}
use Rattle.model_rows.specs.Change.{change_applied}
use Rattle.model_rows.specs.Headroom.{has_use, AllHaveHeadroom}
use Rattle.draft_changes.specs.DraftState.{now}
use Rattle.decide_orders.proofs.Rows.{ready_absent, put_headroom}
use Rattle.decide_orders.proofs.creating.put_position.Goals as goal

pub put_position-requires-clause-new : goal.put_position-requires-clause-new
put_position-requires-clause-new g c =
    subst (λ (r : OrderPos). position_at r.id (now c.args.draft.now).lists ≡ None) (sym c.in_ok-copy.ensures) (ready_absent c.args.row.now (now c.args.draft.now) c.requires)

pub put_position-requires-clause-headroom : goal.put_position-requires-clause-headroom
put_position-requires-clause-headroom g c =
    let state = now c.args.draft.now in
    let left : has_use state.moment state.lists c.args.row.now.voucher ≡ true = cc (c.if-not-has_use.ensures) in
    subst (λ (r : OrderPos). AllHaveHeadroom state.moment (change_applied (PutPosition r) state).lists) (sym c.in_ok-copy.ensures) (put_headroom c.args.row.now state c.requires left)
