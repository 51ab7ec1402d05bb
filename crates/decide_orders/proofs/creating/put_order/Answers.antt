use Rattle.std.proofs.Common.{sym, subst}
use Rattle.model_rows.specs.declared.rows.Order.{Order}
use Rattle.model_rows.specs.declared.changes.Change.TheVariants.{PutOrder}
use Rattle.model_rows.specs.Lists.{State}
use Rattle.model_rows.specs.Change.{change_applied}
use Rattle.model_rows.specs.Headroom.{AllHaveHeadroom}
use Rattle.draft_changes.specs.DraftState.{now}
use Rattle.decide_orders.proofs.Rows.{order_headroom}
use Rattle.decide_orders.proofs.creating.put_order.Goals as goal

pub put_order-requires : goal.put_order-requires
put_order-requires g c =
    subst (λ (r : Order). AllHaveHeadroom c.drop_carts.new.draft.moment (change_applied (PutOrder r) (now c.drop_carts.new.draft)).lists) (sym c.in_ok-copy.ensures)
    (subst (λ (s : State). AllHaveHeadroom s.moment (change_applied (PutOrder c.args.order.now) s).lists) (sym c.in_ok-drop_carts.ensures.done) (order_headroom c.args.order.now c.deref.result.now (now c.args.draft.now) c.requires.new c.requires.sound))
