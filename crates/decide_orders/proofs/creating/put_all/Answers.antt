use Rattle.std.proofs.Common.{sym, subst, ℕ}
use Rattle.draft_changes.specs.DraftState.{now}
use Rattle.decide_orders.specs.Steps.{IsReady}
use Rattle.decide_orders.proofs.Rows.{ready_order}
use Rattle.decide_orders.proofs.creating.put_all.Goals as goal

pub put_positions-requires-clause-ready : goal.put_positions-requires-clause-ready
put_positions-requires-clause-ready g c =
    subst (λ (n : ℕ). IsReady n (now c.put_order.new.draft)) (sym c.next_position-first.ensures)
    (subst (IsReady (now c.args.draft.now).next.position) (sym c.in_ok-put_order.ensures.done) (ready_order c.args.order.now c.args.carts.now (now c.args.draft.now) c.requires.new c.requires.sound))
