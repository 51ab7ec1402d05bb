use Rattle.std.proofs.Common.{◌≡◌, length, sym, ap, arith}
use Rattle.std.proofs.lemmas.Result.{IfOk-at_ok}
use Rattle.model_rows.specs.declared.rows.NextIds.{NextIds}
use Rattle.model_rows.specs.Lists.{State}
use Rattle.draft_changes.specs.DraftState.{DraftState, now}
use Rattle.decide_orders.specs.Created.{with_order_row}
use Rattle.decide_orders.proofs.Rows.{puts_next, takes_ids}
use Rattle.decide_orders.proofs.creating.place.Goals as goal

pub use_order_id-requires : goal.use_order_id-requires
use_order_id-requires g c =
    let state = now c.args.draft.now in
    let mid = c.put_tested-put.new.draft in
    let rows = c.deref-3.result.now in
    let made = sym c.in_ok-end_attempt.ensures.answer in
    let same : (now mid).next ≡ state.next = puts_next rows (with_order_row c.args.order c.args.carts.now state) (now mid) (IfOk-at_ok _ made c.put_tested-put.ensures.put) in
    let ids = takes_ids (length rows) state (IfOk-at_ok _ made c.put_tested-put.ensures.takes) in
    omega (arith, ids.0, ap (λ (n : NextIds). n.order) same, ap (λ (d : DraftState). d.next.order) c.in_ok-end_attempt.ensures.kept)

pub use_position_ids-requires : goal.use_position_ids-requires
use_position_ids-requires g c =
    let state = now c.args.draft.now in
    let mid = c.put_tested-put.new.draft in
    let rows = c.deref-3.result.now in
    let made = sym c.in_ok-end_attempt.ensures.answer in
    let same : (now mid).next ≡ state.next = puts_next rows (with_order_row c.args.order c.args.carts.now state) (now mid) (IfOk-at_ok _ made c.put_tested-put.ensures.put) in
    let ids = takes_ids (length rows) state (IfOk-at_ok _ made c.put_tested-put.ensures.takes) in
    omega (arith, ids.1, ap (λ (n : NextIds). n.position) same, ap (λ (d : DraftState). d.next.position) c.in_ok-end_attempt.ensures.kept, ap (λ (s : State). s.next.position) c.use_order_id.ensures.now, ap length c.deref-3.ensures.value, c.len.ensures)
