use Rattle.std.proofs.Common.{◌≡◌, Ok, Err, map, rules, sym, ap, ◌∙◌}
use Rattle.std.proofs.lemmas.Result.{err_from_is_err_and}
use Rattle.draft_changes.specs.DraftState.{now}
use Rattle.model_rows.specs.declared.changes.Change.TheVariants.{PutOrder}
use Rattle.model_rows.specs.declared.rows.Own.TheVariants.{Position}
use Rattle.model_rows.specs.Change.{change_applied}
use Rattle.model_rows.specs.Lists.{positions_of}
use Rattle.model_rows.proofs.OrderHeadroom.{headroom_revived_order}
use Rattle.model_invariant.specs.Positions.{by_positionid}
use Rattle.decide_orders.proofs.Tested.{tested_again, revived_done, revived_refused}
use Rattle.decide_orders.proofs.moves.revive.Goals as goal

pub put_order-requires : goal.put_order-requires
put_order-requires g c =
    let state = now c.args.draft.now in
    headroom_revived_order c.args.row state.lists state.moment c.requires.fresh.sound.ids.vouchers.in_order (sym c.have_uses_again.ensures ∙ c.if-not-have_uses_again.false) c.requires.fresh.sound.headroom

pub returns : goal.returns
returns g c =
    let row = c.args.row in
    let state = now c.args.draft.now in
    let all = positions_of row.id state.lists in
    let put : now c.put_order.new.self ≡ change_applied (PutOrder row) state = c.in_ok-put_order.ensures.ok in
    let own : c.deref.result.now ≡ map (λ p. Position p.id) all = search rules in
    let sorted : c.as_slice-3.result.now ≡ by_positionid all = search rules in
    let tested = tested_again row c.in_ok-put_order.ensures.extends c.mark-mark.ensures.place c.mark-mark.ensures.here put own sorted c.test_sale-tested.ensures in
    let done = revived_done row state (sym c.have_uses_again.ensures ∙ c.if-not-have_uses_again.false) (sym tested ∙ sym c.in_ok-end_attempt.ensures.answer) in
    let after : now c.end_attempt.new.self ≡ change_applied (PutOrder row) state = ap now c.in_ok-end_attempt.ensures.kept ∙ put in
    let rows : c.in_ok-positions-2.positions ≡ by_positionid all = search rules in
    record {
      done = done ∙ sym (λ i. Ok (after i, record { order = c.in_ok-order.ensures i; positions = rows i }));
      refused = search rules;
      changes = search rules;
      extends = search rules;
      same = search rules;
    }

pub returns-in_err-end_attempt : goal.returns-in_err-end_attempt
returns-in_err-end_attempt g c =
    let row = c.args.row in
    let state = now c.args.draft.now in
    let all = positions_of row.id state.lists in
    let own : c.deref.result.now ≡ map (λ p. Position p.id) all = search rules in
    let sorted : c.as_slice-3.result.now ≡ by_positionid all = search rules in
    let tested = tested_again row c.in_ok-put_order.ensures.extends c.mark-mark.ensures.place c.mark-mark.ensures.here c.in_ok-put_order.ensures.ok own sorted c.test_sale-tested.ensures in
    let failed : c.test_sale-tested.result ≡ Err c.in_err-end_attempt.field-0.0 = search rules in
    let refused = revived_refused row state (sym c.have_uses_again.ensures ∙ c.if-not-have_uses_again.false) (sym tested ∙ failed) in
    let given = err_from_is_err_and c.from_residual-in_err-end_attempt.result c.from_residual-in_err-end_attempt.ensures.1 in
    record {
      done = search rules;
      refused = rw given.1 (λ _. refused ∙ ap (λ e. Err e) (sym given.2));
      changes = search rules;
      extends = search rules;
      same = search rules;
    }
