use Rattle.std.proofs.Common.{ℕ, List, ◌+◌, get_or, drop, sym, ap, ◌∙◌, subst}
use Rattle.std.proofs.lemmas.List.{drop_more}
use Rattle.draft_changes.specs.DraftState.{now}
use Rattle.draft_changes.proofs.Extensions.{extends_both}
use Rattle.decide_waiting.specs.Steps.{CanSend}
use Rattle.decide_waiting.specs.Steps.{each_sent, run_after}
use Rattle.decide_waiting.proofs.OneTurn.{turn_joined, turn_ends, turn_can_send}
use Rattle.decide_waiting.proofs.serving.send_each.Goals as goal

pub returns-then-not-takes_voucher-clause-done : goal.returns-then-not-takes_voucher-clause-done
returns-then-not-takes_voucher-clause-done g c =
    let i = c.loop-id.id-index in
    let all = c.args.queue.now in
    let state = now c.loop-id.draft in
    let ids = c.loop-id.ids.items in
    let changes = c.loop-id.draft.log.changes in
    let full = sym c.takes_voucher.ensures ∙ c.if-not-takes_voucher.true in
    sym c.loop-id.invariant.rest
    ∙ ap (λ (l : List ℕ). run_after ids changes (each_sent c.args.draw l state)) (drop_more all i 0 c.loop-id-test.true)
    ∙ turn_ends c.args.draw (get_or all i 0) ids changes (drop (i + 1) all) state full

pub loop-id-preserved : goal.loop-id-preserved
loop-id-preserved g c =
    let i = c.loop-id.id-index in
    let all = c.args.queue.now in
    let state = now c.loop-id.draft in
    let ids = c.loop-id.ids.items in
    let changes = c.loop-id.draft.log.changes in
    let room = sym c.takes_voucher.ensures ∙ c.if-not-takes_voucher.false in
    let done = c.in_ok-send_one.ensures.done in
    record {
      rest =
          (λ k. run_after (c.in_ok-send_one.ensures.noted k) (c.in_ok-send_one.ensures.logged k) (each_sent c.args.draw (drop (i + 1) all) (done k)))
          ∙ turn_joined c.args.draw (get_or all i 0) ids changes (drop (i + 1) all) state room
          ∙ ap (λ (l : List ℕ). run_after ids changes (each_sent c.args.draw l state)) (sym (drop_more all i 0 c.loop-id-test.true))
          ∙ c.loop-id.invariant.rest;
      can = subst CanSend (sym done) (turn_can_send c.args.draw (get_or all i 0) state c.loop-id.invariant.can);
      left = c.in_ok-send_one.ensures.left;
      extends = extends_both c.loop-id.invariant.extends c.in_ok-send_one.ensures.extends;
    }
