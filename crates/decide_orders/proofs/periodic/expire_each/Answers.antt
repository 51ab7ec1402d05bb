use Rattle.std.proofs.Common.{ℕ, List, ◌+◌, ◌++◌, get_or, drop, sym, ap, ◌∙◌, append_assoc}
use Rattle.std.proofs.lemmas.List.{drop_more}
use Rattle.draft_changes.specs.DraftState.{now}
use Rattle.draft_changes.proofs.Extensions.{extends_both}
use Rattle.model_rows.specs.Lists.{order_at}
use Rattle.decide_orders.specs.Steps.{expired_in, each_expired, expiry_of, each_expiry}
use Rattle.decide_orders.proofs.periodic.expire_each.Goals as goal

pub loop-id-preserved : goal.loop-id-preserved
loop-id-preserved g c =
    let i = c.loop-id.id-index in
    let all = c.args.ids.now in
    let state = now c.loop-id.draft in
    let before = c.loop-id.draft.log.changes in
    let id = get_or all i 0 in
    let step = drop_more all i 0 c.loop-id-test.true in
    let done = c.in_ok-expire.ensures.done in
    record {
      rest =
          ap (each_expired (drop (i + 1) all)) done
          ∙ ap (λ (l : List ℕ). each_expired l state) (sym step)
          ∙ c.loop-id.invariant.rest;
      changes =
          (λ k. c.in_ok-expire.ensures.changes k ++ each_expiry (drop (i + 1) all) (done k).lists.orders)
          ∙ append_assoc before (expiry_of (order_at id state.lists)) (each_expiry (drop (i + 1) all) (expired_in id state.lists.orders))
          ∙ ap (λ (l : List ℕ). before ++ each_expiry l state.lists.orders) (sym step)
          ∙ c.loop-id.invariant.changes;
      extends = extends_both c.loop-id.invariant.extends c.in_ok-expire.ensures.extends;
    }
