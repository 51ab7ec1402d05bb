use Rattle.std.proofs.Common.{◌≡◌, ℕ, List, ◌++◌, rules, sym, ap, ◌∙◌}
use Rattle.std.proofs.lemmas.Result.{IfOk-at_ok}
use Rattle.draft_changes.specs.DraftState.{DraftState, now}
use Rattle.model_rows.specs.Due.{due_orders}
use Rattle.decide_orders.specs.Steps.{each_expired, each_expiry}
use Rattle.decide_orders.proofs.Overdue.{expired_at_once, expiry_at_once}
use Rattle.decide_orders.proofs.periodic.expire_orders.Goals as goal

pub returns : goal.returns
returns g c =
    let state = now c.args.draft.now in
    let before = c.args.draft.now.log.changes in
    let due : c.in_ok-ids.ids.items ≡ due_orders state.moment state.lists = search rules in
    let all = c.deref.ensures.value ∙ due in
    let kept = c.in_ok-end_attempt.ensures.kept in
    let expired = IfOk-at_ok _ (sym c.in_ok-end_attempt.ensures.answer) c.expire_each-expired.ensures.done in
    let logged = IfOk-at_ok _ (sym c.in_ok-end_attempt.ensures.answer) c.expire_each-expired.ensures.changes in
    let in_order = c.requires.sound.ids.orders.in_order in
    record {
      done = ap now kept ∙ expired ∙ ap (λ (l : List ℕ). each_expired l state) all ∙ expired_at_once state in_order;
      count = search rules;
      extends = search rules;
      same = search rules;
      changes =
          ap (λ (d : DraftState). d.log.changes) kept
          ∙ logged
          ∙ ap (λ (l : List ℕ). before ++ each_expiry l state.lists.orders) all
          ∙ ap (λ l. before ++ l) (expiry_at_once state in_order);
    }
