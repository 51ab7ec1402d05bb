use Rattle.std.proofs.Common.{◌≡◌, ℕ, List, rules, sym, ap, ◌∙◌}
use Rattle.std.proofs.lemmas.Result.{IfOk-at_ok}
use Rattle.draft_changes.specs.DraftState.{now}
use Rattle.model_rows.specs.Change.{without_carts}
use Rattle.model_rows.specs.Due.{dead_carts}
use Rattle.decide_orders.proofs.Overdue.{dropped_at_once}
use Rattle.decide_orders.proofs.periodic.drop_dead_carts.Goals as goal

pub returns : goal.returns
returns g c =
    let state = now c.args.draft.now in
    let dead : c.in_ok-ids.ids.items ≡ dead_carts state.moment state.lists = search rules in
    let all = c.deref.ensures.value ∙ dead in
    let dropped = IfOk-at_ok _ (sym c.in_ok-end_attempt.ensures.answer) c.drop_carts-dropped.ensures.done in
    record {
      done = ap now c.in_ok-end_attempt.ensures.kept ∙ dropped ∙ ap (λ (l : List ℕ). without_carts l state) all ∙ dropped_at_once state c.recall_invariant.ensures.carts;
      count = search rules;
      extends = search rules;
      same = search rules;
      changes = search rules;
    }
