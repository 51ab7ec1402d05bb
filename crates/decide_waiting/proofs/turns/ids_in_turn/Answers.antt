use Rattle.std.proofs.Common.{◌≡◌, ℕ, List, map, ap, ◌∙◌, subst}
use Rattle.std.specs.Prelude.{IfOk}
use Rattle.std.specs.List.Sorted.{IsPermutation}
use Rattle.draft_changes.specs.DraftState.{now}
use Rattle.model_rows.specs.declared.rows.Waiting.{Waiting}
use Rattle.model_rows.specs.Waits.{waiters}
use Rattle.decide_waiting.specs.Serving.{queue}
use Rattle.decide_waiting.specs.declared.turns.Turn.{Turn}
use Rattle.decide_waiting.proofs.Order.{sorted_is_queue}
use Rattle.decide_waiting.proofs.turns.ids_in_turn.Goals as goal

pub returns : goal.returns
unfolding queue
returns g c =
    let waits : List Waiting = waiters (now c.args.draft.now).lists in
    let moved = subst (λ (l : List Turn). IsPermutation l c.sort_unstable.new.self.items) c.in_ok-turns.ensures c.sort_unstable.ensures.permutation in
    let same = ap (map (λ (t : Turn). t.id)) c.deref-2.ensures.value ∙ sorted_is_queue waits c.sort_unstable.new.self.items moved c.sort_unstable.ensures.sorted in
    subst (λ (l : List ℕ). IfOk c.ids_of.result (λ ids. ids.items ≡ l)) same c.ids_of.ensures
