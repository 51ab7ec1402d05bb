use Rattle.std.proofs.Common.{◌≡◌, ◌+◌, List, [], ◌∷◌, Some, None, get_or, rules, map, ap, ◌∙◌, ◌++◌, drop}
use Rattle.draft_changes.specs.DraftState.{now}
use Rattle.model_rows.specs.Lists.{waiting_at}
use Rattle.model_rows.specs.Waits.{waiters}
use Rattle.decide_waiting.specs.declared.turns.Turn.{Turn}
use Rattle.decide_waiting.specs.Turns.{turn_of}
use Rattle.decide_waiting.proofs.Waiters.{next_turn, none_missing}
use Rattle.decide_waiting.proofs.turns.turns_of.Goals as goal
use Rattle.decide_waiting.proofs.turns.turns_of.Goals.{in-Some+in_ok-push, in_default}

pub loop-id-preserved : goal.loop-id-preserved
loop-id-preserved g c =
    let lists = (now c.args.draft.now).lists in
    let i = c.loop-id.id-index in
    let ids = c.args.ids.now in
    elim c.match-entry.branch [
      | in-Some+in_ok-push w ↦
          let found : waiting_at (get_or ids i 0) lists ≡ Some w.in-Some.entry.now = search rules in
          let pushed : c.match-entry.turns.items ≡ c.loop-id.turns.items ++ turn_of w.in-Some.entry.now ∷ [] = search rules in
          ap (λ (l : List Turn). l ++ map turn_of (drop (i + 1) (waiters lists))) pushed
          ∙ next_turn lists c.recall_invariant.ensures.waiting ids c.requires i c.loop-id-test.true c.loop-id.turns.items w.in-Some.entry.now found
          ∙ c.loop-id.invariant
      | in_default w ↦
          let missing : waiting_at (get_or ids i 0) lists ≡ None = search rules in
          absurd (none_missing lists c.recall_invariant.ensures.waiting ids c.requires i c.loop-id-test.true missing)
    ]
