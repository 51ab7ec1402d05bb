use Rattle.std.proofs.Common.{◌≡◌, [], map, drop}
use Rattle.draft_changes.specs.DraftState.{now, Extends}
use Rattle.decide_waiting.specs.Steps.{places_left}
use Rattle.decide_waiting.specs.Steps.{CanSend}
use Rattle.decide_waiting.specs.Steps.{each_sent, run_after}
use Rattle.decide_waiting.proofs.serving.send_each.Given as goal

-- the ids and changes so far, and those of what is left
abbrev pub invariant-loop-id : goal.invariant-loop-id
invariant-loop-id g l = record {
  rest : run_after l.ids.items l.draft.log.changes (each_sent l.draw (drop l.id-index l.queue) (now l.draft)) ≡ run_after [] l.fn.draft.log.changes (each_sent l.draw l.queue (now l.fn.draft));
  can : CanSend (now l.draft);
  left : l.left.items ≡ map (places_left (now l.draft)) (now l.draft).lists.catalogue.quotas;
  extends : Extends l.fn.draft l.draft;
}
