use Rattle.std.proofs.Common.{◌≡◌, ◌++◌, drop}
use Rattle.draft_changes.specs.DraftState.{now, Extends}
use Rattle.decide_orders.specs.Bulk.{all_added, bulk_changes}
use Rattle.decide_orders.specs.Steps.{after_outcomes}
use Rattle.decide_orders.proofs.bulk.add_all.Given as goal

-- the outcomes so far and those of what is left
abbrev pub invariant-loop-entry : goal.invariant-loop-entry
invariant-loop-entry g l = record {
  rest : after_outcomes l.outcomes.items (all_added (drop l.entry-index l.entries) l.draw (now l.draft)) ≡ all_added l.entries l.draw (now l.fn.draft);
  changes : l.draft.log.changes ≡ l.fn.draft.log.changes ++ bulk_changes l.outcomes.items;
  extends : Extends l.fn.draft l.draft;
}
