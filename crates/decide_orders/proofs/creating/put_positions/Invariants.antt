use Rattle.std.proofs.Common.{◌≡◌, ◌+◌, ◌++◌, drop, map, Ok}
use Rattle.model_rows.specs.declared.changes.Change.TheVariants.{PutPosition}
use Rattle.draft_changes.specs.DraftState.{now, Extends}
use Rattle.decide_orders.specs.Created.{with_positions}
use Rattle.decide_orders.specs.Steps.{IsReady, AreCounted}
use Rattle.decide_orders.proofs.creating.put_positions.Given as goal

abbrev pub invariant-loop-row : goal.invariant-loop-row
invariant-loop-row g l = record {
  rest : with_positions (drop l.row-index l.rows) (Ok (now l.draft)) ≡ with_positions l.rows (Ok (now l.fn.draft));
  ready : IsReady (l.first + l.row-index) (now l.draft);
  counted : AreCounted (l.first + l.row-index) (drop l.row-index l.rows);
  changes : l.draft.log.changes ++ map PutPosition (drop l.row-index l.rows) ≡ l.fn.draft.log.changes ++ map PutPosition l.rows;
  extends : Extends l.fn.draft l.draft;
}
