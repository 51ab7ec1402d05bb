use Rattle.std.proofs.Common.{◌≡◌, ◌+◌, [], drop}
use Rattle.draft_changes.specs.DraftState.{now}
use Rattle.decide_orders.specs.Created.{rows_for, after_rows}
use Rattle.decide_orders.proofs.creating.new_rows.Given as goal

-- the rows so far and those of what is left, which are priced after them
abbrev pub invariant-loop-entry : goal.invariant-loop-entry
invariant-loop-entry g l = record {
  rows : after_rows l.rows.items (rows_for l.draw (now l.draft) l.rows.items l.id l.number (drop l.entry-index l.asked)) ≡ rows_for l.draw (now l.draft) [] (now l.draft).next.position 1 l.asked;
  id : l.id ≡ (now l.draft).next.position + l.entry-index;
  number : l.number ≡ 1 + l.entry-index;
}
