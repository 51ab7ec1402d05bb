use Rattle.std.proofs.Common.{◌≡◌, ◌++◌, drop}
use Rattle.draft_changes.specs.DraftState.{now, Extends}
use Rattle.decide_vouchers.specs.Imported.{rows_imported, import_changes}
use Rattle.decide_vouchers.specs.Steps.{after_verdicts}
use Rattle.decide_vouchers.proofs.importing.import_rows.Given as goal

-- the verdicts so far and those on what is left
abbrev pub invariant-loop-row : goal.invariant-loop-row
invariant-loop-row g l = record {
  rest : after_verdicts l.verdicts.items (rows_imported (drop l.row-index l.rows) l.draw (now l.draft)) ≡ rows_imported l.rows l.draw (now l.fn.draft);
  changes : l.draft.log.changes ≡ l.fn.draft.log.changes ++ import_changes l.verdicts.items;
  extends : Extends l.fn.draft l.draft;
}
