use Rattle.office_reports.proofs.Totals.{Summed}
use Rattle.office_reports.proofs.text.total.Given as goal

abbrev pub invariant-loop-row : goal.invariant-loop-row
invariant-loop-row l = Summed l.rows l.row-index l.total
