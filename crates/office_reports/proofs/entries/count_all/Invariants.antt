use Rattle.office_reports.proofs.Entering.{Counted}
use Rattle.office_reports.proofs.entries.count_all.Given as goal

abbrev pub invariant-loop-position : goal.invariant-loop-position
invariant-loop-position g l = Counted l.list (g.B.Book.state l.book).lists l.position-items l.position-index l.fn.rows.items l.rows.items
