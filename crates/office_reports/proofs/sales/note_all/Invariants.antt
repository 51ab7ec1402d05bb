use Rattle.office_reports.proofs.Noting.{Noted}
use Rattle.office_reports.proofs.sales.note_all.Given as goal

abbrev pub invariant-loop-position : goal.invariant-loop-position
invariant-loop-position g l = Noted (g.B.Book.state l.book).lists l.position-items l.position-index l.fn.sales.items l.sales.items
