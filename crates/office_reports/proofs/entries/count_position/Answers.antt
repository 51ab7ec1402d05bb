use Rattle.std.proofs.Common.{◌∙◌, sym}
use Rattle.office_reports.proofs.Entering.{nowhere}
use Rattle.office_reports.proofs.entries.count_position.Goals as goal

pub returns-else-belongs : goal.returns-else-belongs
returns-else-belongs g c = nowhere c.args.list.now (g.B.Book.state c.args.book.now).lists c.args.position.now _ c.args.rows.now.items (sym c.belongs.ensures ∙ c.if-belongs.false)
