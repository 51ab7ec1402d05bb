use Rattle.draft_overlay.proofs.Sales.{sales_new}
use Rattle.draft_overlay.proofs.overlay.Overlay.last_at.Goals as goal

pub returns : goal.returns
returns g c =
    let base = (g.B.Book.state c.self.inside.book.now).lists in
    rw (← c.self.view_is) (c.last_checkin_in.ensures base (sales_new c.self.inside.log base c.self.invariant.sales) c.last_at.ensures)
