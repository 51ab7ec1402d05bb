use Rattle.std.proofs.Common.{sym, ◌∙◌}
use Rattle.draft_overlay.proofs.Sales.{sales_catalogue}
use Rattle.draft_overlay.proofs.overlay.Overlay.catalogue.Goals as goal

pub returns : goal.returns
returns g c =
    let base = (g.B.Book.state c.self.inside.book.now).lists in
    rw (← c.self.view_is) (c.catalogue.ensures ∙ sym (sales_catalogue c.self.inside.log base c.self.invariant.sales))
