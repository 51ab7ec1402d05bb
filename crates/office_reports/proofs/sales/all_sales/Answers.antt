use Rattle.std.proofs.Common.{◌∙◌, sym, ap, map, subst}
use Rattle.base_tables.specs.Tables.{AreInOrder}
use Rattle.office_reports.specs.declared.sales.ItemSales.{ItemSales}
use Rattle.office_reports.specs.Noted.{AreFew, noted_all, unsold}
use Rattle.office_reports.proofs.Noting.{none_in_order, none_few, all_sales_are}
use Rattle.office_reports.proofs.sales.all_sales.Goals as goal

pub note_all-requires-clause-order : goal.note_all-requires-clause-order
note_all-requires-clause-order g c =
    let items = (g.B.Book.state c.args.book.now).lists.catalogue.items in
    subst (λ l. AreInOrder (λ (s : ItemSales). s.item) l) (sym (c.in_ok-sales.ensures ∙ ap (map unsold) (c.items.ensures ∙ ap (λ l. l.items) c.catalogue.ensures))) (none_in_order 0 items c.requires.ids.items.in_order)

pub note_all-requires-clause-few : goal.note_all-requires-clause-few
note_all-requires-clause-few g c = subst (AreFew 0) (sym c.in_ok-sales.ensures) (none_few c.items.result.now)

pub returns-clause-sales : goal.returns-clause-sales
returns-clause-sales g c =
    let lists = (g.B.Book.state c.args.book.now).lists in
    c.note_all.ensures.noted ∙ ap (map (noted_all lists lists.positions)) (c.in_ok-sales.ensures ∙ ap (map unsold) (c.items.ensures ∙ ap (λ l. l.items) c.catalogue.ensures)) ∙ all_sales_are lists
