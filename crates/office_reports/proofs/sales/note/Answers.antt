use Rattle.std.proofs.Common.{◌∙◌, set, sym, ap}
use Rattle.base_tables.proofs.Places.{row_at_gap}
use Rattle.office_reports.specs.declared.sales.Sales.{Sales}
use Rattle.office_reports.specs.declared.sales.ItemSales.{ItemSales}
use Rattle.office_reports.specs.Noted.{with_sale}
use Rattle.office_reports.proofs.Noting.{noted_here, noted_nowhere}
use Rattle.office_reports.proofs.sales.note.Goals as goal

pub returns-in-Ok : goal.returns-in-Ok
returns-in-Ok c =
    let sales = c.args.sales.now.items in
    let row = c.index-row.result.now in
    ap (λ (x : Sales). set sales c.in-Ok.at (record { item = row.item; sales = x })) c.with_sale.ensures
    ∙ ap (λ (r : ItemSales). set sales c.in-Ok.at (record { item = r.item; sales = with_sale c.args.status c.args.price r.sales })) c.index-row.ensures
    ∙ noted_here c.args.status c.args.item c.args.price sales c.in-Ok.at row c.requires.order (rw c.deref.ensures.value at c.in-Ok.ensures.found)

pub returns-in_default : goal.returns-in_default
returns-in_default c =
    sym (noted_nowhere c.args.status c.args.item c.args.price c.args.sales.now.items (row_at_gap (λ (s : ItemSales). s.item) _ _ c.in_default.field-0 (rw c.deref.ensures.value at c.in_default.ensures.absent)))
