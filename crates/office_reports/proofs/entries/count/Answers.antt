use Rattle.std.proofs.Common.{◌∙◌, set, sym, ap}
use Rattle.base_tables.proofs.Places.{row_at_gap}
use Rattle.office_reports.specs.declared.entries.Entries.{Entries}
use Rattle.office_reports.specs.declared.entries.ItemEntries.{ItemEntries}
use Rattle.office_reports.specs.Counted.{with_ticket}
use Rattle.office_reports.proofs.Entering.{counted_here, counted_nowhere}
use Rattle.office_reports.proofs.entries.count.Goals as goal

pub returns-in-Ok : goal.returns-in-Ok
returns-in-Ok c =
    let rows = c.args.rows.now.items in
    let row = c.index-row.result.now in
    ap (λ (x : Entries). set rows c.in-Ok.at (record { item = row.item; entries = x })) c.with_ticket.ensures
    ∙ ap (λ (r : ItemEntries). set rows c.in-Ok.at (record { item = r.item; entries = with_ticket c.args.entered c.args.inside r.entries })) c.index-row.ensures
    ∙ counted_here c.args.item c.args.entered c.args.inside rows c.in-Ok.at row c.requires.order (rw c.deref.ensures.value at c.in-Ok.ensures.found)

pub returns-in_default : goal.returns-in_default
returns-in_default c =
    sym (counted_nowhere c.args.item c.args.entered c.args.inside c.args.rows.now.items (row_at_gap (λ (s : ItemEntries). s.item) _ _ c.in_default.field-0 (rw c.deref.ensures.value at c.in_default.ensures.absent)))
