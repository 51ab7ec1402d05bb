use Rattle.std.proofs.Common.{◌∙◌, sym, ap}
use Rattle.std.specs.Option.{option_copied}
use Rattle.office_reports.proofs.Noting.{noted_nowhere_if}
use Rattle.office_reports.proofs.sales.note_position.Goals as goal

pub returns-in_default-clause-noted : goal.returns-in_default-clause-noted
returns-in_default-clause-noted g c = noted_nowhere_if c.args.position.now _ c.args.sales.now.items (sym c.order.ensures ∙ ap option_copied c.in_default.is)
