use Rattle.std.proofs.Common.{sym, ◌∙◌}
use Rattle.base_tables.proofs.Places.{row_at_gap}
use Rattle.book_counts_applied.proofs.Puts.{beside_place}
use Rattle.book_counts_applied.proofs.beside.value_beside.Goals as goal

pub returns-in-Ok : goal.returns-in-Ok
returns-in-Ok g c f none is = c.index-kept-at.is ∙ beside_place (g.T.Row.key) c.args.rows.now c.args.kept.now c.args.id c.in-Ok.at c.index-kept-at.result c.in-Ok.ensures.found f is

pub returns-in-Err : goal.returns-in-Err
returns-in-Err g c f none is = sym (none (row_at_gap (g.T.Row.key) c.args.rows.now c.args.id _ c.in-Err.ensures.absent))
