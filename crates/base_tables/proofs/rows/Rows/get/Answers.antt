use Rattle.std.proofs.Common.{sym, ap, ◌∙◌, Some}
use Rattle.base_tables.proofs.Places.{row_at_place, row_at_gap}
use Rattle.base_tables.proofs.rows.Rows.get.Goals as goal

pub returns-in-Ok : goal.returns-in-Ok
returns-in-Ok g c = rw (← c.self.view_is) (ap (λ x. Some x) c.index.ensures ∙ sym (row_at_place (g.T.Row.key) 0 _ c.args.id c.in-Ok.at _ c.self.invariant.0 (rw c.deref.ensures.value at c.in-Ok.ensures.found)))

pub returns-in-Err : goal.returns-in-Err
returns-in-Err g c = rw (← c.self.view_is) (sym (row_at_gap (g.T.Row.key) _ _ _ (rw c.deref.ensures.value at c.in-Err.ensures.absent)))
