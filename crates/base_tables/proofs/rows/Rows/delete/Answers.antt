use Rattle.std.proofs.Common.{subst, sym, ◌∙◌, arith}
use Rattle.base_tables.specs.Tables.{AreInOrder}
use Rattle.base_tables.proofs.Places.{remove_is_without_row, without_gap, without_row_in_order}
use Rattle.base_tables.proofs.rows.Rows.delete.Goals as goal

pub invariant_of-self : goal.invariant_of-self
invariant_of-self g c =
    let place = rw c.deref.ensures.value at c.in-Ok.ensures.found in
    let is = c.remove.ensures.items ∙ remove_is_without_row (g.T.Row.key) 0 _ c.args.id c.in-Ok.at c.self.invariant.0 place in
    (subst (λ l. AreInOrder (g.T.Row.key) l) (sym is) (without_row_in_order (g.T.Row.key) 0 c.args.id _ c.self.invariant.0), omega arith)

pub returns-in-Ok-clause-rows : goal.returns-in-Ok-clause-rows
returns-in-Ok-clause-rows g c =
    let place = rw c.deref.ensures.value at c.in-Ok.ensures.found in
    rw (← c.self.view_is) (c.remove.ensures.items ∙ remove_is_without_row (g.T.Row.key) 0 _ c.args.id c.in-Ok.at c.self.invariant.0 place)

pub returns-in_default-clause-rows : goal.returns-in_default-clause-rows
returns-in_default-clause-rows g c = rw (← c.self.view_is) (sym (without_gap (g.T.Row.key) _ c.args.id _ (rw c.deref.ensures.value at (c.in_default.ensures.absent))))
