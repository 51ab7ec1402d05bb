use Rattle.std.proofs.Common.{subst, sym, ◌∙◌, arith, length-set}
use Rattle.std.proofs.lemmas.List.Edits.{length-insert}
use Rattle.base_tables.specs.Tables.{AreInOrder}
use Rattle.base_tables.proofs.Places.{set_is_with_row, insert_is_with_row, with_row_in_order}
use Rattle.base_tables.proofs.rows.Rows.put.Goals as goal

pub invariant_of-self : goal.invariant_of-self
invariant_of-self g c =
    let place = rw (c.deref.ensures.value, c.id-id.ensures) at c.in-Ok.ensures.found in
    let is = set_is_with_row (g.T.Row.key) 0 _ c.args.row c.in-Ok.at c.self.invariant.0 place in
    (subst (λ l. AreInOrder (g.T.Row.key) l) (sym is) (with_row_in_order (g.T.Row.key) 0 c.args.row _ (omega arith) c.self.invariant.0), rw length-set c.self.invariant.1)

pub invariant_of-self-in-Err : goal.invariant_of-self-in-Err
invariant_of-self-in-Err g c =
    let gap = rw (c.deref.ensures.value, c.id-id.ensures) at c.in-Err.ensures.absent in
    let is = c.insert_reserved.ensures.items ∙ insert_is_with_row (g.T.Row.key) _ c.args.row c.in-Err.at gap in
    (subst (λ l. AreInOrder (g.T.Row.key) l) (sym is) (with_row_in_order (g.T.Row.key) 0 c.args.row _ (omega arith) c.self.invariant.0), rw c.insert_reserved.ensures.items (omega (arith, length-insert c.self.inside.rows.items c.in-Err.at c.args.row gap.in_range, rw (← c.self.view_is) at c.requires)))

pub returns-in-Ok-clause-rows : goal.returns-in-Ok-clause-rows
returns-in-Ok-clause-rows g c =
    rw (← c.self.view_is) (set_is_with_row (g.T.Row.key) 0 _ c.args.row c.in-Ok.at c.self.invariant.0 (rw (c.deref.ensures.value, c.id-id.ensures) at c.in-Ok.ensures.found))

pub returns-in-Err-clause-rows : goal.returns-in-Err-clause-rows
returns-in-Err-clause-rows g c =
    rw (← c.self.view_is) (c.insert_reserved.ensures.items ∙ insert_is_with_row (g.T.Row.key) _ c.args.row c.in-Err.at (rw (c.deref.ensures.value, c.id-id.ensures) at c.in-Err.ensures.absent))
