use Rattle.std.proofs.Common.{arith, ap, length}
use Rattle.base_tables.specs.Slots.{rows_in}
use Rattle.base_tables.proofs.SlotLemmas.{rows_in_order, no_more_rows, length-left}
use Rattle.base_tables.proofs.sparse.Sparse.delete.Goals as goal

pub close_gaps-requires-clause-few : goal.close_gaps-requires-clause-few
close_gaps-requires-clause-few g c = omega (arith, c.self.invariant.1, c.self.invariant.2, no_more_rows (g.T.Row.key) c.self.inside.slots.items)

pub invariant_of-self : goal.invariant_of-self
invariant_of-self g c =
    let key = g.T.Row.key in
    let stood = rw (← c.self.view_is) at c.count_of.ensures in
    let order = rows_in_order key 0 _ c.self.invariant.0 in
    (c.close_gaps.ensures.order, omega (arith, c.close_gaps.ensures.count, c.leave_slot.ensures.count, c.self.invariant.1), omega (arith, c.self.invariant.2, stood, length-left key 0 c.args.id (rows_in c.self.inside.slots.items) order, ap length c.leave_slot.ensures.rows, ap length c.close_gaps.ensures.rows), c.close_gaps.ensures.bound)

pub close_gaps-requires-clause-count : goal.close_gaps-requires-clause-count
close_gaps-requires-clause-count g c =
    let key = g.T.Row.key in
    let stood = rw (← c.self.view_is) at c.count_of.ensures in
    let order = rows_in_order key 0 _ c.self.invariant.0 in
    omega (arith, c.self.invariant.2, stood, length-left key 0 c.args.id (rows_in c.self.inside.slots.items) order, ap length c.leave_slot.ensures.rows)
