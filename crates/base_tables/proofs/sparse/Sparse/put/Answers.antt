use Rattle.std.proofs.Common.{◌+◌, ◌≤◌, arith, ap, length}
use Rattle.base_tables.specs.Tables.{row_at}
use Rattle.base_tables.specs.Slots.{rows_in, count_if}
use Rattle.base_tables.proofs.SlotLemmas.{rows_in_order, no_more_rows, length-put, one_at_most}
use Rattle.base_tables.proofs.sparse.Sparse.put.Goals as goal

pub overflow_add-self : goal.overflow_add-self
overflow_add-self g c = omega (arith, c.self.invariant.1, c.self.invariant.2, no_more_rows (g.T.Row.key) c.self.inside.slots.items)

pub invariant_of-self : goal.invariant_of-self
invariant_of-self g c =
    let key = g.T.Row.key in
    let stood = rw (← c.self.view_is, c.id.ensures) at c.count_of-stood.ensures in
    let fits : length c.put_slot.new.slots.items + count_if (row_at key (key c.args.row) (rows_in c.self.inside.slots.items)) ≤ length c.self.inside.slots.items + 1 = c.put_slot.ensures.count in
    let order = rows_in_order key 0 _ c.self.invariant.0 in
    (c.put_slot.ensures.order, omega (arith, c.put_slot.ensures.count, rw (← c.self.view_is) at c.requires), omega (arith, c.self.invariant.2, stood, length-put key 0 c.args.row (rows_in c.self.inside.slots.items) order, ap length c.put_slot.ensures.rows), omega (arith, c.self.invariant.3, stood, fits, one_at_most key (row_at key (key c.args.row) (rows_in c.self.inside.slots.items))))
