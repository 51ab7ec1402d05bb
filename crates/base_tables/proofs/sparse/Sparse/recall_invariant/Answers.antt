use Rattle.std.proofs.Common.{arith}
use Rattle.base_tables.proofs.SlotLemmas.{rows_in_order, no_more_rows}
use Rattle.base_tables.proofs.sparse.Sparse.recall_invariant.Goals as goal

pub returns : goal.returns
returns g c = rw (← c.self.view_is) (record { in_order = rows_in_order (g.T.Row.key) 0 _ c.self.invariant.0; few = omega (arith, c.self.invariant.1, no_more_rows (g.T.Row.key) c.self.inside.slots.items) })
