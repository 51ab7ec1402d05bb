use Rattle.std.proofs.Common.{arith}
use Rattle.base_tables.proofs.SlotLemmas.{no_more_rows}
use Rattle.base_tables.proofs.sparse.Sparse.iter.Goals as goal

pub returns-clause-few : goal.returns-clause-few
returns-clause-few g c = rw (← c.self.view_is) (omega (arith, c.self.invariant.1, no_more_rows (g.T.Row.key) c.self.inside.slots.items))
