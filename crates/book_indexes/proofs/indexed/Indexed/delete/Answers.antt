use Rattle.std.proofs.Common.{arith, ◌<◌}
use Rattle.book_indexes.proofs.EntryLemmas.{indexed_drop}
use Rattle.book_indexes.proofs.indexed.Indexed.delete.Goals as goal

pub invariant_of-self : goal.invariant_of-self
invariant_of-self g c =
    let small : c.args.id < 18446744073709551616 = omega arith in
    let was = rw (← c.self.view_is) at c.keys_of-old.ensures in
    indexed_drop (g.T.Row.key) (g.T.Keyed.keys) (g.R.OrderedRows.table c.self.inside.rows).rows _ _ _ _ c.recall_invariant.ensures.in_order c.self.invariant c.args.id c.keys_of-old.result small was (g.R.OrderedRows.table c.delete.new.self).rows _ _ _ _ c.remove.ensures.sorted c.remove-2.ensures.sorted c.remove-3.ensures.sorted c.remove-4.ensures.sorted
    c.delete.ensures.rows c.remove.ensures.rows c.remove-2.ensures.rows c.remove-3.ensures.rows c.remove-4.ensures.rows
