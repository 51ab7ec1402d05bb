use Rattle.std.proofs.Common.{arith, ◌<◌}
use Rattle.book_indexes.proofs.EntryLemmas.{indexed_put}
use Rattle.book_indexes.proofs.indexed.Indexed.put.Goals as goal

pub invariant_of-self : goal.invariant_of-self
invariant_of-self g c =
    let small : c.id-id.result < 18446744073709551616 = omega arith in
    let was = rw (← c.self.view_is) at c.keys_of-old.ensures in
    indexed_put (g.T.Row.key) (g.T.Keyed.keys) (g.R.OrderedRows.table c.self.inside.rows).rows _ _ _ _ c.recall_invariant.ensures.in_order c.self.invariant c.id-id.result c.keys_of-old.result small was (g.R.OrderedRows.table c.put.new.self).rows _ _ _ _ c.replace.ensures.sorted c.replace-2.ensures.sorted c.replace-3.ensures.sorted c.replace-4.ensures.sorted
    c.args.row c.keys-new.result c.id-id.ensures c.keys-new.ensures c.put.ensures.rows c.replace.ensures.rows c.replace-2.ensures.rows c.replace-3.ensures.rows c.replace-4.ensures.rows
