use Rattle.book_indexes.proofs.EntryLemmas.{sum_of_range}
use Rattle.book_indexes.proofs.Selected.{found_sorted}
use Rattle.book_indexes.proofs.indexed.Indexed.ending.Goals as goal

pub returns-clause-finds : goal.returns-clause-finds
returns-clause-finds g c = rw (← c.self.view_is) (sum_of_range (g.T.Row.key) (λ r. (g.T.Keyed.keys r).until) _ _ c.recall_invariant.ensures.in_order c.recall_invariant-2.ensures c.self.invariant.by_until c.args.from c.args.to _ c.between.ensures.all)

pub returns-clause-sorted : goal.returns-clause-sorted
returns-clause-sorted g c = found_sorted (g.T.Row.key) _ c.args.self.now.rows c.between.result (rw (← c.self.view_is) c.recall_invariant.ensures.in_order) (returns-clause-finds g c)
