use Rattle.base_index.proofs.EntryLemmas.{ids_of_rise}
use Rattle.book_indexes.proofs.EntryLemmas.{sum_of_key}
use Rattle.book_indexes.proofs.Selected.{found_rising}
use Rattle.book_indexes.proofs.indexed.Indexed.naming.Goals as goal

pub returns-clause-finds : goal.returns-clause-finds
returns-clause-finds g c = rw (← c.self.view_is) (sum_of_key (g.T.Row.key) (λ r. (g.T.Keyed.keys r).named) _ _ c.recall_invariant.ensures.in_order c.recall_invariant-2.ensures c.self.invariant.by_named c.args.named _ c.of_key.ensures.all)

pub returns-clause-all : goal.returns-clause-all
returns-clause-all g c = found_rising (g.T.Row.key) _ c.args.self.now.rows _ (rw (← c.self.view_is) c.recall_invariant.ensures.in_order) (returns-clause-finds g c) (rw c.of_key.ensures.all (ids_of_rise c.args.named _ c.recall_invariant-2.ensures))
