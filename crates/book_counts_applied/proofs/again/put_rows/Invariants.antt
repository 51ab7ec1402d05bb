use Rattle.std.proofs.Common.{◌≡◌, ◌≤◌, ◌+◌, length, reverse, vec_len}
use Rattle.model_rows.specs.Change.{after_all}
use Rattle.model_rows.specs.Weight.{weight}
use Rattle.book_counts_applied.specs.Settled.{AreSmall}
use Rattle.book_counts_applied.proofs.again.put_rows.Given as goal

-- the changes that are left lead to where all lead, and no more rows came than those before them have weight
abbrev pub invariant-loop-change : goal.invariant-loop-change
invariant-loop-change l = record {
  rest : after_all (reverse l.list.items) l.store.state.lists ≡ after_all l.fn.list.items l.fn.store.state.lists;
  next : l.store.state.next ≡ l.fn.store.state.next;
  moment : l.store.state.moment ≡ l.fn.store.state.moment;
  room : weight (reverse l.list.items) ≤ l.store.room;
  small : AreSmall l.store.state.lists;
  quotas : length l.store.state.lists.catalogue.quotas + weight (reverse l.list.items) ≤ length l.fn.store.state.lists.catalogue.quotas + weight l.fn.list.items;
  vouchers : length l.store.state.lists.vouchers + weight (reverse l.list.items) ≤ length l.fn.store.state.lists.vouchers + weight l.fn.list.items;
}

abbrev pub decreases-loop-change : goal.decreases-loop-change
decreases-loop-change l = vec_len l.list
