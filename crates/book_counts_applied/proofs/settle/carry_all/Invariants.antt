use Rattle.std.proofs.Common.{◌≡◌, ◌≤◌, ◌-◌, ℕ, None, length, map, reverse, vec_len, vec_capacity}
use Rattle.base_tables.specs.Tables.{row_at}
use Rattle.model_rows.specs.Change.{after_all}
use Rattle.model_rows.specs.Weight.{weight}
use Rattle.book_counts_over_time.specs.Held.{AreHeld}
use Rattle.book_counts_applied.specs.Settled.{used_at, redeemed_at, spent_at, ArePutsNew, AreSmall}
use Rattle.book_counts_applied.proofs.settle.carry_all.Given as goal

-- the changes that are left lead to where all lead; no quota goes, and beside each row stands what was kept of its id
abbrev pub invariant-loop-change : goal.invariant-loop-change
invariant-loop-change l = record {
  rest : after_all (reverse l.list.items) l.store.state.lists ≡ after_all l.fn.list.items l.fn.store.state.lists;
  next : l.store.state.next ≡ l.fn.store.state.next;
  moment : l.store.state.moment ≡ l.fn.store.state.moment;
  room : weight (reverse l.list.items) ≤ l.store.room;
  usages_room : weight (reverse l.list.items) ≤ vec_capacity l.counted.usages - length l.counted.usages.items;
  redeems_room : weight (reverse l.list.items) ≤ vec_capacity l.counted.redeems - length l.counted.redeems.items;
  spents_room : weight (reverse l.list.items) ≤ vec_capacity l.counted.spents - length l.counted.spents.items;
  holds_room : weight (reverse l.list.items) ≤ vec_capacity l.counted.holds - length l.counted.holds.items;
  stay : (id : ℕ) → row_at (λ q. q.id) id l.store.state.lists.catalogue.quotas ≡ None → row_at (λ q. q.id) id l.fn.store.state.lists.catalogue.quotas ≡ None;
  new : ArePutsNew (redeemed_at l.fn.store.state) (reverse l.list.items) l.store.state.lists;
  unspent : ArePutsNew (spent_at l.fn.store.state) (reverse l.list.items) l.store.state.lists;
  usages : l.counted.usages.items ≡ map (λ q. used_at (record l.fn.store.state { moment = l.fn.from }) q.id) l.store.state.lists.catalogue.quotas;
  redeems : l.counted.redeems.items ≡ map (λ v. redeemed_at l.fn.store.state v.id) l.store.state.lists.vouchers;
  spents : l.counted.spents.items ≡ map (λ v. spent_at l.fn.store.state v.id) l.store.state.lists.vouchers;
  small : AreSmall l.store.state.lists;
  held : AreHeld l.store.state.lists l.store.state.moment l.counted.holds.items;
}

abbrev pub decreases-loop-change : goal.decreases-loop-change
decreases-loop-change l = vec_len l.list
