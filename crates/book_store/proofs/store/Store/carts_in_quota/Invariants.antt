use Rattle.std.proofs.Common.{◌≡◌, ◌≤◌, ◌+◌, length, count_by}
use Rattle.model_rows.specs.Usage.{cart_counts}
use Rattle.book_store.proofs.store.Store.carts_in_quota.Given as goal

-- what was counted and what counts among the rows that are left is all
abbrev pub invariant-loop-row : goal.invariant-loop-row
invariant-loop-row g l = record {
  counted : l.count + count_by (cart_counts l.self.state.lists l.at l.quota) l.row-iterator ≡ count_by (cart_counts l.self.state.lists l.at l.quota) l.self.state.lists.carts;
  small : l.count + length l.row-iterator ≤ length l.self.state.lists.carts;
  ticked : l.steps + length l.row-iterator ≡ l.fn.steps + length l.self.state.lists.carts;
}
