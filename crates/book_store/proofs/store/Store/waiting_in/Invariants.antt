use Rattle.std.proofs.Common.{◌≡◌, ◌≤◌, ◌+◌, length, count_by}
use Rattle.model_rows.specs.Usage.{waits_for}
use Rattle.book_store.proofs.store.Store.waiting_in.Given as goal

-- what was counted and what counts among the rows that are left is all
abbrev pub invariant-loop-row : goal.invariant-loop-row
invariant-loop-row g l = record {
  counted : l.count + count_by (waits_for l.quota) l.row-iterator ≡ count_by (waits_for l.quota) l.self.state.lists.waiting;
  small : l.count + length l.row-iterator ≤ length l.self.state.lists.waiting;
  ticked : l.steps + length l.row-iterator ≡ l.fn.steps + length l.self.state.lists.waiting;
}
