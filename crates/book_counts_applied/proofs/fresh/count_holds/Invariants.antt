use Rattle.std.proofs.Common.{◌≡◌, ◌≤◌, length, map, take, vec_capacity}
use Rattle.model_rows.specs.Headroom.{held}
use Rattle.book_counts_applied.proofs.fresh.count_holds.Given as goal

-- those of the rows so far
abbrev pub invariant-loop-row : goal.invariant-loop-row
invariant-loop-row l = record {
  items : l.holds.items ≡ map (λ v. held l.at v.id l.store.state.lists) (take l.row-index l.rows);
  count : length l.holds.items ≡ l.row-index;
  room : length l.rows ≤ vec_capacity l.holds;
}
