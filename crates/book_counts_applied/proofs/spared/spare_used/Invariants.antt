use Rattle.std.proofs.Common.{◌≡◌, drop}
use Rattle.std.specs.List.{list_all}
use Rattle.book_counts_applied.specs.Spared.{spares_used}
use Rattle.book_counts_applied.proofs.spared.spare_used.Given as goal

-- those that are left decide
abbrev pub invariant-loop-change : goal.invariant-loop-change
invariant-loop-change l = list_all (spares_used l.store.state.lists) (drop l.change-index l.changes) ≡ list_all (spares_used l.store.state.lists) l.changes
