use Rattle.std.proofs.Common.{◌↔◌, drop}
use Rattle.std.specs.List.{AllByRecursion}
use Rattle.file_check.specs.Spent.{StaysWithin}
use Rattle.file_check.proofs.budgets.all_stay_within.Given as goal

abbrev pub invariant-loop-row : goal.invariant-loop-row
invariant-loop-row g l = let state = g.B.Book.state l.book in AllByRecursion (StaysWithin state.lists) (drop l.row-index l.vouchers) ↔ AllByRecursion (StaysWithin state.lists) l.vouchers
