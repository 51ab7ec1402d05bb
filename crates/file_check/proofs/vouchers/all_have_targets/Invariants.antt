use Rattle.std.proofs.Common.{◌↔◌, drop}
use Rattle.std.specs.List.{AllByRecursion}
use Rattle.model_invariant.specs.Targets.{HasTarget}
use Rattle.file_check.proofs.vouchers.all_have_targets.Given as goal

abbrev pub invariant-loop-row : goal.invariant-loop-row
invariant-loop-row g l = let catalogue = (g.B.Book.state l.book).lists.catalogue in AllByRecursion (HasTarget catalogue) (drop l.row-index l.vouchers) ↔ AllByRecursion (HasTarget catalogue) l.vouchers
