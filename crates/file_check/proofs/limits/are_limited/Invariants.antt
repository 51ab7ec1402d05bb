use Rattle.std.proofs.Common.{◌↔◌, drop}
use Rattle.std.specs.List.{AllByRecursion}
use Rattle.file_check.proofs.limits.are_limited.Given as goal

abbrev pub invariant-loop-row : goal.invariant-loop-row
invariant-loop-row g l = AllByRecursion g.T.Limited.limited (drop l.row-index l.rows) ↔ AllByRecursion g.T.Limited.limited l.rows
