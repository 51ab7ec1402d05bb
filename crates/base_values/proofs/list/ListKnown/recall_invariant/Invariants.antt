use Rattle.std.proofs.Common.{drop}
use Rattle.std.specs.List.{AllByRecursion}
use Rattle.base_values.proofs.list.ListKnown.recall_invariant.Given as goal

abbrev pub invariant-loop-value : goal.invariant-loop-value
invariant-loop-value g l = AllByRecursion g.T.Known.promise (drop l.value-index l.value-items) → AllByRecursion g.T.Known.promise l.value-items
