use Rattle.std.proofs.Common.{drop}
use Rattle.std.specs.List.{AllByRecursion}
use Rattle.file_meaning.specs.Typed.{IsTypedChange}
use Rattle.file_meaning.proofs.known.changes_known.Given as goal

abbrev pub invariant-loop-change : goal.invariant-loop-change
invariant-loop-change l = AllByRecursion IsTypedChange (drop l.change-index l.changes) → AllByRecursion IsTypedChange l.changes
