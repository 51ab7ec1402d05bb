use Rattle.std.proofs.Common.{drop}
use Rattle.std.specs.List.{AllByRecursion}
use Rattle.file_meaning.specs.Stands.{IsRising}
use Rattle.file_tables.proofs.writes.taken.are_rising.Given as goal

abbrev pub invariant-changes : goal.invariant-changes
invariant-changes l =
    let left = drop l.change-index l.changes in
    (AllByRecursion IsRising left → AllByRecursion IsRising l.changes) × (AllByRecursion IsRising l.changes → AllByRecursion IsRising left)
