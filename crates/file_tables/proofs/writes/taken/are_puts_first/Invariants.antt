use Rattle.std.proofs.Common.{◌≡◌, drop, false}
use Rattle.file_meaning.specs.Lawful.{puts_come_first}
use Rattle.file_tables.proofs.writes.taken.are_puts_first.Given as goal

abbrev pub invariant-changes : goal.invariant-changes
invariant-changes l = puts_come_first l.dropped (drop l.change-index l.changes) ≡ puts_come_first false l.changes
