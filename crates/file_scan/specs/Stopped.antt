-- Why the store stops while rows are read, so that 63 is told.
use Rattle.std.specs.Prelude.{◌⊎◌, ◌≤◌, ℕ, length, IsSome}
use Rattle.sqlite_disk.specs.Disk.{MoreFaults}
use Rattle.sqlite_trees.specs.Tree.{Trees}
use Rattle.sqlite.specs.State.{State}
use Rattle.file_schema.specs.declared.error.RowError.{RowError}
use Rattle.file_schema.specs.declared.error.RowError.TheVariants as rows
use Rattle.file_scan.specs.declared.error.OpenError.{OpenError}
use Rattle.file_scan.specs.declared.error.OpenError.TheVariants as opening

-- a table has more rows than are counted
abbrev pub HasEndlessTable : Trees → Type 0
HasEndlessTable trees = (tree : ℕ) × (18446744073709551615 ≤ length (trees tree))

-- the disk failed or refused a call meanwhile, the steps of queries are limited, or a table has 2^64 - 1 rows or more
abbrev pub IsStopped : State → State → Type 0
IsStopped old new = MoreFaults old.faults new.faults ⊎ (IsSome old.step_limit ⊎ HasEndlessTable old.now.trees)

-- this holds where rows aren't read because the store stops
abbrev pub WhereStopped : Type 0 → RowError → Type 0
WhereStopped holds rows.Memory = Unit {0}
WhereStopped holds rows.Foreign = Unit {0}
WhereStopped holds rows.Damaged = Unit {0}
WhereStopped holds rows.Store = holds

-- and this where a file isn't opened because of it
abbrev pub WhereClosed : Type 0 → OpenError → Type 0
WhereClosed holds opening.Memory = Unit {0}
WhereClosed holds opening.NotAShop = Unit {0}
WhereClosed holds (opening.Version version) = Unit {0}
WhereClosed holds (opening.Damaged rule) = Unit {0}
WhereClosed holds opening.Store = holds
