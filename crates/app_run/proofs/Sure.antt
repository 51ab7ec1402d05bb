-- SQLite's memory is sure.
use Rattle.std.proofs.Common.{Result, Ok, Err, IfOk}
use Rattle.sqlite_trees.specs.declared.memory.MemStore.{MemStore}
use Rattle.sqlite.specs.Held.{state}
use Rattle.sqlite.specs.State.{HasCleanDisk}
use Rattle.sqlite.specs.Steps.{over_memory}
use Rattle.sqlite.proofs.Callers.{memory_is_clean}
use Rattle.file_tables.specs.declared.sql.SqlTables.{SqlTables}

pub memory_sure : (tables : SqlTables MemStore) → HasCleanDisk (state over_memory tables.connection)
memory_sure tables = memory_is_clean tables.connection

-- what holds of a value whose tables are sure
pub once_sure : {T E : Type 0} (r : Result T E) (P Q : T → Type 0) → ((made : T) → P made) → IfOk r (λ made. P made → Q made) → IfOk r Q
once_sure (Ok made) P Q sure h = h (sure made)
once_sure (Err e) P Q sure h = tt
