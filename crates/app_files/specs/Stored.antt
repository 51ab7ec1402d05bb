-- What is said of a shop's tables in SQLite.
use Rattle.sqlite_trees.specs.declared.store.Store.{Ghosts}
use Rattle.sqlite.specs.Held.{state}
use Rattle.sqlite.specs.State.{HasCleanDisk}
use Rattle.file_tables.specs.declared.sql.SqlTables.{SqlTables}
use Rattle.file_tables.specs.Shops.{HoldsWhileOpen, IsOfHouse, Leaves}
use Rattle.web_handler.specs.Streams.{Meaning, meaning}

-- whatever SQLite keeps them in: they are sure while the disk returns what was written
abbrev pub stored_meaning : {S : Type 0} → Ghosts S → Meaning (SqlTables S)
stored_meaning g = meaning (λ t. HasCleanDisk (state g t.connection)) (λ t s ks. HoldsWhileOpen t.head t.next_row (state g t.connection) s ks)
    (λ t house. IsOfHouse t.head t.next_row (state g t.connection) house) (λ t left. Leaves (state g t.connection) left)
