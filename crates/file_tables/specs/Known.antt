-- What the tables of a shop in a file hold and know, said of the tables with their connection.
use Rattle.std.specs.Prelude.{List}
use Rattle.sqlite_trees.specs.declared.store.Store.{Ghosts}
use Rattle.sqlite.specs.Held.{state}
use Rattle.sqlite.specs.State.{HasCleanDisk}
use Rattle.model_rows.specs.Lists.{State}
use Rattle.model_answers.specs.declared.kept.Kept.{Kept}
use Rattle.model_answers.specs.House.{House}
use Rattle.file_tables.specs.declared.sql.SqlTables.{SqlTables}
use Rattle.file_tables.specs.Shops.{HoldsWhileOpen, KnowsWhileOpen}

-- while their connection is open, they hold this office and these answers
abbrev pub TablesHold : {S : Type 0} → Ghosts S → SqlTables S → State → List Kept → Type 0
TablesHold g t s answers = HoldsWhileOpen t.head t.next_row (state g t.connection) s answers

-- while their connection is open, they know this house
abbrev pub TablesKnow : {S : Type 0} → Ghosts S → SqlTables S → House → Type 0
TablesKnow g t house = KnowsWhileOpen t.head t.next_row (state g t.connection) house

-- while the disk is clean: so it is with each house that the tables knew
abbrev pub OfKnownHouse : {S : Type 0} → Ghosts S → SqlTables S → SqlTables S → (House → Type 0) → Type 0
OfKnownHouse g old new IsSo = HasCleanDisk (state g new.connection) → (house : House) → TablesKnow g old house → IsSo house
