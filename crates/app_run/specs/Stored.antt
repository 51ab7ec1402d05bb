-- What is said of a shop's tables in SQLite.
use Rattle.std.specs.Prelude.{◌≡◌, [], codes}
use Rattle.sqlite_trees.specs.declared.memory.MemStore.{MemStore}
use Rattle.sqlite_trees.specs.declared.store.Store.{Ghosts}
use Rattle.sqlite.specs.Held.{state}
use Rattle.sqlite.specs.State.{HasCleanDisk}
use Rattle.sqlite.specs.Steps.{over_memory}
use Rattle.model_rows.specs.Lists.{empty}
use Rattle.model_answers.specs.House.{House}
use Rattle.file_tables.specs.declared.sql.SqlTables.{SqlTables}
use Rattle.file_tables.specs.Shops.{HoldsWhileOpen, IsOfHouse, Leaves}
use Rattle.web_handler.specs.Streams.{HandlerView, Meaning, meaning}
use Rattle.app_run.specs.Opened.{bare_house, feed_house}

-- the disk has returned what was written so far
abbrev pub IsOnCleanDisk : {S : Type 0} → Ghosts S → SqlTables S → Type 0
IsOnCleanDisk g t = HasCleanDisk (state g t.connection)

-- the tables hold no row and no answer
abbrev pub HoldsNoRow : {S : Type 0} → Ghosts S → SqlTables S → Type 0
HoldsNoRow g t = HoldsWhileOpen t.head t.next_row (state g t.connection) empty []

-- the tables know this house
abbrev pub KnowsHouse : {S : Type 0} → Ghosts S → SqlTables S → House → Type 0
KnowsHouse g t house = IsOfHouse t.head t.next_row (state g t.connection) house

-- the tables are of the organizer `house` and the event `hall`, hold no row and no answer, and know that house without a token
pub record AreBare {S : Type 0} (g : Ghosts S) (t : SqlTables S) : Type 0 where
  pub row : (t.head.organizer ≡ codes "house") × (t.head.event ≡ codes "hall")
  pub next : t.head.next_token ≡ 1
  pub holds : HoldsNoRow g t
  pub knows : KnowsHouse g t bare_house

-- the tables are of the organizer `house` and the event `hall`, hold no row and no answer, and know that house with the token `feed`
pub record AreFed {S : Type 0} (g : Ghosts S) (t : SqlTables S) : Type 0 where
  pub row : (t.head.organizer ≡ codes "house") × (t.head.event ≡ codes "hall")
  pub holds : HoldsNoRow g t
  pub knows : KnowsHouse g t feed_house

-- whatever SQLite keeps them in
abbrev pub in_store : {S : Type 0} → Ghosts S → Meaning (SqlTables S)
in_store g = meaning (λ t. HasCleanDisk (state g t.connection)) (λ t s ks. HoldsWhileOpen t.head t.next_row (state g t.connection) s ks)
    (λ t house. IsOfHouse t.head t.next_row (state g t.connection) house) (λ t left. Leaves (state g t.connection) left)

-- in its memory
abbrev pub in_memory : Meaning (SqlTables MemStore)
in_memory = in_store over_memory

-- a handler over tables there
abbrev pub MemoryHandler : Type 0
MemoryHandler = HandlerView (SqlTables MemStore)
