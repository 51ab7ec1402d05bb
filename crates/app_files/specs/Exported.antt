-- What becomes of a shop's database when its order positions are exported.
use Rattle.std.specs.Prelude.{◌≡◌, ◌⊎◌, ℕ, List, [], Result, IfErr}
use Rattle.sqlite_trees.specs.declared.store.Store.{Ghosts}
use Rattle.sqlite.specs.Effect.{Database}
use Rattle.sqlite.specs.Held.{state}
use Rattle.sqlite.specs.State.{State as Connected, HasCleanDisk, Survives}
use Rattle.sqlite.specs.declared.connection.Connection.{Connection}
use Rattle.file_schema.specs.Tables.{schema}
use Rattle.file_scan.specs.Rests.{IsOpenAt, Rests}
use Rattle.file_tables.specs.declared.sql.SqlTables.{SqlTables}
use Rattle.web_handler.specs.Streams.{HandlerView}
use Rattle.web_cli.specs.declared.fault.RunFault.{RunFault}
use Rattle.app_csv.specs.PositionLines.{positions_text}
use Rattle.app_export.specs.Faults.{IsOfMachine}
use Rattle.app_export.specs.Written.{IsWritten}
use Rattle.app_files.specs.Served.{OpensAs, StaysUnopened}

-- The shop in the database is opened, and this text is written of its order positions: all of it, or beside a fault a beginning. The database
-- is left as it was, in a crash too. A fault is none of the file's: 6, 63 or 73.
pub record IsOpenedAndExported {S : Type 0} (g : Ghosts S) (text : List ℕ) (old : Connected) (left : Connection S) (outcome : Result (Unit {0}) RunFault) : Type 0 where
  pub handler : HandlerView (SqlTables S)
  pub opens : OpensAs g old handler
  pub written : HasCleanDisk (state g left) → (db : Database) → IsOpenAt db old → db.schema ≡ schema → IsWritten outcome text (positions_text handler.state.lists)
  pub cause : HasCleanDisk (state g left) → (db : Database) → IsOpenAt db old → db.schema ≡ schema → IfErr outcome IsOfMachine
  pub rests : Rests old (state g left)
  pub crash : Survives old (state g left) (λ _. ⊥)

-- the database is opened and exported so; or it isn't opened, and nothing is written
abbrev pub IsExported : {S : Type 0} → Ghosts S → List ℕ → Connected → Connection S → Result (Unit {0}) RunFault → Type 0
IsExported g text old left outcome = IsOpenedAndExported g text old left outcome ⊎ (StaysUnopened g old left outcome × (text ≡ []))
