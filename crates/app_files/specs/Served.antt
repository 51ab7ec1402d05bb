-- What becomes of a shop's database that is served.
use Rattle.std.specs.Prelude.{◌≡◌, ℕ, Option, None, Result, Err}
use Rattle.sqlite_trees.specs.declared.store.Store.{Ghosts}
use Rattle.sqlite.specs.Effect.{Database}
use Rattle.sqlite.specs.Held.{state}
use Rattle.sqlite.specs.State.{State as Connected, HasCleanDisk, IsUnchanged, Survives}
use Rattle.sqlite.specs.declared.connection.Connection.{Connection}
use Rattle.file_schema.specs.Tables.{schema, this_version}
use Rattle.model_invariant.specs.Sound.{IsSound}
use Rattle.file_scan.specs.Rests.{IsOpenAt, Rests}
use Rattle.file_scan.specs.declared.error.OpenError.{OpenError}
use Rattle.file_scan.specs.Stopped.{WhereClosed}
use Rattle.file_open.specs.Opened.{IsOpened, IsReason, IsWithheld}
use Rattle.file_tables.specs.declared.sql.SqlTables.{SqlTables}
use Rattle.web_connection.specs.Run.{AtTick}
use Rattle.web_handler.specs.Streams.{HandlerView, Meaning, Serves, handler_with}
use Rattle.base_devices.specs.declared.device.Tick.{Tick}
use Rattle.web_http.specs.Written.{Page}
use Rattle.web_cli.specs.declared.fault.RunFault.{RunFault}
use Rattle.web_server.specs.Rounds.{AnswersCallers, most_of}
use Rattle.web_connections.specs.Acts.{between}
use Rattle.app_files.specs.Faults.{fault_of_opening}
use Rattle.app_files.specs.declared.filed.Opened.{Opened}

-- the handler of a shop that was opened
abbrev pub handler_of : {S B : Type 0} → Opened S B → HandlerView (SqlTables S)
handler_of opened = handler_with opened.tables opened.office.organizer opened.office.event opened.office.state

-- The handler is that of the shop in the database: where the disk returned what was written and the connection was open, its tables and its
-- office are what the rows are opened as. The tables are of this version, the office is sound, and opening changed nothing, in a crash too.
pub record OpensAs {S : Type 0} (g : Ghosts S) (old : Connected) (handler : HandlerView (SqlTables S)) : Type 0 where
  pub opened : HasCleanDisk (state g handler.tables.connection) → (db : Database) → IsOpenAt db old → db.schema ≡ schema
      → IsOpened db.trees handler.tables.head handler.tables.next_row handler.state (state g handler.tables.connection)
  pub organizer : handler.organizer ≡ handler.tables.head.organizer
  pub event : handler.event ≡ handler.tables.head.event
  pub version : handler.tables.head.version ≡ this_version
  pub sound : IsSound handler.state
  pub same : HasCleanDisk (state g handler.tables.connection) → IsUnchanged old (state g handler.tables.connection)
  pub rests : Rests old (state g handler.tables.connection)
  pub crash : Survives old (state g handler.tables.connection) (λ _. ⊥)

-- from this handler callers are answered, at most so many, each request at a tick that was read of the system; and the connection is that of the
-- handler as they left it
pub record LeadsFrom {S : Type 0} (reads : Option Tick → Type 0) (tables : Meaning (SqlTables S)) (most : ℕ) (first : HandlerView (SqlTables S)) (left : Connection S) (outcome : Result (Unit {0}) RunFault) : Type 0 where
  pub last : HandlerView (SqlTables S)
  pub serving : AnswersCallers (AtTick reads (Serves tables)) (most_of most) (between None first) (between None last) None None outcome
  pub connection : left ≡ last.tables.connection

-- the shop in the database is served, from the handler that it is opened as
pub record IsOpenedAndServed {S : Type 0} (reads : Option Tick → Type 0) (g : Ghosts S) (tables : Meaning (SqlTables S)) (most : ℕ) (old : Connected) (left : Connection S) (outcome : Result (Unit {0}) RunFault) : Type 0 where
  pub handler : HandlerView (SqlTables S)
  pub opens : OpensAs g old handler
  pub leads : LeadsFrom reads tables most handler left outcome

-- nothing is said
abbrev pub IsSilent : Page → Page → Type 0
IsSilent old new = new ≡ old

-- the database isn't opened, for its cause alone, and nothing in it has changed, in a crash too
pub record StaysUnopened {S A : Type 0} (g : Ghosts S) (old : Connected) (left : Connection S) (outcome : Result A RunFault) : Type 0 where
  pub error : OpenError
  pub told : outcome ≡ Err (fault_of_opening error)
  pub cause : HasCleanDisk (state g left) → (db : Database) → IsOpenAt db old → IsReason db error
  pub store : HasCleanDisk (state g left) → (db : Database) → IsOpenAt db old → db.schema ≡ schema → WhereClosed (IsWithheld db old (state g left)) error
  pub rests : Rests old (state g left)
  pub crash : Survives old (state g left) (λ _. ⊥)
