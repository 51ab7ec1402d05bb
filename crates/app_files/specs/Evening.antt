-- One command after another on the file of a shop, as one history.
use Rattle.std.specs.Prelude.{List}
use Rattle.sqlite_trees.specs.declared.store.Store.{Ghosts}
use Rattle.sqlite.specs.Held.{state}
use Rattle.sqlite.specs.State.{State as Connected, HasCleanDisk}
use Rattle.office_deliveries.specs.Histories.{Event, Happens, IsRunning, Running}
use Rattle.file_tables.specs.declared.sql.SqlTables.{SqlTables}
use Rattle.web_handler.specs.Streams.{HandlerView, House, IsOf, Meaning, handler_with, words_of}
use Rattle.file_open.specs.Found.{IsFound}
use Rattle.app_files.specs.Served.{OpensAs}

-- a handler with other tables
abbrev pub over : {T : Type 0} → T → HandlerView T → HandlerView T
over tables handler = handler_with tables handler.organizer handler.event handler.state

-- a handler is running in the words of this house, as this shop
abbrev pub IsRunningAs : {T : Type 0} → Meaning T → House → HandlerView T → Running → Type 0
IsRunningAs tables house handler r = IsRunning (words_of house) tables.holds tables.may_leave handler.tables handler.state r

-- A handler of this house is running, as these events left the shop that had begun so. What they were told, they were told in the house's words.
pub record RunsSo {T : Type 0} (tables : Meaning T) (house : House) (begun : Running) (events : List Event) (handler : HandlerView T) (r : Running) : Type 0 where
  pub of : IsOf tables house handler
  pub happened : Happens (words_of house) begun events r
  pub running : IsRunningAs tables house handler r

-- What was left so is found again by a new connection, after a crash or because a command has ended; and it is opened as this handler, over a
-- disk that returned what was written.
pub record IsOpenedAgain {S : Type 0} (g : Ghosts S) (left fresh : Connected) (handler : HandlerView (SqlTables S)) : Type 0 where
  pub found : IsFound left fresh
  pub opens : OpensAs g fresh handler
  pub clean : HasCleanDisk (state g handler.tables.connection)
