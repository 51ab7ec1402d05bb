-- What becomes of a shop's database when its periodic work is done.
use Rattle.std.specs.Prelude.{ℕ, List, ◌++◌, Option, None, Result, codes}
use Rattle.std.specs.Fmt.{decimal}
use Rattle.sqlite_trees.specs.declared.store.Store.{Ghosts}
use Rattle.sqlite.specs.State.{State as Connected}
use Rattle.sqlite.specs.declared.connection.Connection.{Connection}
use Rattle.base_values.specs.declared.answer.Response.{Response}
use Rattle.model_commands.specs.declared.replies.Reply.{Reply}
use Rattle.model_commands.specs.declared.replies.Reply.TheVariants as replies
use Rattle.model_commands.specs.declared.requests.Command.TheVariants as commands
use Rattle.model_commands.specs.declared.waiting.PeriodicCounts.{PeriodicCounts}
use Rattle.base_devices.specs.declared.device.Tick.{Tick}
use Rattle.file_tables.specs.declared.sql.SqlTables.{SqlTables}
use Rattle.web_handler.specs.Streams.{HandlerView, Meaning}
use Rattle.web_cli.specs.declared.fault.RunFault.{RunFault}
use Rattle.app_files.specs.Acting.{ActsFrom, untold}
use Rattle.app_files.specs.Served.{OpensAs}

-- `expired E, deleted D, sent S`
abbrev pub work_text : PeriodicCounts → List ℕ
work_text counts = codes "expired " ++ (decimal counts.expired ++ (codes ", deleted " ++ (decimal counts.deleted ++ (codes ", sent " ++ decimal counts.sent))))

-- periodic work causes its own reply, and no other
abbrev pub work_body : Reply → List ℕ
work_body (replies.Periodic counts) = work_text counts
work_body _ = untold

-- what the program says of periodic work, carried as the body of a response
abbrev pub work_words : Reply → Response
work_words reply = record { status = 200; allow = None; body = work_body reply }

-- the periodic work of the shop in the database is done, at the handler that it is opened as and the tick that is read
pub record IsOpenedAndWorked {S : Type 0} (reads : Option Tick → Type 0) (g : Ghosts S) (tables : Meaning (SqlTables S)) (old : Connected) (left : Connection S) (outcome : Result (List ℕ) RunFault) : Type 0 where
  pub handler : HandlerView (SqlTables S)
  pub opens : OpensAs g old handler
  pub works : ActsFrom reads work_words commands.Periodic tables handler left outcome
