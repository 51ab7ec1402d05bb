-- What becomes of a shop's database when a report on it is asked for.
use Rattle.std.specs.Prelude.{◌≡◌, ◌⊎◌, ◌++◌, ◌∷◌, [], ℕ, List, Option, Some, None, Result, Ok, Err, codes}
use Rattle.std.specs.Fmt.{decimal}
use Rattle.sqlite_trees.specs.declared.store.Store.{Ghosts}
use Rattle.sqlite.specs.State.{State as Connected}
use Rattle.sqlite.specs.declared.connection.Connection.{Connection}
use Rattle.model_rows.specs.Lists.{Lists}
use Rattle.file_tables.specs.declared.sql.SqlTables.{SqlTables}
use Rattle.web_handler.specs.Streams.{HandlerView}
use Rattle.web_cli.specs.declared.fault.RunFault.{RunFault}
use Rattle.web_cli.specs.declared.fault.RunFault.TheVariants as faults
use Rattle.web_cli.specs.declared.values.Report.{Report}
use Rattle.web_cli.specs.declared.values.Report.TheVariants as reports
use Rattle.office_reports.specs.DoorText.{door_text_of}
use Rattle.office_reports.specs.SalesText.{sales_text}
use Rattle.app_files.specs.Served.{OpensAs}

-- the text of a report; a list that the shop doesn't have is a fault
abbrev pub told_if : Option (List ℕ) → Result (List ℕ) RunFault
told_if None = Err faults.NoList
told_if (Some text) = Ok text

-- `version N`, with the end of its line
abbrev pub version_text : ℕ → List ℕ
version_text version = codes "version " ++ (decimal version ++ 10 ∷ [])

-- by the version of the shop's tables, and the shop's lists
abbrev pub report_on : Report → ℕ → Lists → Result (List ℕ) RunFault
report_on reports.Sales version lists = Ok (sales_text lists)
report_on (reports.Door list) version lists = told_if (door_text_of list lists)
report_on reports.Version version lists = Ok (version_text version)

-- that is told, or there is no memory for it
abbrev pub IsReport : Report → ℕ → Lists → Result (List ℕ) RunFault → Type 0
IsReport report version lists outcome = (outcome ≡ report_on report version lists) ⊎ (outcome ≡ Err faults.Memory)

-- the report is one on the shop that the database is opened as, and the connection is as opening left it
pub record IsOpenedAndReported {S : Type 0} (g : Ghosts S) (report : Report) (old : Connected) (left : Connection S) (outcome : Result (List ℕ) RunFault) : Type 0 where
  pub handler : HandlerView (SqlTables S)
  pub opens : OpensAs g old handler
  pub told : IsReport report handler.tables.head.version handler.state.lists outcome
  pub connection : left ≡ handler.tables.connection
