-- What becomes of a shop's database when the vouchers of a CSV file are added.
use Rattle.std.specs.Prelude.{◌≡◌, ◌⊎◌, ℕ, List, Option, None, Result, Ok, Err}
use Rattle.sqlite_trees.specs.declared.store.Store.{Ghosts}
use Rattle.sqlite.specs.State.{State as Connected}
use Rattle.sqlite.specs.declared.connection.Connection.{Connection}
use Rattle.base_values.specs.declared.answer.Response.{Response}
use Rattle.model_commands.specs.declared.replies.Reply.{Reply}
use Rattle.model_commands.specs.declared.replies.Reply.TheVariants as replies
use Rattle.model_commands.specs.declared.requests.Command.TheVariants as commands
use Rattle.model_commands.specs.declared.vouchers.NewVoucher.{NewVoucher}
use Rattle.app_csv.specs.VerdictLines.{codes_of, verdict_lines}
use Rattle.app_csv.specs.VoucherFile.{IsFile}
use Rattle.app_csv.specs.declared.voucher_file.FileFault.{FileFault}
use Rattle.base_devices.specs.declared.device.Tick.{Tick}
use Rattle.file_tables.specs.declared.sql.SqlTables.{SqlTables}
use Rattle.web_handler.specs.Streams.{HandlerView, Meaning}
use Rattle.web_cli.specs.declared.fault.RunFault.{RunFault}
use Rattle.web_cli.specs.declared.fault.RunFault.TheVariants as faults
use Rattle.app_files.specs.Acting.{ActsFrom, untold}
use Rattle.app_files.specs.Faults.{fault_of_file}
use Rattle.app_files.specs.Served.{OpensAs}

-- an import causes its own reply, a line for each row by its code, and no other
abbrev pub import_body : List (List ℕ) → Reply → List ℕ
import_body given (replies.Imported verdicts) = verdict_lines given verdicts
import_body given _ = untold

-- what the program says of an import, carried as the body of a response
abbrev pub import_words : List (List ℕ) → Reply → Response
import_words given reply = record { status = 200; allow = None; body = import_body given reply }

-- the vouchers that were read are added, in one command at the tick that is read
abbrev pub AddsAll : {S : Type 0} → (Option Tick → Type 0) → Meaning (SqlTables S) → List NewVoucher → HandlerView (SqlTables S) → Connection S → Result (List ℕ) RunFault → Type 0
AddsAll reads tables vouchers handler left outcome = ActsFrom reads (import_words (codes_of vouchers)) (commands.ImportVouchers vouchers) tables handler left outcome

-- nothing is added, and that is told
abbrev pub AddsNothing : {S : Type 0} → RunFault → HandlerView (SqlTables S) → Connection S → Result (List ℕ) RunFault → Type 0
AddsNothing fault handler left outcome = (outcome ≡ Err fault) × (left ≡ handler.tables.connection)

-- what the lines of a file come to: their vouchers, or a fault of the file
abbrev pub AddsRead : {S : Type 0} → (Option Tick → Type 0) → Meaning (SqlTables S) → Result (List NewVoucher) FileFault → HandlerView (SqlTables S) → Connection S → Result (List ℕ) RunFault → Type 0
AddsRead reads tables (Ok vouchers) handler left outcome = AddsAll reads tables vouchers handler left outcome
AddsRead reads tables (Err fault) handler left outcome = AddsNothing (fault_of_file fault) handler left outcome

-- what a file's bytes come to: what its lines do, or there is no memory to read them; or the file couldn't be read
abbrev pub AddsFrom : {S : Type 0} → (Option Tick → Type 0) → Meaning (SqlTables S) → Result (List ℕ) RunFault → HandlerView (SqlTables S) → Connection S → Result (List ℕ) RunFault → Type 0
AddsFrom reads tables (Ok text) handler left outcome = ((read : Result (List NewVoucher) FileFault) × IsFile text read × AddsRead reads tables read handler left outcome) ⊎ AddsNothing faults.Memory handler left outcome
AddsFrom reads tables (Err fault) handler left outcome = AddsNothing fault handler left outcome

-- the vouchers of a file are added to the shop in the database, at the handler that it is opened as
pub record IsOpenedAndImported {S : Type 0} (reads : Option Tick → Type 0) (g : Ghosts S) (tables : Meaning (SqlTables S)) (source : Result (List ℕ) RunFault) (old : Connected) (left : Connection S) (outcome : Result (List ℕ) RunFault) : Type 0 where
  pub handler : HandlerView (SqlTables S)
  pub opens : OpensAs g old handler
  pub adds : AddsFrom reads tables source handler left outcome
