-- What an import comes to.
use Rattle.std.proofs.Common.{◌≡◌, ◌⊎◌, inl, ℕ, List, Option, Result, subst}
use Rattle.sqlite.specs.declared.connection.Connection.{Connection}
use Rattle.model_commands.specs.declared.requests.Command.TheVariants.{ImportVouchers}
use Rattle.model_commands.specs.declared.vouchers.NewVoucher.{NewVoucher}
use Rattle.app_csv.specs.VerdictLines.{codes_of}
use Rattle.base_devices.specs.declared.device.Tick.{Tick}
use Rattle.file_tables.specs.declared.sql.SqlTables.{SqlTables}
use Rattle.web_handler.specs.Streams.{HandlerView, Meaning}
use Rattle.web_cli.specs.declared.fault.RunFault.{RunFault}
use Rattle.web_cli.specs.declared.fault.RunFault.TheVariants.{Memory}
use Rattle.app_files.specs.Acting.{ActsFrom}
use Rattle.app_files.specs.Imported.{AddsAll, AddsNothing, import_words}

-- the vouchers are added, and told by their codes
pub adds_all : {S : Type 0} (reads : Option Tick → Type 0) (tables : Meaning (SqlTables S)) (vouchers : List NewVoucher) (given : List (List ℕ)) (handler : HandlerView (SqlTables S)) (left : Connection S) (outcome : Result (List ℕ) RunFault) → given ≡ codes_of vouchers
    → ActsFrom reads (import_words given) (ImportVouchers vouchers) tables handler left outcome → AddsAll reads tables vouchers handler left outcome ⊎ AddsNothing Memory handler left outcome
adds_all reads tables vouchers given handler left outcome is acts = inl (subst (λ (g : List (List ℕ)). ActsFrom reads (import_words g) (ImportVouchers vouchers) tables handler left outcome) is acts)
