-- What becomes of a shop's database that is asked for a text.
use Rattle.std.specs.Prelude.{ℕ, List, Result}
use Rattle.sqlite_trees.specs.declared.store.Store.{Ghosts}
use Rattle.sqlite.specs.State.{State as Connected}
use Rattle.sqlite.specs.declared.connection.Connection.{Connection}
use Rattle.web_cli.specs.declared.fault.RunFault.{RunFault}
use Rattle.web_cli.specs.declared.values.Report.{Report}
use Rattle.web_cli.specs.declared.values.Report.TheVariants.{Version}
use Rattle.app_files.specs.Came.{OrUnopened}
use Rattle.app_files.specs.Migrated.{MigratesShopIn}
use Rattle.app_files.specs.Reported.{IsOpenedAndReported}

-- its version is printed once it was brought to this program's; any other report is one on the shop that it is opened as, or it isn't opened
abbrev pub TellsOf : {S : Type 0} → Ghosts S → Report → Connected → Connection S → Result (List ℕ) RunFault → Type 0
TellsOf g Version old left came = MigratesShopIn g old left came
TellsOf g report old left came = OrUnopened g (IsOpenedAndReported g report) old left came
