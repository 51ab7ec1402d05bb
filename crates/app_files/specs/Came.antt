-- What a command on a shop's database comes to, by the connection that it was given and the one that it hands back.
use Rattle.std.specs.Prelude.{◌⊎◌, Result}
use Rattle.sqlite_trees.specs.declared.store.Store.{Ghosts}
use Rattle.sqlite.specs.Held.{state}
use Rattle.sqlite.specs.State.{State as Connected}
use Rattle.sqlite.specs.declared.connection.Connection.{Connection}
use Rattle.web_cli.specs.declared.fault.RunFault.{RunFault}
use Rattle.app_files.specs.Served.{StaysUnopened}
use Rattle.app_files.specs.declared.filed.Filed.{Filed}

-- what a command may come to, by what its connection showed before, the connection as it was left, and the outcome
abbrev pub Coming : Type 0 → Type 0 → Type 1
Coming S A = Connected → Connection S → Result A RunFault → Type 0

-- over this connection the command came to this, with what it hands back
abbrev pub CameTo : {S A : Type 0} → Ghosts S → Coming S A → Connection S → Filed S A → Type 0
CameTo g Comes connection filed = Comes (state g connection) filed.connection filed.outcome

-- the command came to this, or the database wasn't opened
abbrev pub OrUnopened : {S A : Type 0} → Ghosts S → Coming S A → Connected → Connection S → Result A RunFault → Type 0
OrUnopened g Comes old left outcome = Comes old left outcome ⊎ StaysUnopened g old left outcome
