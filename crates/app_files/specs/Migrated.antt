-- What becomes of a shop's database that is brought to this program's version.
use Rattle.std.specs.Prelude.{◌≡◌, ◌⊎◌, ℕ, List, Result, IfErr, IfOk, IsTrue, OnOk}
use Rattle.sqlite_trees.specs.declared.store.Store.{Ghosts}
use Rattle.sqlite.specs.Effect.{Database}
use Rattle.sqlite.specs.Held.{state}
use Rattle.sqlite.specs.State.{State as Connected, HasCleanDisk, Survives}
use Rattle.sqlite.specs.declared.connection.Connection.{Connection}
use Rattle.file_schema.specs.Tables.{this_version}
use Rattle.file_scan.specs.Rests.{IsAt, IsOpenAt}
use Rattle.file_scan.specs.declared.error.OpenError.{OpenError}
use Rattle.file_open.specs.Migrated.{IsMigrated, IsOfVersion, MayBeMigrated}
use Rattle.file_open.specs.Refusals.{IsDeclaredByVersion, IsUnmigrated}
use Rattle.web_cli.specs.declared.fault.RunFault.{RunFault}
use Rattle.web_cli.specs.declared.fault.RunFault.TheVariants.{Memory}
use Rattle.app_files.specs.Faults.{fault_of_opening}
use Rattle.app_files.specs.Reported.{version_text}

-- Where the open connection showed what was committed, and the database was of a version of ours, it held a shop of that version, and holds
-- it as one of this program's.
abbrev pub IsBrought : {S : Type 0} → Ghosts S → Connected → Connection S → Type 0
IsBrought g old left = HasCleanDisk (state g left) → IsOpenAt old.now old → (version : ℕ) → IsOfVersion version old.now → IsMigrated version old (state g left)

-- As long as the connection is open: nothing in the database has changed, and the fault has its cause there.
abbrev pub IsUnbrought : {S : Type 0} → Ghosts S → Connected → Connection S → RunFault → Type 0
IsUnbrought g old left fault =
    HasCleanDisk (state g left) → IsTrue (state g left).is_open → (db : Database) → IsOpenAt db old
    → (IsDeclaredByVersion db → IsAt db (state g left)) × ((error : OpenError) × (fault ≡ fault_of_opening error) × IsUnmigrated db error)

-- The shop was brought to this program's version, which is printed; or it wasn't, and it is said why not. Where there is no memory for what is
-- to be printed, it may have been. A crash leaves the shop as it was, or brought to this program's version.
pub record MigratesShopIn {S : Type 0} (g : Ghosts S) (old : Connected) (left : Connection S) (outcome : Result (List ℕ) RunFault) : Type 0 where
  pub told : IfOk outcome (λ text. text ≡ version_text this_version)
  pub brought : OnOk outcome (IsBrought g old left)
  pub none : IfErr outcome (λ fault. IsUnbrought g old left fault ⊎ ((fault ≡ Memory) × IsBrought g old left))
  pub crash : Survives old (state g left) (MayBeMigrated old)
