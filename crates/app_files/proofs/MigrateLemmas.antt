-- What becomes of a shop's database that is brought to this program's version.
use Rattle.std.proofs.Common.{◌≡◌, ◌⊎◌, inl, inr, ℕ, List, Result, Ok, Err, refl, sym, subst}
use Rattle.sqlite_trees.specs.declared.store.Store.{Ghosts}
use Rattle.sqlite.specs.Held.{state}
use Rattle.sqlite.specs.State.{State as Connected, HasCleanDisk, Survives}
use Rattle.sqlite.specs.declared.connection.Connection.{Connection}
use Rattle.file_schema.specs.Tables.{this_version}
use Rattle.file_schema.specs.Versions.{schema_of_version}
use Rattle.file_scan.specs.Rests.{IsOpenAt}
use Rattle.file_open.specs.Migrated.{IsMigrated, IsOfVersion, MayBeMigrated}
use Rattle.web_cli.specs.declared.fault.RunFault.{RunFault}
use Rattle.web_cli.specs.declared.fault.RunFault.TheVariants as faults
use Rattle.web_cli.specs.declared.values.Report.{Report}
use Rattle.web_cli.specs.declared.values.Report.TheVariants as reports
use Rattle.app_files.specs.Asked.{TellsOf}
use Rattle.app_files.specs.Migrated.{IsBrought, MigratesShopIn}
use Rattle.app_files.specs.Reported.{IsOpenedAndReported, version_text}
use Rattle.app_files.specs.Served.{StaysUnopened}

module _ {S : Type 0} (g : Ghosts S) (old : Connected) (left : Connection S) where
  -- whatever version of ours it was of, it was of the one that is known
  pub brought_from : (from : ℕ) → (HasCleanDisk (state g left) → IsOpenAt old.now old → (version : ℕ) → IsOfVersion version old.now → version ≡ from)
      → (HasCleanDisk (state g left) → IsOpenAt old.now old → old.now.schema ≡ schema_of_version from → IsMigrated from old (state g left)) → IsBrought g old left
  brought_from from one migrated = λ clean at version of.
      let is = one clean at version of in
      subst (λ v. IsMigrated v old (state g left)) (sym is) (migrated clean at (subst (λ v. old.now.schema ≡ schema_of_version v) is of.known))

  -- this program's version is printed, or there is no memory for it
  pub brought_and_told : (outcome : Result (List ℕ) RunFault) → (outcome ≡ Ok (version_text this_version)) ⊎ (outcome ≡ Err faults.Memory) → IsBrought g old left → Survives old (state g left) (MayBeMigrated old)
      → MigratesShopIn g old left outcome
  brought_and_told outcome (inl is) done crash = subst (λ (o : Result (List ℕ) RunFault). MigratesShopIn g old left o) (sym is) (record { told = refl; brought = done; none = tt; crash = crash })
  brought_and_told outcome (inr is) done crash = subst (λ (o : Result (List ℕ) RunFault). MigratesShopIn g old left o) (sym is) (record { told = tt; brought = tt; none = inr (refl, done); crash = crash })

  -- that is what is asked for, or another report is
  pub tells_version : (report : Report) (outcome : Result (List ℕ) RunFault) → report ≡ reports.Version → MigratesShopIn g old left outcome → TellsOf g report old left outcome
  tells_version report outcome is done = subst (λ (r : Report). TellsOf g r old left outcome) (sym is) done

  pub tells_other : (report : Report) (outcome : Result (List ℕ) RunFault) → (report ≡ reports.Version → ⊥) → IsOpenedAndReported g report old left outcome ⊎ StaysUnopened g old left outcome → TellsOf g report old left outcome
  tells_other reports.Sales outcome other came = came
  tells_other (reports.Door list) outcome other came = came
  tells_other reports.Version outcome other came = absurd (other refl)
