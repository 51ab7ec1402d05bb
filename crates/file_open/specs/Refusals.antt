-- Why a file of an earlier version isn't opened, and why a file isn't brought to this program's version.
use Rattle.std.specs.Prelude.{◌≡◌, ◌⊎◌, ◌<◌, ◌≤◌, ℕ, pos}
use Rattle.sqlite_trees.specs.Tree.{Trees}
use Rattle.sqlite.specs.Effect.{Database}
use Rattle.file_schema.specs.Tables.{this_version}
use Rattle.file_schema.specs.Versions.{schema_of_version}
use Rattle.file_rows.specs.Tables.{HoldsAt}
use Rattle.model_damage.specs.declared.rule.Rule.{Rule}
use Rattle.file_scan.specs.declared.error.OpenError.{OpenError}
use Rattle.file_scan.specs.declared.error.OpenError.TheVariants.{Memory, NotAShop, Version, Damaged, Store}
use Rattle.file_scan.specs.declared.file.FileTables.{FileTables}
use Rattle.file_scan.specs.Causes.{IsCause, IsCauseAs, IsReadableAs}
use Rattle.file_scan.specs.Read.{tables_of}
use Rattle.file_rebuild.specs.Arranged.{AreReadInOrder}
use Rattle.file_open.specs.Opened.{IsLeastOf, IsReason}
use Rattle.file_open.specs.Supplied.{tables_supplied}

-- of rows that were read of a version, with those that it lacks, it is the least rule that is broken
pub record IsLeastAs (own : ℕ) (read : FileTables) (rule : Rule) : Type 0 where
  pub full : FileTables
  pub is : tables_of full ≡ tables_supplied own (tables_of read)
  pub order : AreReadInOrder full.shop full.tables
  pub least : IsLeastOf full rule

-- why rows that were read of a version are no office: 62 because of that rule, and neither 60 nor 61
abbrev pub IsWhyAs : ℕ → FileTables → OpenError → Type 0
IsWhyAs own read Memory = Unit {0}
IsWhyAs own read NotAShop = ⊥
IsWhyAs own read (Version version) = ⊥
IsWhyAs own read (Damaged rule) = IsLeastAs own read rule
IsWhyAs own read Store = Unit {0}

-- what trees show of a version was read, and it is the least rule that is broken
pub record IsDamagedAs (own : ℕ) (rule : Rule) (db : Trees) : Type 0 where
  pub read : FileTables
  pub held : HoldsAt own db (tables_of read)
  pub broken : IsLeastAs own read rule

-- Why each refusal is given where a file of this version is asked for: 60, 61, and 62 by the first two rules, as where the file is read; or all
-- could be read, and 62 is given by the least rule that is broken, where the tables are declared as that version is.
abbrev pub IsReasonAs : ℕ → Database → OpenError → Type 0
IsReasonAs own db Memory = Unit {0}
IsReasonAs own db NotAShop = IsCauseAs own db NotAShop
IsReasonAs own db (Version version) = IsCauseAs own db (Version version)
IsReasonAs own db (Damaged rule) = IsCauseAs own db (Damaged rule) ⊎ (IsReadableAs own db × (db.schema ≡ schema_of_version own → IsDamagedAs own rule db.trees))
IsReasonAs own db Store = Unit {0}

-- where the shop's row tells another version than this program's, the tables are declared as that version is
abbrev pub IsDeclaredByVersion : Database → Type 0
IsDeclaredByVersion db = (version : ℕ) → IsCause db (Version (pos version)) → db.schema ≡ schema_of_version version

-- the error is the refusal of a file of an earlier version of ours
abbrev pub TellsEarlier : OpenError → Type 0
TellsEarlier error = (version : ℕ) × (1 ≤ version) × (version < this_version) × (error ≡ Version (pos version))

-- Why a file isn't brought to this program's version: for the reason that it isn't opened, which is another than an earlier version; or its
-- version is an earlier one, and it isn't opened as of that version.
abbrev pub IsUnmigrated : Database → OpenError → Type 0
IsUnmigrated db error =
    (IsReason db error × (¬ TellsEarlier error))
    ⊎ ((version : ℕ) × (1 ≤ version) × (version < this_version) × IsCause db (Version (pos version)) × IsReasonAs version db error)
