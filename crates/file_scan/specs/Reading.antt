-- What reading a file answers, by what an open connection to it showed.
use Rattle.std.specs.Prelude.{◌≡◌, ◌⊎◌, ℕ, List, map, IsPermutation, Result, IfOk, IfErr, OnOk}
use Rattle.sqlite_value.specs.Order.{Row}
use Rattle.sqlite_trees.specs.Tree.{Trees}
use Rattle.sqlite_trees.specs.declared.store.Store.{Ghosts}
use Rattle.sqlite_schema.specs.declared.schema.Schema.{Schema}
use Rattle.sqlite.specs.Effect.{Database}
use Rattle.sqlite.specs.Held.{Held, state}
use Rattle.sqlite.specs.State.{HasCleanDisk, IsUnchanged}
use Rattle.file_schema.specs.Clean.{WhileClean}
use Rattle.file_schema.specs.Tables.{schema}
use Rattle.file_schema.specs.declared.error.RowError.{RowError}
use Rattle.file_rows.specs.declared.table_rows.TableRows.{TableRows}
use Rattle.file_reads.specs.Damage.{IsFor, IsDamaged}
use Rattle.file_reads.specs.Since.{IsSince}
use Rattle.file_reads.specs.Texts.{shop_text}
use Rattle.file_scan.specs.Rests.{IsOpenAt, OnlyReads, WhereShown}
use Rattle.file_scan.specs.Stopped.{IsStopped, WhereStopped}
use Rattle.file_scan.specs.Read.{HoldsVersion1, HoldsVersion2, HoldsVersion3}
use Rattle.file_scan.specs.Causes.{rows_at, ShowsBy, HasNoOtherVersion, HasTables, HasDamage}

-- this holds of what an open connection showed, if until now the disk returned what was written
abbrev pub OfOpen : {S : Type 0} → Ghosts S → Held S → Held S → (Database → Type 0) → Type 0
OfOpen g old new Holds = HasCleanDisk (state g new) → (db : Database) → IsOpenAt db (state g old) → Holds db

-- this holds of what an open connection showed of a file of this version or a later one of ours, if until now the disk returned what was
-- written
abbrev pub OfVersion : {S : Type 0} → ℕ → Ghosts S → Held S → Held S → (Database → Type 0) → Type 0
OfVersion since g old new Holds = OfOpen g old new (λ db. IsSince since db.schema → Holds db)

-- this holds of what an open connection showed of a file of this program's version, if until now the disk returned what was written
abbrev pub OfThisVersion : {S : Type 0} → Ghosts S → Held S → Held S → (Database → Type 0) → Type 0
OfThisVersion g old new Holds = OfOpen g old new (λ db. db.schema ≡ schema → Holds db)

-- where this holds of what was answered, nothing of the connection has changed
abbrev pub IsUnchangedWhere : {S : Type 0} → (Type 0 → Type 0) → Ghosts S → Held S → Held S → Type 0
IsUnchangedWhere told g old new = WhileClean g old new (λ before after. told (IsUnchanged before after))

-- a file of this version or a later one is refused for the store only where that stops
abbrev pub StopsAs : {S A E : Type 0} → (Type 0 → E → Type 0) → ℕ → Ghosts S → Held S → Held S → Result A E → Type 0
StopsAs told since g old new result = OfVersion since g old new (λ _. IfErr result (told (IsStopped (state g old) (state g new))))

-- rows that are answered are those of the file, if it has this version or a later one
abbrev pub Loads : {S A : Type 0} → ℕ → (Trees → A → Type 0) → Ghosts S → Held S → Held S → Result A RowError → Type 0
Loads since are_in g old new result = OfVersion since g old new (λ db. IfOk result (are_in db.trees))

-- where rows were shown the file has their tables
abbrev pub FindsTables : {S A : Type 0} → (Schema → Type 0) → Ghosts S → Held S → Held S → Result A RowError → Type 0
FindsTables has g old new result = OfOpen g old new (λ db. WhereShown result (has db.schema))

-- 60 is told where the file lacks a table, 62 where a row of one that has this version or a later one is damaged
abbrev pub RefusesFor : {S A : Type 0} → (Schema → Type 0) → ℕ → (Trees → Type 0) → Ghosts S → Held S → Held S → Result A RowError → Type 0
RefusesFor lacks since is_damaged g old new result = OfOpen g old new (λ db. IfErr result (IsFor (lacks db.schema) (IsSince since db.schema → is_damaged db.trees)))

-- a refusal is told of what an open connection showed for this reason
abbrev pub TellsCause : {S A E : Type 0} → (Database → E → Type 0) → Ghosts S → Held S → Held S → Result A E → Type 0
TellsCause Why g old new result = OfOpen g old new (λ db. IfErr result (Why db))

-- where nothing is refused, this holds of what an open connection showed
abbrev pub FindsFile : {S A E : Type 0} → (Database → Type 0) → Ghosts S → Held S → Held S → Result A E → Type 0
FindsFile Holds g old new result = OfOpen g old new (λ db. OnOk result (Holds db))

-- ---- one table

-- the trees show these rows of a table, in some order
abbrev pub HoldsTable : {T : Type 0} → (T → Row) → ℕ → Trees → List T → Type 0
HoldsTable as_row tree trees rows = IsPermutation (map as_row rows) (rows_at trees tree)

-- a row that they show of it is of no value within its limits
abbrev pub IsDamagedTable : {T : Type 0} → (T → Row) → (T → Type 0) → ℕ → Trees → Type 0
IsDamagedTable as_row fits tree trees = IsDamaged as_row fits (rows_at trees tree)

-- ---- tables one after another

-- What a call tells that reads tables which files have since this version: the rows, which are in the trees so and whose values fit; that a file
-- has these tables, or lacks one; and that a row is damaged.
pub record ReadsTables {S A : Type 0} (since : ℕ) (is_in : Trees → A → Type 0) (fits : A → Type 0) (has lacks : Schema → Type 0) (is_damaged : Trees → Type 0) (g : Ghosts S) (old new : Held S) (result : Result A RowError) : Type 0 where
  -- rows that are answered are those of the file
  pub loaded : Loads since is_in g old new result
  -- their values are within their limits
  pub limits : IfOk result fits
  -- where rows were shown the file has the tables
  pub found : FindsTables has g old new result
  -- 60 and 62 are told for their causes
  pub refused : RefusesFor lacks since is_damaged g old new result
  -- 63 is told only where the store stops
  pub store : StopsAs WhereStopped since g old new result
  -- where rows were shown nothing of the connection has changed
  pub same : IsUnchangedWhere (WhereShown result) g old new
  -- the connection is only read
  pub only : OnlyReads g old new

-- this holds of the first of two, and that of the second
abbrev pub OfBoth : {A B : Type 0} → (A → Type 0) → (B → Type 0) → A × B → Type 0
OfBoth first second both = first both.0 × second both.1

-- both hold of it
abbrev pub Both : {T : Type 0} → (T → Type 0) → (T → Type 0) → T → Type 0
Both first second it = first it × second it

-- the first holds of it, or the second does
abbrev pub Either : {T : Type 0} → (T → Type 0) → (T → Type 0) → T → Type 0
Either first second it = first it ⊎ second it

-- ---- the rows of the tables of the first two versions, and of all three

-- the trees show the rows of the tables of the first two versions
abbrev pub HoldsTwo : Trees → TableRows → Type 0
HoldsTwo trees rows = HoldsVersion1 trees rows × HoldsVersion2 trees rows.catalogue.releases.items rows.others.exits.items

-- they show those of all three
abbrev pub HoldsThree : Trees → TableRows → Type 0
HoldsThree trees rows = HoldsVersion1 trees rows × (HoldsVersion2 trees rows.catalogue.releases.items rows.others.exits.items × HoldsVersion3 trees rows.sales.budgets.items rows.others.spents.items rows.sales.discounts.items)

-- ---- the table `shop`

-- this holds of each file with these rows of the shop and all tables of this version
abbrev pub OfShop : ℕ → List Row → (Database → Type 0) → Type 0
OfShop own rows holds = (db : Database) → ShowsBy shop_text db rows → HasNoOtherVersion own rows → HasTables own db.schema → holds db

-- a row of a file of this version or a later one is of no value within its limits
abbrev pub HasDamageSince : ℕ → Database → Type 0
HasDamageSince own db = IsSince own db.schema → HasDamage own db.trees
