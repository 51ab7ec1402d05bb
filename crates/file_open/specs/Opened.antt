-- A shop's file that was opened, and what is wrong with one that isn't.
use Rattle.std.specs.Prelude.{◌≡◌, ◌⊎◌, ℕ, ◌<◌, ◌≤◌, List, IsTrue, map, Result, IfOk, IfErr}
use Rattle.sqlite_trees.specs.Tree.{Trees}
use Rattle.sqlite_trees.specs.declared.store.Store.{Ghosts}
use Rattle.sqlite.specs.Effect.{Database}
use Rattle.sqlite.specs.Held.{Held, state}
use Rattle.sqlite.specs.State.{State as Connected, IsUnchanged}
use Rattle.file_schema.specs.Clean.{LeavesNoMore, WhileClean}
use Rattle.file_schema.specs.Tables.{schema, this_version}
use Rattle.model_rows.specs.Lists.{State}
use Rattle.file_rows.specs.declared.rows.ShopRow.{ShopRow}
use Rattle.file_rows.specs.declared.rows.Token.{Token}
use Rattle.file_rows.specs.Tables.{Tables, Holds}
use Rattle.model_invariant.specs.Sound.{IsSound}
use Rattle.model_answers.specs.declared.kept.Kept.{Kept}
use Rattle.model_answers.specs.ShopView.{ShopView, IsSame}
use Rattle.file_meaning.specs.Free.{IsFree}
use Rattle.file_meaning.specs.Rows.{OfficeRows}
use Rattle.file_meaning.specs.Stands.{AreRowsOf, Stand}
use Rattle.file_meaning.specs.Typed.{AreBelowNext, IsTypedShop}
use Rattle.model_damage.specs.declared.rule.Rule.{Rule}
use Rattle.model_damage.specs.declared.rule.Rule.TheVariants as rules
use Rattle.model_damage.specs.Numbers.{number}
use Rattle.model_damage.specs.Rules.{File, Keeps}
use Rattle.file_scan.specs.declared.error.OpenError.{OpenError}
use Rattle.file_scan.specs.declared.error.OpenError.TheVariants.{Memory, NotAShop, Version, Damaged, Store}
use Rattle.file_scan.specs.declared.file.FileTables.{FileTables}
use Rattle.file_scan.specs.Causes.{IsReadable, IsCause}
use Rattle.file_scan.specs.Lawful.{IsOfMachine}
use Rattle.file_scan.specs.Read.{tables_of}
use Rattle.file_scan.specs.Reading.{OfOpen, OfThisVersion}
use Rattle.file_scan.specs.Rests.{Rests}
use Rattle.file_scan.specs.Stopped.{IsStopped, WhereClosed}
use Rattle.file_scan.specs.Numbers.{Rise}
use Rattle.file_rows.specs.declared.table_rows.TableRows.{TableRows}
use Rattle.file_rebuild.specs.Arranged.{file_arranged, rows_in, ArePaired, AreReadInOrder}
use Rattle.office_commands.specs.OfficeView.{OfficeView}
use Rattle.file_tables.specs.declared.error.HandedBack.{HandedBack}
use Rattle.file_tables.specs.declared.sql.SqlTables.{SqlTables}
use Rattle.file_tables.specs.Shops.{HoldsWhileOpen, IsOfHouse, Leaves, house_of_rows}

-- ---- what tables hold

-- the answers that stand in these tables
abbrev pub answers_in : Tables → List Kept
answers_in t = map (λ r. r.kept) t.kept

-- the shop of this office with the answers of these tables
abbrev pub shop_in : State → Tables → ShopView
shop_in office t = record { state = office; kept = answers_in t }

-- ---- what is wrong

-- the rows without an id of their own rise by their numbers
abbrev pub RowsRise : TableRows → Type 0
RowsRise rows =
    Rise (map (λ r. r.rowid) rows.catalogue.quota_items.items) × Rise (map (λ r. r.rowid) rows.catalogue.quota_variations.items) × Rise (map (λ r. r.rowid) rows.doors.list_items.items)
    × Rise (map (λ r. r.rowid) rows.others.kept.items)

-- the rows keep the rule; to that of ids it belongs that each token's is below the next one, to that of names that each member of a
-- quota or a check-in list is of one that stands, and so is each budget and discount, and to that of counters that each count has its exits
-- and each voucher what is spent of it, and no other has any
abbrev pub KeepsIn : ShopRow → List Token → OfficeRows → Type 0 → File → Rule → Type 0
KeepsIn shop tokens rows paired file rules.Ids = AreBelowNext shop tokens × Keeps rules.Ids file
KeepsIn shop tokens rows paired file rules.Names = AreRowsOf file.state.lists rows × Keeps rules.Names file
KeepsIn shop tokens rows paired file rules.Counters = paired × Keeps rules.Counters file
KeepsIn shop tokens rows paired file rule = Keeps rule file

-- all rules before it are kept, and it isn't
pub record IsLeastIn (shop : ShopRow) (tokens : List Token) (rows : OfficeRows) (paired : Type 0) (file : File) (rule : Rule) : Type 0 where
  pub before : (other : Rule) → number other < number rule → KeepsIn shop tokens rows paired file other
  pub broken : ¬ KeepsIn shop tokens rows paired file rule

-- the least rule that what was read breaks
abbrev pub IsLeastOf : FileTables → Rule → Type 0
IsLeastOf read rule = IsLeastIn read.shop read.tables.others.tokens.items (rows_in read.tables) (ArePaired read.tables) (file_arranged read.shop read.tables) rule

-- what trees show was read, and of the rows by id it is the least rule that is broken
pub record IsDamagedBy (rule : Rule) (db : Trees) : Type 0 where
  pub read : FileTables
  pub held : Holds db (tables_of read)
  pub order : AreReadInOrder read.shop read.tables
  pub least : IsLeastOf read rule

-- Why each refusal is told: 60, 61, and 62 by the first two rules, as where the file is read; or all could be read, and 62 is told by the
-- least rule that the rows by id break, where the tables are declared as ours.
abbrev pub IsReason : Database → OpenError → Type 0
IsReason db Memory = Unit {0}
IsReason db NotAShop = IsCause db NotAShop
IsReason db (Version version) = IsCause db (Version version)
IsReason db (Damaged rule) = IsCause db (Damaged rule) ⊎ (IsReadable db × (db.schema ≡ schema → IsDamagedBy rule db.trees))
IsReason db Store = Unit {0}

-- Why 63 is told of a file whose tables are declared as ours: a transaction is open, or the store stops; or all of it could be read, and
-- not in order. So a value that can't be read is told, unless a call of the store was refused.
abbrev pub IsWithheld : Database → Connected → Connected → Type 0
IsWithheld db old new = IsTrue old.in_transaction ⊎ (IsStopped old new ⊎ IsReadable db)

-- a file of this database is refused for want of memory or because the store fails, and never with 60, 61 or 62
abbrev pub IsFaultless : Database → Type 0
IsFaultless db = (error : OpenError) → IsReason db error → IsOfMachine error

-- ---- what was opened

-- organizer and event are the names that the shop's row tells
abbrev pub AreNamesOf : ShopRow → List ℕ → List ℕ → Type 0
AreNamesOf head organizer event = (organizer ≡ head.organizer) × (event ≡ head.event)

-- The trees hold tables, whose shop's row is this one; they hold the office with all answers that stand in them. All values are what their
-- types promise, the numbers of tokens are below the next one, and the house is known that the shop's row and the tokens tell, in whatever
-- order they are listed. Rows are numbered on from the least number that is free. And a crash leaves nothing else.
pub record IsOpened (db : Trees) (head : ShopRow) (next : ℕ) (office : State) (new : Connected) : Type 0 where
  pub tables : Tables
  pub held : Holds db tables
  pub stand : Stand head tables office (answers_in tables)
  pub holds : HoldsWhileOpen head next new office (answers_in tables)
  pub typed : IsTypedShop head tables
  pub least : (number : ℕ) → IsFree number tables → next ≤ number
  pub knows : (same : Tables) → Holds db same → IsOfHouse head next new (house_of_rows head same.tokens)
  pub leaves : (left : ShopView) → Leaves new left → IsSame left (shop_in office tables)

-- ---- what opening a file answers

-- What opening a file answers: tables with an office, or a connection that is handed back with an error. What is said of the file holds where the
-- connection that was given showed it open and committed, over a disk that returned what was written.
pub record OpensFile {S B : Type 0} (g : Ghosts S) (given : Held S) (result : Result (SqlTables S × OfficeView B) (HandedBack S OpenError)) : Type 0 where
  -- the office is the one that the tables of the file hold
  pub opened : IfOk result (λ it. OfThisVersion g given it.0.connection (λ db. IsOpened db.trees it.0.head it.0.next_row it.1.state (state g it.0.connection)))
  -- the office has the names of the shop's row, which is of this version
  pub names : IfOk result (λ it. AreNamesOf it.0.head it.1.organizer it.1.event)
  pub version : IfOk result (λ it. it.0.head.version ≡ this_version)
  pub sound : IfOk result (λ it. IsSound it.1.state)
  -- neither 60, 61 nor 62 has a cause in the file
  pub found : IfOk result (λ it. OfOpen g given it.0.connection IsReadable)
  pub whole : IfOk result (λ it. OfThisVersion g given it.0.connection IsFaultless)
  -- a refusal is told for its reason, and 63 in the place of no other
  pub cause : IfErr result (λ it. OfOpen g given it.connection (λ db. IsReason db it.error))
  pub store : IfErr result (λ it. OfThisVersion g given it.connection (λ db. WhereClosed (IsWithheld db (state g given) (state g it.connection)) it.error))
  -- nothing in the file changes
  pub same : IfOk result (λ it. WhileClean g given it.0.connection IsUnchanged)
  pub rests : IfOk result (λ it. Rests (state g given) (state g it.0.connection))
  pub rests_none : IfErr result (λ it. Rests (state g given) (state g it.connection))
  -- a crash leaves what stood
  pub crash : IfOk result (λ it. LeavesNoMore g given it.0.connection)
  pub crash_none : IfErr result (λ it. LeavesNoMore g given it.connection)
