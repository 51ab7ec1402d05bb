-- What the SELECTs of all columns of a table are: of all its rows, or of those that are looked up.
use Rattle.std.specs.Prelude.{◌≡◌, ℕ, List, [], ◌∷◌, Some, false}
use Rattle.sqlite_value.specs.declared.keys.Key.{Key}
use Rattle.sqlite_value.specs.Order.{Row}
use Rattle.sqlite_sql.specs.Term.{Term, eval_all}
use Rattle.sqlite_schema.specs.declared.command.Command.{Command}
use Rattle.sqlite_schema.specs.declared.command.Command.TheVariants.{Select}
use Rattle.sqlite_schema.specs.declared.schema.Schema.{Schema}
use Rattle.sqlite.specs.Given.{IsPlain}
use Rattle.sqlite.specs.Listing.{understood, reads_listing}
use Rattle.file_schema.specs.Tables.{schema}
use Rattle.file_schema.specs.Parts.{row_shown}
use Rattle.file_schema.specs.Shapes.{command_in, over, plainly, by_owner}
use Rattle.file_rows.specs.Owned.{AreOwned}
use Rattle.file_rows.specs.Tables.{Tables}
use Rattle.file_reads.specs.Damage.{IsForReading}
use Rattle.file_reads.specs.Since.{IsSince}

-- over tables of this schema the text asks for this command alone: nothing is returned, and the time isn't read
abbrev pub AsksForIn : Schema → Command → List ℕ → Type 0
AsksForIn s command sql = (command_in (understood s sql) ≡ Some command) × IsPlain (understood s sql)

-- Over tables of this schema the text is a SELECT of the rows of this tree that pass a test, each as its table shows it; over any tables it
-- only reads.
pub record IsSelectIn (s : Schema) (sql : List ℕ) (tree : ℕ) (test : List Term) : Type 0 where
  pub project : List Term
  pub order : List (Term × Key)
  pub names : List (List ℕ)
  pub asks : AsksForIn s (Select (plainly (over tree test project order)) names) sql
  pub unlisted : reads_listing s sql ≡ false
  pub shows : (params r : Row) → eval_all project (params ∷ r ∷ []) ≡ row_shown schema tree r
  pub reads : (any : Schema) → IsForReading any sql

-- over a shop's tables
abbrev pub IsSelect : List ℕ → ℕ → List Term → Type 0
IsSelect sql tree test = IsSelectIn schema sql tree test

-- over those of each version from this one on
abbrev pub IsSelectSince : ℕ → List ℕ → ℕ → List Term → Type 0
IsSelectSince first sql tree test = (s : Schema) → IsSince first s → IsSelectIn s sql tree test

-- the rows are those whose owner is the parameter; no two values have the same one
pub record IsSelectByOwner (sql : List ℕ) (tree : ℕ) {A : Type 0} (row : A → Row) (owner : A → ℕ) (rows : Tables → List A) : Type 0 where
  pub select : IsSelect sql tree by_owner
  pub owned : AreOwned tree row owner rows
  pub back : Row → A
  pub told : (w : A) → back (row w) ≡ w
