-- What the statements are that put and remove the rows of a table.
use Rattle.std.specs.Prelude.{◌≡◌, ℕ, ◌/◌, true, List, [], ◌∷◌, All, IsPermutation, length, map, pos}
use Rattle.sqlite_value.specs.declared.value.Value.TheVariants.{Int}
use Rattle.sqlite_value.specs.Order.{Row}
use Rattle.sqlite_trees.specs.Tree.{Trees, rowid}
use Rattle.sqlite_trees.specs.View.{is_int}
use Rattle.sqlite_schema.specs.declared.schema.Table.{Table}
use Rattle.sqlite_schema.specs.declared.command.Command.TheVariants.{Insert, Update}
use Rattle.sqlite_schema.specs.declared.command.Source.TheVariants.{Values}
use Rattle.sqlite_sql.specs.Term.{Term, col, eval_all}
use Rattle.sqlite_rules.specs.Cast.{cast_row}
use Rattle.sqlite.specs.Effect.{value_rows}
use Rattle.file_schema.specs.Tables.{schema}
use Rattle.file_schema.specs.Plain.{IsPlainTable}
use Rattle.file_schema.specs.Parts.{row_shown, with_rows, without}
use Rattle.file_schema.specs.Shapes.{AsksFor, over, plainly, equals, delete_keyed}
use Rattle.file_rows.specs.Tables.{Tables, parts, Holds}

-- the plain table at this place of the schema shows these rows, each by its number
pub record IsTableOf (at : ℕ) (table : Table) (rows : Tables → List Row) : Type 0 where
  pub plain : IsPlainTable schema at table
  pub holds : (db : Trees) (t : Tables) → Holds db t → IsPermutation (rows t) (map (row_shown schema table.tree) (db table.tree))
  pub numbered : (t : Tables) → All (λ r. is_int (rowid r) ≡ true) (rows t)

-- INSERT puts a row of all its columns, UPDATE sets all of the row with its number, and DELETE takes the row of a number
pub record AreStatementsOf {A : Type 0} (row : A → Row) (key : A → ℕ) (with_row : A → Tables → Tables) (without_row : ℕ → Tables → Tables) (insert update remove : List ℕ) : Type 0 where
  pub at : ℕ
  pub table : Table
  pub rows : Tables → List Row
  pub is : IsTableOf at table rows
  -- a row more, and no row of a number
  pub adds : (w : A) (t : Tables) → parts (with_row w t) ≡ with_rows table.tree (λ rows. row w ∷ rows) (parts t)
  pub takes : (id : ℕ) (t : Tables) → parts (without_row id t) ≡ with_rows table.tree (without (pos id)) (parts t)
  -- the number stands first; behind it are the columns as they are stored, which no type turns into others
  pub behind : A → Row
  pub begins : (w : A) → (more : Row) × (row w ≡ Int (pos (key w)) ∷ more)
  pub stays : (w : A) → cast_row table (Int (pos (key w)) ∷ behind w) ≡ Int (pos (key w)) ∷ behind w
  pub shows : (w : A) → row_shown schema table.tree (Int (pos (key w)) ∷ behind w) ≡ row w
  -- INSERT
  pub terms : List Term
  pub width : ℕ
  pub inserts : AsksFor (Insert at (Values terms width)) insert
  pub fills : (w : A) → value_rows (row w) width (length terms / width) terms ≡ (Int (pos (key w)) ∷ behind w) ∷ []
  -- UPDATE
  pub project : List Term
  pub updates : AsksFor (Update at (plainly (over table.tree (equals (col 1 0) (col 0 0) ∷ []) project []))) update
  pub sets : (w : A) (r : Row) → eval_all project (row w ∷ r ∷ []) ≡ rowid r ∷ rowid r ∷ behind w
  -- DELETE
  pub removes : AsksFor (delete_keyed at table.tree) remove
