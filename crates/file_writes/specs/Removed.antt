-- What is removed by another column than the row's number, which tells rows from one another.
use Rattle.std.specs.Prelude.{◌≡◌, ℕ, pos, ◌==◌, not, false, List, [], ◌∷◌, filter, map}
use Rattle.std.specs.List.{list_any}
use Rattle.sqlite_value.specs.declared.value.Value.TheVariants.{Int}
use Rattle.sqlite_value.specs.Order.{Row}
use Rattle.sqlite_trees.specs.Tree.{rowid}
use Rattle.sqlite_sql.specs.Term.{col}
use Rattle.sqlite_schema.specs.declared.schema.Table.{Table}
use Rattle.sqlite_schema.specs.declared.command.Command.TheVariants.{Delete}
use Rattle.model_answers.specs.KeptAnswers.{lasts}
use Rattle.file_schema.specs.Tables.{schema}
use Rattle.file_schema.specs.Plain.{IsPlainTable}
use Rattle.file_schema.specs.Parts.{with_rows}
use Rattle.file_schema.specs.Shapes.{AsksFor, over, plainly, by_owner}
use Rattle.file_rows.specs.Owned.{AreOwned}
use Rattle.file_rows.specs.Tables.{Tables, parts}

-- no two rows have the same number
abbrev pub AreApart : {A : Type 0} → (A → ℕ) → List A → Type 0
AreApart number [] = Unit {0}
AreApart number (x ∷ xs) = (list_any (λ y. number x == number y) xs ≡ false) × AreApart number xs

-- the answers that still last at a moment stay
abbrev pub without_past : ℕ → Tables → Tables
without_past at t = record t { kept = filter (λ r. lasts at r.kept.at) t.kept }

-- the rows of other owners stay
abbrev pub of_others : {A : Type 0} → (A → ℕ) → ℕ → List A → List A
of_others owner id rows = filter (λ r. not (owner r == id)) rows

-- over a shop's tables the text removes those rows of a table whose owner is the parameter
pub record IsDeleteByOwner (sql : List ℕ) {A : Type 0} (row : A → Row) (number owner : A → ℕ) (rows : Tables → List A) (put : List A → Tables → Tables) : Type 0 where
  pub at : ℕ
  pub table : Table
  pub plain : IsPlainTable schema at table
  pub asks : AsksFor (Delete at (plainly (over table.tree by_owner (col 1 0 ∷ []) []))) sql
  -- the table holds these rows, each by its number, with the owner in the column behind it
  pub owned : AreOwned table.tree row owner rows
  pub numbered : (w : A) → rowid (row w) ≡ Int (pos (number w))
  pub puts : (xs : List A) (t : Tables) → parts (put xs t) ≡ with_rows table.tree (λ _. map row xs) (parts t)
