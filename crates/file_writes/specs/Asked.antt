-- What the texts of a described table ask for, and what they make of the tables of a shop.
use Rattle.std.specs.Prelude.{◌≡◌, ℕ, ◌+◌, ◌/◌, true, List, [], ◌∷◌, Option, Some, None, All, length, map, drop, pos, slice_get}
use Rattle.sqlite_value.specs.declared.value.Value.TheVariants.{Null, Int}
use Rattle.sqlite_value.specs.Order.{Row}
use Rattle.sqlite_trees.specs.Tree.{rowid}
use Rattle.sqlite_trees.specs.View.{is_int}
use Rattle.sqlite_schema.specs.declared.command.Command.{Command}
use Rattle.sqlite_schema.specs.declared.command.Command.TheVariants.{Insert, Update}
use Rattle.sqlite_schema.specs.declared.command.Source.TheVariants.{Values}
use Rattle.sqlite_sql.specs.Term.{Term, lit, col, eval_all}
use Rattle.sqlite_rules.specs.Cast.{cast_row}
use Rattle.sqlite.specs.Effect.{value_rows}
use Rattle.file_schema.specs.Tables.{schema}
use Rattle.file_schema.specs.Plain.{IsPlainTable}
use Rattle.file_schema.specs.Parts.{row_shown, with_rows, without}
use Rattle.file_schema.specs.Shapes.{AsksFor, places, over, plainly, equals, delete_keyed}
use Rattle.file_rows.specs.Tables.{Tables, parts}
use Rattle.file_schema.specs.Described.{Described, table_of, insert_text, update_text, delete_text}

-- the parameters as a row: the number, and then the columns; of a table with an INTEGER PRIMARY KEY the first column is stored as NULL
abbrev behind_number : Option (List ℕ × Option (List ℕ)) → List Term → List Term
behind_number None others = others
behind_number (Some k) others = lit Null ∷ others

-- the parameters that are stored behind the number
abbrev pub given_terms : Described → List Term
given_terms d = behind_number d.key (map (col 0) (places 1 (length d.fields)))

-- how many values a row has that is put
abbrev pub width_of : Described → ℕ
width_of d = length (given_terms d) + 1

-- INSERT of all columns
abbrev pub insert_of : Described → ℕ → Command
insert_of d at = Insert at (Values (col 0 0 ∷ given_terms d) (width_of d))

-- what UPDATE makes of a row: its number, and all parameters behind it
abbrev pub update_terms : Described → List Term
update_terms d = col 1 0 ∷ col 1 0 ∷ given_terms d

-- UPDATE of all columns of the row that has the number
abbrev pub update_of : Described → ℕ → Command
update_of d at = Update at (plainly (over d.tree (equals (col 1 0) (col 0 0) ∷ []) (update_terms d) []))

-- over a shop's tables each text asks for its command, at this place of the schema
pub record IsAsked (d : Described) (at : ℕ) : Type 0 where
  pub plain : IsPlainTable schema at (table_of d)
  pub inserts : AsksFor (insert_of d at) (insert_text d)
  pub updates : AsksFor (update_of d at) (update_text d)
  pub removes : AsksFor (delete_keyed at d.tree) (delete_text d)

-- a row as it is stored behind its number
abbrev pub stored_in : Option (List ℕ × Option (List ℕ)) → Row → Row
stored_in None cells = cells
stored_in (Some k) cells = Null ∷ cells

-- Rows of a type stand in the table: each begins with its number, no column turns it into another, and the tables of a shop with such a row
-- more, and without the row of a number, are those of which the others show what they showed.
pub record AreKept (d : Described) (at : ℕ) {A : Type 0} (row : A → Row) (key : A → ℕ) (with_row : A → Tables → Tables) (without_row : ℕ → Tables → Tables) : Type 0 where
  pub rows : Tables → List Row
  pub stands : (t : Tables) → slice_get (parts t) at ≡ Some (record { tree = d.tree; rows = rows t })
  pub numbered : (t : Tables) → All (λ r. is_int (rowid r) ≡ true) (rows t)
  pub adds : (w : A) (t : Tables) → parts (with_row w t) ≡ with_rows d.tree (λ rows. row w ∷ rows) (parts t)
  pub takes : (id : ℕ) (t : Tables) → parts (without_row id t) ≡ with_rows d.tree (without (pos id)) (parts t)
  pub begins : (w : A) → row w ≡ Int (pos (key w)) ∷ drop 1 (row w)
  pub stays : (w : A) → cast_row (table_of d) (Int (pos (key w)) ∷ stored_in d.key (drop 1 (row w))) ≡ Int (pos (key w)) ∷ stored_in d.key (drop 1 (row w))
  pub shows : (w : A) → row_shown schema d.tree (Int (pos (key w)) ∷ stored_in d.key (drop 1 (row w))) ≡ row w
  pub fills : (w : A) → value_rows (row w) (width_of d) (length (col 0 0 ∷ given_terms d) / width_of d) (col 0 0 ∷ given_terms d) ≡ (Int (pos (key w)) ∷ stored_in d.key (drop 1 (row w))) ∷ []
  pub sets : (w : A) (r : Row) → eval_all (given_terms d) (row w ∷ r ∷ []) ≡ stored_in d.key (drop 1 (row w))
