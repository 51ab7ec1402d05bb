-- Rows that have an owner.
use Rattle.std.specs.Prelude.{◌≡◌, ℕ, pos, List, map, IsPermutation}
use Rattle.sqlite_value.specs.declared.value.Value.TheVariants.{Int}
use Rattle.sqlite_value.specs.Order.{Row, column}
use Rattle.sqlite_trees.specs.Tree.{Trees}
use Rattle.file_schema.specs.Tables.{schema}
use Rattle.file_schema.specs.Parts.{row_shown}
use Rattle.file_rows.specs.Tables.{Tables, Holds}

-- the tree holds these rows, each with its owner in the column behind the number
pub record AreOwned (tree : ℕ) {A : Type 0} (row : A → Row) (owner : A → ℕ) (rows : Tables → List A) : Type 0 where
  pub holds : (db : Trees) (t : Tables) → Holds db t → IsPermutation (map row (rows t)) (map (row_shown schema tree) (db tree))
  pub begins : (r : Row) → column (row_shown schema tree r) 1 ≡ column r 1
  pub owned : (w : A) → column (row w) 1 ≡ Int (pos (owner w))
