-- What a commit makes of a database.
use Rattle.std.specs.Prelude.{◌≡◌, ℕ, ◌+◌, List}
use Rattle.sqlite.specs.Effect.{Database}
use Rattle.file_schema.specs.Tables.{schema}
use Rattle.model_rows.specs.declared.changes.Change.{Change}
use Rattle.model_rows.specs.CountRows.{CountRows}
use Rattle.model_answers.specs.declared.kept.Kept.{Kept}
use Rattle.file_rows.specs.declared.rows.ShopRow.{ShopRow}
use Rattle.file_rows.specs.Tables.{Tables, Holds}
use Rattle.file_meaning.specs.Free.{IsFree}
use Rattle.file_meaning.specs.Made.{commit_made, next_after}

-- the database has a shop's tables; and whatever they held, if rows may be numbered from here on, they hold what is made of that
pub record Turns (from : ℕ) (change : Tables → Tables) (before after : Database) : Type 0 where
  pub known : after.schema ≡ schema
  pub holds : (t : Tables) → IsFree from t → Holds before.trees t → Holds after.trees (change t)

-- a commit makes all that it writes of it, with rows numbered from the first number on, and leaves the last one free
abbrev pub Commits : ShopRow → List Change → CountRows → ℕ → List Kept → ℕ → ℕ → Database → Database → Type 0
Commits shop changes counts from answers at free before after = (free ≡ next_after changes from + 1) × Turns from (commit_made shop changes counts from answers at) before after
