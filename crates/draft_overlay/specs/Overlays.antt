-- What is known of the rows of a book with changes.
use Rattle.std.specs.Prelude.{◌≡◌, ℕ, ◌≤◌, List, length}
use Rattle.model_rows.specs.declared.changes.Change.{Change}
use Rattle.model_rows.specs.Lists.{Lists}
use Rattle.book_log.specs.Keys.{code_keys}
use Rattle.draft_overlay.specs.Limits.{most_changes}
use Rattle.draft_overlay.specs.Logs.{AreSales}

-- the changes are of sales, with their keys, and they can be counted
pub record IsOverlay (base : Lists) (log : List Change) (codes : List ℕ) : Type 0 where
  pub few : length log ≤ most_changes
  pub sales : AreSales log base
  pub codes_are : codes ≡ code_keys log
