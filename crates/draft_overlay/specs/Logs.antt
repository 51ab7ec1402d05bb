-- A log of changes over the rows of a book, and which changes a sale makes.
use Rattle.std.specs.Prelude.{◌≡◌, ℕ, List, [], ◌∷◌, ◌++◌, take, None}
use Rattle.model_rows.specs.declared.changes.Change.{Change}
use Rattle.model_rows.specs.declared.changes.Change.TheVariants.{PutItem, PutVariation, PutQuota, PutPosition, PutCheckin}
use Rattle.model_rows.specs.Lists.{Lists, position_at, checkin_at}
use Rattle.model_rows.specs.Change.{after_change, after_all}

-- the rows in the book, and the changes since
pub record Log : Type 0 where
  pub base : Lists
  pub changes : List Change

-- the rows with the changes
abbrev pub rows_of : Log → Lists
rows_of log = after_all log.changes log.base

-- the log with one more change
abbrev pub log_with : Change → Log → Log
log_with change log = record log { changes = log.changes ++ change ∷ [] }

-- the rows after the first changes
abbrev pub rows_at : ℕ → Log → Lists
rows_at count log = after_all (take count log.changes) log.base

-- a change of sales, where an order position is a new one, and a check-in too
abbrev pub IsSale : Change → Lists → Type 0
IsSale (PutItem row) lists = ⊥
IsSale (PutVariation row) lists = ⊥
IsSale (PutQuota row) lists = ⊥
IsSale (PutPosition row) lists = position_at row.id lists ≡ None
IsSale (PutCheckin row) lists = checkin_at row.id lists ≡ None
IsSale _ lists = Unit {0}

-- each of these changes, one after another
abbrev pub AreSales : List Change → Lists → Type 0
AreSales [] lists = Unit {0}
AreSales (change ∷ changes) lists = IsSale change lists × AreSales changes (after_change change lists)
