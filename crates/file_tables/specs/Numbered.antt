-- What a write makes of a shop's tables inside a transaction, where rows without an id of their own are numbered on from a number.
use Rattle.std.specs.Prelude.{ℕ, Result}
use Rattle.sqlite_trees.specs.declared.store.Store.{Ghosts}
use Rattle.sqlite.specs.declared.transaction.Transaction.{Transaction}
use Rattle.model_rows.specs.declared.changes.Change.{Change}
use Rattle.file_rows.specs.Changes.{ChangesFit}
use Rattle.file_rows.specs.Tables.{Tables}
use Rattle.file_rows.specs.Written.{NumbersInside}
use Rattle.file_meaning.specs.Free.{IsFree}
use Rattle.file_meaning.specs.Made.{made_by, next_by}

-- of tables where rows may be numbered from the one number on it makes this, and it answers the other: from there they may be numbered next
abbrev pub NumbersOn : {S E : Type 0} → Ghosts S → Transaction S → Transaction S → ℕ → (Tables → Tables) → ℕ → Result ℕ E → Type 0
NumbersOn g old new from change next result = NumbersInside g old new (ChangesFit (IsFree from) change) next result

-- a write of a change of a row stays inside the transaction, and answers the next number of a row
abbrev pub WritesChange : {S E : Type 0} → Ghosts S → Transaction S → Transaction S → Change → ℕ → Result ℕ E → Type 0
WritesChange g old new change from result = NumbersOn g old new from (made_by change from) (next_by change from) result
