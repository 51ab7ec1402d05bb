-- What a function that is lent a transaction over a shop's tables makes of them.
use Rattle.std.specs.Prelude.{◌≡◌, ℕ, Result, IfOk, OnOk}
use Rattle.sqlite_trees.specs.declared.store.Store.{Ghosts}
use Rattle.sqlite.specs.declared.transaction.Transaction.{Transaction}
use Rattle.sqlite.specs.Held.{state}
use Rattle.sqlite.specs.State.{State, HasCleanDisk}
use Rattle.file_schema.specs.Inside.{StaysInside}
use Rattle.file_rows.specs.Changes.{IsInside}

-- while the disk is clean, and inside a transaction over a shop's tables: this holds of the connection before and after
abbrev pub WhileInside : {S : Type 0} → Ghosts S → Transaction S → Transaction S → (State → State → Type 0) → Type 0
WhileInside g old new Relates = HasCleanDisk (state g new.conn.now) → IsInside (state g old.conn.now) → Relates (state g old.conn.now) (state g new.conn.now)

-- a write stays inside the transaction, and where it is done, this holds of the connection before and after
pub record WritesInside {S T E : Type 0} (g : Ghosts S) (old new : Transaction S) (Relates : State → State → Type 0) (result : Result T E) : Type 0 where
  pub inside : StaysInside g old.conn new.conn
  pub written : WhileInside g old new (λ a b. OnOk result (Relates a b))

-- a write stays inside the transaction, and answers this number: rows that have none are numbered on from there
pub record NumbersInside {S E : Type 0} (g : Ghosts S) (old new : Transaction S) (Relates : State → State → Type 0) (next : ℕ) (result : Result ℕ E) : Type 0 where
  pub inside : StaysInside g old.conn new.conn
  pub written : WhileInside g old new (λ a b. IfOk result (λ free. (free ≡ next) × Relates a b))
