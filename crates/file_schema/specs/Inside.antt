-- What each function that is lent a transaction leaves of it.
use Rattle.std.specs.Prelude.{◌≡◌, ℕ, List, true, Result, Ok, IfOk}
use Rattle.std.specs.Borrow.{MutBor}
use Rattle.sqlite_value.specs.Order.{Row}
use Rattle.sqlite_schema.specs.declared.schema.Schema.{Schema}
use Rattle.sqlite_trees.specs.declared.store.Store.{Ghosts}
use Rattle.sqlite.specs.declared.transaction.Transaction.{Transaction}
use Rattle.sqlite.specs.Effect.{Database, IsDatabase}
use Rattle.sqlite.specs.Held.{Held, state}
use Rattle.sqlite.specs.State.{HasCleanDisk, Executes, KeepsCommit, Survives}

-- the transaction goes on over the connection that it had, and commits nothing
pub record StaysInside {S : Type 0} (g : Ghosts S) (old new : MutBor (Held S)) : Type 0 where
  -- the transaction still borrows that connection
  pub same : new.ghost_name ≡ old.ghost_name
  -- while the disk is clean, the last commit is what it was
  pub kept : HasCleanDisk (state g new.now) → KeepsCommit (state g old.now) (state g new.now)
  -- a crash leaves no more than it could have left before
  pub crash : Survives (state g old.now) (state g new.now) (λ _. ⊥)

-- while the disk is clean, a transaction that was open leaves the last commit as it was
abbrev pub KeepsCommitInside : {S : Type 0} → Ghosts S → Held S → Held S → Type 0
KeepsCommitInside g old new = HasCleanDisk (state g new) → (state g old).in_transaction ≡ true → KeepsCommit (state g old) (state g new)

-- while the disk is clean, and inside a transaction: where it is done, the text ran with these parameters, and wrote so many rows
abbrev pub RunsInside : {S E : Type 0} → Ghosts S → Transaction S → Transaction S → List ℕ → Row → Result ℕ E → Type 0
RunsInside g old new sql params result =
    HasCleanDisk (state g new.conn.now) → (state g old.conn.now).in_transaction ≡ true
    → IfOk result (λ count. Executes sql params (state g old.conn.now) (state g new.conn.now) (Ok count))

-- While the disk is clean, and inside a transaction that sees this schema, which the trees list: where it is done, the transaction goes on, and
-- the database is what is made of it with that answer, and the trees list its schema.
abbrev pub WritesOver : {S T E : Type 0} → Ghosts S → Transaction S → Transaction S → Schema → (T → Database → Database → Type 0) → Result T E → Type 0
WritesOver g old new over Turns result =
    HasCleanDisk (state g new.conn.now) → (state g old.conn.now).in_transaction ≡ true → (state g old.conn.now).now.schema ≡ over → IsDatabase (state g old.conn.now).now
    → IfOk result (λ answer. ((state g new.conn.now).in_transaction ≡ true) × Turns answer (state g old.conn.now).now (state g new.conn.now).now × IsDatabase (state g new.conn.now).now)
