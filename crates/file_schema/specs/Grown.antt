-- Tables that are made beside those that stand.
use Rattle.std.specs.Prelude.{◌≡◌, true, [], length, drop, Result, OnOk}
use Rattle.std.specs.List.{AllByRecursion}
use Rattle.sqlite_schema.specs.declared.schema.Schema.{Schema}
use Rattle.sqlite_schema.specs.declared.schema.Table.{Table}
use Rattle.sqlite_trees.specs.declared.store.Store.{Ghosts}
use Rattle.sqlite.specs.declared.transaction.Transaction.{Transaction}
use Rattle.sqlite.specs.Effect.{IsDatabase}
use Rattle.sqlite.specs.Held.{state}
use Rattle.sqlite.specs.State.{State, HasCleanDisk}

-- a transaction that sees this schema, which its trees list
pub record IsInsideOver (schema : Schema) (s : State) : Type 0 where
  pub known : s.now.schema ≡ schema
  pub inside : s.in_transaction ≡ true
  pub listed : IsDatabase s.now

-- Inside a transaction that saw the first schema it sees the next one, whose first tables are those of the first. Each of them has the rows
-- that it had, and the new ones have none.
pub record Grows (first next : Schema) (old new : State) : Type 0 where
  pub known : new.now.schema ≡ next
  pub inside : new.in_transaction ≡ true
  pub kept : AllByRecursion (λ (t : Table). new.now.trees t.tree ≡ old.now.trees t.tree) first.tables
  pub empty : AllByRecursion (λ (t : Table). new.now.trees t.tree ≡ []) (drop (length first.tables) next.tables)
  pub listed : IsDatabase new.now

-- while the disk is clean, and inside a transaction over the first schema: where it is done, it grew to the next one
abbrev pub GrowsInside : {S T E : Type 0} → Ghosts S → Transaction S → Transaction S → Schema → Schema → Result T E → Type 0
GrowsInside g old new first next result =
    HasCleanDisk (state g new.conn.now) → IsInsideOver first (state g old.conn.now) → OnOk result (Grows first next (state g old.conn.now) (state g new.conn.now))
