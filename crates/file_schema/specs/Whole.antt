-- What a whole transaction leaves.
use Rattle.std.specs.Prelude.{◌≡◌, false, IsTrue, Result, IfOk, OnErr}
use Rattle.sqlite_schema.specs.declared.schema.Schema.{Schema}
use Rattle.sqlite_trees.specs.Tree.{Trees}
use Rattle.sqlite_trees.specs.declared.store.Store.{Ghosts}
use Rattle.sqlite.specs.Effect.{Database, IsDatabase}
use Rattle.sqlite.specs.Held.{Held, state}
use Rattle.sqlite.specs.State.{State, HasCleanDisk, Survives}

-- as long as the connection is open it sees this schema
abbrev pub IsOver : Schema → State → Type 0
IsOver schema s = IsTrue s.is_open → s.now.schema ≡ schema

-- the connection was open, and it sees what it saw, committed and not
pub record IsSame (old new : State) : Type 0 where
  pub was_open : IsTrue old.is_open
  pub now : new.now ≡ old.now
  pub committed : new.committed ≡ old.committed

-- as long as the connection is open nothing changes, and no transaction is open afterwards where none was
pub record IsStill (old new : State) : Type 0 where
  pub same : IsTrue new.is_open → IsSame old new
  pub outside : old.in_transaction ≡ false → new.in_transaction ≡ false

-- the database is what was made of it, which is committed, its trees list its schema, and the connection is open
pub record IsWritten (Turns : Database → Database → Type 0) (old new : State) : Type 0 where
  pub was_open : IsTrue old.is_open
  pub is_open : IsTrue new.is_open
  pub outside : new.in_transaction ≡ false
  pub settled : new.now ≡ new.committed
  pub turned : Turns old.now new.now
  pub listed : IsDatabase new.now

-- the connection was open, and the trees are those of what is made of its database, with some answer, and list its schema
pub record MayBeWritten {T : Type 0} (over : Schema) (Turns : T → Database → Database → Type 0) (old : State) (trees : Trees) : Type 0 where
  pub was_open : IsTrue old.is_open
  pub answer : T
  pub after : Database
  pub turned : old.now.schema ≡ over → Turns answer old.now after
  pub listed : old.now.schema ≡ over → IsDatabase after
  pub is : trees ≡ after.trees

-- while the disk is clean, and over this schema: where it is done, the database is what is made of it with that answer, which is committed
abbrev pub WritesAll : {S T E : Type 0} → Ghosts S → Held S → Held S → Schema → (T → Database → Database → Type 0) → Result T E → Type 0
WritesAll g old new over Turns result = HasCleanDisk (state g new) → IsOver over (state g old) → IfOk result (λ answer. IsWritten (Turns answer) (state g old) (state g new))

-- while the disk is clean, and over this schema: where it is refused, nothing changes
abbrev pub WritesNone : {S T E : Type 0} → Ghosts S → Held S → Held S → Schema → Result T E → Type 0
WritesNone g old new over result = HasCleanDisk (state g new) → IsOver over (state g old) → OnErr result (IsStill (state g old) (state g new))

-- a crash leaves what it could have left before, or what is made of the database over this schema
abbrev pub LeavesWhole : {S T : Type 0} → Ghosts S → Held S → Held S → Schema → (T → Database → Database → Type 0) → Type 0
LeavesWhole g old new over Turns = Survives (state g old) (state g new) (MayBeWritten over Turns (state g old))

-- a transaction of its own over this schema writes all of it or nothing, in a crash too
pub record WritesWhole {S T E : Type 0} (g : Ghosts S) (old new : Held S) (over : Schema) (Turns : T → Database → Database → Type 0) (result : Result T E) : Type 0 where
  pub all : WritesAll g old new over Turns result
  pub none : WritesNone g old new over result
  pub crash : LeavesWhole g old new over Turns
