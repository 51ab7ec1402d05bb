-- What a call's outcome tells of a connection, as long as the disk returned what was written.
use Rattle.std.specs.Prelude.{List, Result, Vec, IsTrue, IfOk, OnOk}
use Rattle.std.specs.declared.alloc.Global.{Global}
use Rattle.sqlite_trees.specs.declared.store.Store.{Ghosts}
use Rattle.sqlite.specs.Effect.{Database}
use Rattle.sqlite.specs.Held.{Held}
use Rattle.sqlite.specs.State.{State}
use Rattle.file_schema.specs.Clean.{WhileClean}

-- where it is done, this holds of the connection before and after
abbrev pub OnOkWhileClean : {S T E : Type 0} → Ghosts S → Held S → Held S → (State → State → Type 0) → Result T E → Type 0
OnOkWhileClean g old new Relates result = WhileClean g old new (λ a b. OnOk result (Relates a b))

-- the connection was open
abbrev pub WasOpen : State → State → Type 0
WasOpen old new = IsTrue old.is_open

-- what is answered is what is to be found in the database as it stood before
abbrev pub LooksUp : {S T E : Type 0} → Ghosts S → Held S → Held S → (Database → List T → Type 0) → Result (Vec T Global) E → Type 0
LooksUp g old new Finds result = WhileClean g old new (λ a b. IfOk result (λ all. Finds a.now all.items))
