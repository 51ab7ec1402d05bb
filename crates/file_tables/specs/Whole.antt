-- A writing of its own that answers nothing, and what a crash in it leaves.
use Rattle.std.specs.Prelude.{Result}
use Rattle.sqlite_schema.specs.declared.schema.Schema.{Schema}
use Rattle.sqlite_trees.specs.declared.store.Store.{Ghosts}
use Rattle.sqlite.specs.Effect.{Database}
use Rattle.sqlite.specs.Held.{Held}
use Rattle.file_schema.specs.Whole.{WritesWhole, LeavesWhole}

-- a transaction of its own over this schema makes this of the database, all of it or nothing, in a crash too
abbrev pub MakesWhole : {S E : Type 0} → Ghosts S → Held S → Held S → Schema → (Database → Database → Type 0) → Result (Unit {0}) E → Type 0
MakesWhole g old new over Turns result = WritesWhole g old new over (λ (_ : Unit {0}). Turns) result

-- a crash leaves what it could have left before, or what this makes of the database over this schema
abbrev pub LeavesMade : {S : Type 0} → Ghosts S → Held S → Held S → Schema → (Database → Database → Type 0) → Type 0
LeavesMade g old new over Turns = LeavesWhole g old new over (λ (_ : Unit {0}). Turns)
