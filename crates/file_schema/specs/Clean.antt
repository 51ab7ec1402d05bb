-- What a call leaves of a connection, said as long as the disk returns what was written.
use Rattle.sqlite_trees.specs.declared.store.Store.{Ghosts}
use Rattle.sqlite.specs.Held.{Held, state}
use Rattle.sqlite.specs.State.{State, HasCleanDisk, Survives}

-- this holds of the connection before and after, if until then the disk returned what was written
abbrev pub WhileClean : {S : Type 0} → Ghosts S → Held S → Held S → (State → State → Type 0) → Type 0
WhileClean g old new Relates = HasCleanDisk (state g new) → Relates (state g old) (state g new)

-- a crash leaves no more than it could have left before
abbrev pub LeavesNoMore : {S : Type 0} → Ghosts S → Held S → Held S → Type 0
LeavesNoMore g old new = Survives (state g old) (state g new) (λ _. ⊥)
