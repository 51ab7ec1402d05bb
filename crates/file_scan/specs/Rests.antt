-- A connection that is only read.
use Rattle.std.specs.Prelude.{◌≡◌, IsTrue, false, Result, Ok, Err}
use Rattle.sqlite_trees.specs.declared.store.Store.{Ghosts}
use Rattle.sqlite.specs.Effect.{Database}
use Rattle.sqlite.specs.Held.{Held, state}
use Rattle.sqlite.specs.State.{State, HasCleanDisk, Survives}
use Rattle.file_schema.specs.Tables.{schema}
use Rattle.file_schema.specs.declared.error.RowError.{RowError}
use Rattle.file_schema.specs.declared.error.RowError.TheVariants.{Memory, Foreign, Damaged, Store}
use Rattle.file_rows.specs.Tables.{Tables, Holds}

-- the connection shows this, and so did the last commit leave it
pub record IsAt (db : Database) (s : State) : Type 0 where
  pub now : s.now ≡ db
  pub committed : s.committed ≡ db

-- the connection is open and shows this, and so did the last commit leave it
pub record IsOpenAt (db : Database) (s : State) : Type 0 where
  pub is_open : IsTrue s.is_open
  pub now : s.now ≡ db
  pub committed : s.committed ≡ db

-- the connection shows these tables
pub record ShowsTables (t : Tables) (s : State) : Type 0 where
  pub db : Database
  pub at : IsAt db s
  pub known : db.schema ≡ schema
  pub holds : Holds db.trees t

-- what is open was open, and shows what it showed
pub record StaysOpen (old new : State) : Type 0 where
  pub was_open : IsTrue old.is_open
  pub stays : (db : Database) → IsAt db old → IsAt db new

-- while the connection is open, it was open before and shows what it showed
abbrev pub Rests : State → State → Type 0
Rests old new = HasCleanDisk new → IsTrue new.is_open → StaysOpen old new

-- what a call that only reads leaves of a connection with no open transaction
pub record OnlyReads {S : Type 0} (g : Ghosts S) (old new : Held S) : Type 0 where
  -- while it is open it shows what it showed
  pub rests : Rests (state g old) (state g new)
  -- no transaction is open afterwards
  pub mode : new.in_transaction ≡ false
  -- a crash leaves no more than it could have left before
  pub crash : Survives (state g old) (state g new) (λ _. ⊥)

-- this holds where each row of a table was shown, also where a value of one can't be read
abbrev pub WhereDamaged : RowError → Type 0 → Type 0
WhereDamaged Memory holds = Unit {0}
WhereDamaged Foreign holds = Unit {0}
WhereDamaged Damaged holds = holds
WhereDamaged Store holds = Unit {0}

-- this holds where the rows of a table were read, and where one of them has a value that can't be read
abbrev pub WhereShown : {A : Type 0} → Result A RowError → Type 0 → Type 0
WhereShown (Ok a) holds = holds
WhereShown (Err e) holds = WhereDamaged e holds
