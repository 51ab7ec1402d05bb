-- Which rows are looked up.
use Rattle.std.specs.Prelude.{◌≡◌, ℕ, Bool, ◌==◌, ◌&&◌, List, filter, bytes_eq, Vec, Result, IfOk, IfErr, OnOk, IsPermutation}
use Rattle.std.specs.declared.alloc.Global.{Global}
use Rattle.sqlite_value.specs.Order.{Row}
use Rattle.sqlite_trees.specs.declared.store.Store.{Ghosts}
use Rattle.sqlite_trees.specs.Tree.{Trees}
use Rattle.sqlite.specs.declared.transaction.Transaction.{Transaction}
use Rattle.sqlite.specs.Held.{state}
use Rattle.sqlite.specs.State.{State, HasCleanDisk}
use Rattle.file_schema.specs.declared.error.RowError.{RowError}
use Rattle.file_schema.specs.Clean.{LeavesNoMore}
use Rattle.file_schema.specs.Inside.{KeepsCommitInside}
use Rattle.file_schema.specs.Tables.{schema}
use Rattle.file_rows.specs.declared.rows.KeptRow.{KeptRow}
use Rattle.file_rows.specs.declared.rows.Token.{Token}
use Rattle.file_rows.specs.Tables.{Tables, Holds}
use Rattle.file_reads.specs.Damage.{ShowsDamage, IsFor}

-- an answer under this key of this token
abbrev pub is_under : ℕ → List ℕ → KeptRow → Bool
is_under token key r = (r.kept.token == token) && bytes_eq r.kept.key key

-- the token of this digest
abbrev pub has_digest : List ℕ → Token → Bool
has_digest digest r = bytes_eq r.digest digest

-- of the rows of a table that these trees show, these are the ones that pass the test, in some order
abbrev pub AreAllThatPass : {A : Type 0} → (Tables → List A) → (A → Bool) → Trees → List A → Type 0
AreAllThatPass rows test db found = (t : Tables) → Holds db t → IsPermutation found (filter test (rows t))

-- while the disk is clean, and over a shop's tables: this holds of the connection before and after
abbrev pub WhileOfShop : {S : Type 0} → Ghosts S → Transaction S → Transaction S → (State → State → Type 0) → Type 0
WhileOfShop g old new Relates = HasCleanDisk (state g new.conn.now) → (state g old.conn.now).now.schema ≡ schema → Relates (state g old.conn.now) (state g new.conn.now)

-- while the disk is clean, and over a shop's tables: what is answered are the rows of a table that pass the test, in some order
abbrev pub FindsAll : {S A : Type 0} → Ghosts S → Transaction S → Transaction S → (Tables → List A) → (A → Bool) → Result (Vec A Global) RowError → Type 0
FindsAll g old new rows test result = WhileOfShop g old new (λ a b. IfOk result (λ all. AreAllThatPass rows test a.now.trees all.items))

-- while the disk is clean, and over a shop's tables: a refusal tells of damage in the table of this tree, or has no cause in the file
abbrev pub TellsDamage : {S A T : Type 0} → Ghosts S → Transaction S → Transaction S → (A → Row) → (A → Type 0) → ℕ → Result T RowError → Type 0
TellsDamage g old new as_row fits tree result = WhileOfShop g old new (λ a b. IfErr result (IsFor ⊥ (ShowsDamage as_row fits tree a.now.trees)))

-- a look-up finds the rows that pass the test in a table, or tells of damage in the table of this tree, and changes nothing
pub record FindsRows {S A : Type 0} (g : Ghosts S) (old new : Transaction S) (rows : Tables → List A) (test : A → Bool) (as_row : A → Row) (fits : A → Type 0) (tree : ℕ) (result : Result (Vec A Global) RowError) : Type 0 where
  -- the transaction still borrows that connection
  pub same : new.conn.ghost_name ≡ old.conn.ghost_name
  pub found : FindsAll g old new rows test result
  pub refused : TellsDamage g old new as_row fits tree result
  pub still : WhileOfShop g old new (λ a b. OnOk result (b.now ≡ a.now))
  pub kept : KeepsCommitInside g old.conn.now new.conn.now
  pub crash : LeavesNoMore g old.conn.now new.conn.now
