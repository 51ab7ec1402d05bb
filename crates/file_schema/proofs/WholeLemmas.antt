-- One transaction, from its beginning to its commit.
use Rattle.std.proofs.Common.{◌≡◌, ℕ, List, [], true, false, sym, subst, ◌∙◌, IsTrue, inl, inr, Result, Ok, Err, IfOk, IfErr}
use Rattle.sqlite_trees.specs.declared.store.Store.{Ghosts}
use Rattle.sqlite_schema.specs.declared.schema.Schema.{Schema}
use Rattle.sqlite_trees.specs.Objects.{catalog_tree}
use Rattle.sqlite_trees.specs.Tree.{Trees}
use Rattle.sqlite_catalog.specs.Listing.{Lists}
use Rattle.sqlite_catalog.proofs.ReadLemmas.{lists_once}
use Rattle.sqlite_value.specs.Order.{Row}
use Rattle.sqlite.specs.declared.error.Error.{Error}
use Rattle.sqlite.specs.Effect.{Database, IsDatabase}
use Rattle.sqlite.specs.Held.{Held, state}
use Rattle.sqlite.specs.State.{State, KeepsCommit, Shows, Survives, HasCleanDisk, IsUnchanged, IsLive, IsNotRun, IsRolledBack}
use Rattle.sqlite.specs.Steps.{FailsToCommit}
use Rattle.sqlite.proofs.StateLemmas.{survives_then}
use Rattle.sqlite.proofs.Callers.{survives_begin}
use Rattle.file_schema.specs.Whole.{IsSame, IsStill, IsWritten, MayBeWritten}

-- ---- a text that is only prepared

pub not_run : (old new : State) (sql : List ℕ) (params : Row) (e : Error) → IsNotRun old new sql params e → KeepsCommit old new
unfolding IsNotRun
not_run old new sql params e (inl same) = record { was_open = λ _. same.1.0.was_open; committed = λ _. same.1.0.committed_is }
not_run old new sql params e (inr fails) = record { was_open = fails.3.was_open; committed = λ o. (fails.3.undone o).1 }

pub prepared : {T : Type 0} (A : T → Type 0) (r : Result T Error) (old new : State) (sql : List ℕ) → IfOk r (λ s. A s × IsUnchanged old new) → IfErr r (λ e. (params : Row) → IsNotRun old new sql params e) → KeepsCommit old new
prepared A (Ok x) old new sql ok err = record { was_open = λ _. ok.1.0.was_open; committed = λ _. ok.1.0.committed_is }
prepared A (Err e) old new sql ok err = not_run old new sql [] e (err [])

-- ---- a transaction

abbrev pub begun : {S : Type 0} → Held S → Held S
begun old = record old { in_transaction = true }

pub committed : {S : Type 0} (g : Ghosts S) (Turns : Database → Database → Type 0) (old mid end : Held S) → Turns (state g (begun old)).now (state g mid).now × IsDatabase (state g mid).now → IsTrue (state g old).is_open
    → Shows (state g mid) (state g end) (state g mid).now (state g mid).now false → IsWritten Turns (state g old) (state g end)
committed g Turns old mid end turned was shows = record {
  was_open = was;
  is_open = shows.is_open;
  outside = shows.mode;
  settled = shows.now_is ∙ sym shows.committed_is;
  turned = subst (Turns (state g old).now) (sym shows.now_is) turned.0;
  listed = subst IsDatabase (sym shows.now_is) turned.1;
}

pub crashes : {S T : Type 0} (g : Ghosts S) (over : Schema) (Turns : T → Database → Database → Type 0) (answer : T) (old mid end : Held S)
    → (HasCleanDisk (state g end) → (state g old).now.schema ≡ over → IsDatabase (state g old).now → ((state g mid).in_transaction ≡ true) × Turns answer (state g (begun old)).now (state g mid).now × IsDatabase (state g mid).now)
    → (HasCleanDisk (state g end) → IsTrue (state g old).is_open) → IsLive (state g old)
    → Survives (state g (begun old)) (state g mid) (λ _. ⊥) → Survives (state g mid) (state g end) (λ db. db ≡ (state g mid).now.trees) → Survives (state g old) (state g end) (MayBeWritten over Turns (state g old))
crashes g over Turns answer old mid end turned opened live first second =
    survives_then (state g old) (state g mid) (state g end) (λ _. ⊥) (λ db. db ≡ (state g mid).now.trees) (MayBeWritten over Turns (state g old)) (λ _ db none. absurd none)
    (λ clean db is. record {
      was_open = opened clean;
      answer = answer;
      after = (state g mid).now;
      turned = λ known. (turned clean known (live (opened clean)).0).1;
      listed = λ known. (turned clean known (live (opened clean)).0).2;
      is = is;
    }) (survives_begin g old (state g mid) (λ _. ⊥) first) second

rolled_back : {S : Type 0} (g : Ghosts S) (old mid end : Held S) → KeepsCommit (state g (begun old)) (state g mid) → (IsTrue (state g old).is_open → (state g old).now ≡ (state g old).committed) → IsRolledBack (state g mid) (state g end)
    → IsTrue (state g end).is_open → IsSame (state g old) (state g end)
rolled_back g old mid end kept settled back is_open =
    let before = back.was_open is_open in
    let was = kept.was_open before in
    let undone = back.undone is_open in
    record { was_open = was; now = undone.0 ∙ kept.committed before ∙ sym (settled was); committed = undone.1 ∙ kept.committed before }

-- a commit that fails undoes what was written
pub undone : {S : Type 0} (g : Ghosts S) (old mid end : Held S) (e : Error) → KeepsCommit (state g (begun old)) (state g mid) → (IsTrue (state g old).is_open → (state g old).now ≡ (state g old).committed) → (state g mid).in_transaction ≡ true
    → end.in_transaction ≡ false → FailsToCommit (state g mid) (state g end) e → IsStill (state g old) (state g end)
undone g old mid end e kept settled inside ended (inl fails) = record { same = rolled_back g old mid end kept settled fails.3; outside = λ _. ended }
undone g old mid end e kept settled inside ended (inr late) = absurd (let never : true ≡ false = sym inside ∙ late.1 in cc)

-- ---- what trees list

-- trees list one schema at most
pub one_schema : (a b : Database) → IsDatabase a → IsDatabase b → a.trees ≡ b.trees → a.schema ≡ b.schema
one_schema a b of_a of_b same = lists_once (a.trees catalog_tree) a.schema b.schema of_a.lists (subst (λ (t : Trees). Lists (t catalog_tree) b.schema) (sym same) of_b.lists)
