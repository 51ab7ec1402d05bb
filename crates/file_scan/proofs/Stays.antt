-- What a query that only reads leaves of the connection.
use Rattle.std.proofs.Common.{◌≡◌, inl, inr, ℕ, List, Option, Some, None, Result, Ok, Err, refl, sym, subst, ◌∙◌, [], IsTrue}
use Rattle.sqlite_value.specs.Order.{Row}
use Rattle.sqlite_trees.specs.Tree.{Trees}
use Rattle.sqlite_trees.specs.declared.store.Store.{Ghosts}
use Rattle.sqlite_schema.specs.declared.command.Returning.{Returning}
use Rattle.sqlite_resolve.specs.declared.compiled.Compiled.{Compiled}
use Rattle.sqlite_resolve.specs.declared.error.CompileError.{CompileError}
use Rattle.sqlite.specs.Effect.{Database}
use Rattle.sqlite.specs.declared.error.Error.{Error}
use Rattle.sqlite.specs.Listing.{understood, reads_listing, IsSourceOf}
use Rattle.sqlite.specs.Held.{Held, state}
use Rattle.sqlite.specs.Given.{HasGiven, HasBegun, Returns}
use Rattle.sqlite.specs.State.{State, IsUnchanged, IsRolledBack, Fails, Survives, IsNotRun, FailsToShow, FailsToQuery, Shown, ShowsRows, Begins, CommitsShowing}
use Rattle.sqlite.proofs.StateLemmas.{survives_weaker}
use Rattle.sqlite.proofs.Callers.{unchanged_then}
use Rattle.file_reads.specs.Damage.{IsForReading}
use Rattle.file_scan.specs.Rests.{IsAt, IsOpenAt, StaysOpen}

-- ---- it stays open, and shows what it showed

pub at_same : (old new : State) → IsUnchanged old new → (db : Database) → IsOpenAt db old → IsOpenAt db new
at_same old new u db at = record { is_open = u.0.is_open; now = u.0.now_is ∙ at.now; committed = u.0.committed_is ∙ at.committed }

still_at : (old new : State) → IsUnchanged old new → (db : Database) → IsAt db old → IsAt db new
still_at old new u db at = record { now = u.0.now_is ∙ at.now; committed = u.0.committed_is ∙ at.committed }

pub stays_same : (old new : State) → IsUnchanged old new → StaysOpen old new
stays_same old new u = record { was_open = u.0.was_open; stays = still_at old new u }

stays_undone : (old new : State) → IsRolledBack old new → IsTrue new.is_open → StaysOpen old new
stays_undone old new r opened = record { was_open = r.was_open opened; stays = λ db at. record { now = (r.undone opened).0 ∙ at.committed; committed = (r.undone opened).1 ∙ at.committed } }

pub stays_failed : (P : Type 0) (old new : State) (e : Error) → Fails old new P e → IsTrue new.is_open → StaysOpen old new
stays_failed P old new e f opened = stays_undone old new f.3 opened

stays_unrun : (old new : State) (sql : List ℕ) (params : Row) (e : Error) → IsNotRun old new sql params e → IsTrue new.is_open → StaysOpen old new
unfolding IsNotRun
stays_unrun old new sql params e (inl h) opened = stays_same old new h.1
stays_unrun old new sql params e (inr h) opened = stays_failed ⊥ old new e h opened

stays_unshown : (old new : State) (sql : List ℕ) (c : Compiled) (params : Row) (e : Error) (r : Option Returning) → r ≡ None → FailsToShow old new sql c params e r → StaysOpen old new
stays_unshown old new sql c params e None none h = stays_same old new h.3
stays_unshown old new sql c params e (Some what) none h = absurd (cc)

pub query_stays : (old new : State) (sql : List ℕ) (params : Row) (e : Error) → IsForReading old.now.schema sql → FailsToQuery sql params old new e → IsTrue new.is_open → StaysOpen old new
unfolding FailsToQuery
query_stays old new sql params e reads (inl h) opened = stays_unrun old new sql params e h opened
query_stays old new sql params e reads (inr h) opened = stays_unshown old new sql h.0 _ e h.0.returning (reads h.0 h.1.is) h.2

pub then_stays : (a b c : State) → IsUnchanged a b → StaysOpen b c → StaysOpen a c
then_stays a b c u s = record { was_open = u.0.was_open; stays = λ db at. s.stays db (still_at a b u db at) }

-- ---- nothing is committed

never : (sql : List ℕ) (params : Row) (s : State) (db : Trees) → IsForReading s.now.schema sql → ¬ CommitsShowing sql params s db
unfolding CommitsShowing
never sql params s db reads h = absurd (let some = rw (reads h.0 h.1.is) at h.2 in cc)

pub commits_none : (sql : List ℕ) (params : Row) (old new : State) → IsForReading old.now.schema sql → Survives old new (CommitsShowing sql params old) → Survives old new (λ _. ⊥)
commits_none sql params old new reads = survives_weaker old new _ _ (λ _ db. never sql params old db reads)

-- ---- how it begins, and what is known of its rows from the start

returns_none : (r : Result Compiled CompileError) → ((c : Compiled) → r ≡ Ok c → c.returning ≡ None) → ¬ Returns r
returns_none (Ok c) reads some = absurd (let none = rw (reads c refl) at some in cc)
returns_none (Err e) reads some = some

pub begun_reads : {S : Type 0} (g : Ghosts S) (sql : List ℕ) (params : Row) (old new : Held S) → IsForReading old.schema sql → HasBegun g sql params old new
    → HasGiven g sql params new [] × IsUnchanged (state g old) (state g new)
begun_reads g sql params old new reads (inl h) = h
begun_reads g sql params old new reads (inr h) = absurd (returns_none _ reads h.0)

pub begins_from : (sql : List ℕ) (params : Row) (a b : State) (rows : List Row) → IsUnchanged a b → Begins sql params b rows → Begins sql params a rows
unfolding Begins
begins_from sql params a b rows u h =
    let same = u.0.now_is in (
      h.0,
      record { is = subst (λ (d : Database). understood d.schema sql ≡ Ok h.0) same h.1.is; whole = h.1.whole; given = h.1.given; now = h.1.now },
      h.2,
      h.3,
      subst (λ (d : Database). IsSourceOf (reads_listing d.schema sql) d h.3) same h.4,
      h.5,
    )

pub shown_from : (sql : List ℕ) (params : Row) (a b c : State) (rows : List Row) → IsForReading b.now.schema sql → IsUnchanged a b → Shown sql params b c rows → Shown sql params a c rows
unfolding Shown
shown_from sql params a b c rows reads u h =
    let same = u.0.now_is in
    let none = reads h.0 h.1.is in
    let it = subst (ShowsRows b c sql h.0 _ rows) none h.2 in (
      h.0,
      record { is = subst (λ (d : Database). understood d.schema sql ≡ Ok h.0) same h.1.is; whole = h.1.whole; given = h.1.given; now = h.1.now },
      subst (ShowsRows a c sql h.0 _ rows) (sym none) (it.0, subst (λ (d : Database). IsSourceOf (reads_listing d.schema sql) d it.0) same it.1, it.2, unchanged_then a b c u it.3),
    )

-- rows that were shown leave all as it was
pub shown_same : (sql : List ℕ) (params : Row) (old new : State) (rows : List Row) → IsForReading old.now.schema sql → Shown sql params old new rows → IsUnchanged old new
unfolding Shown
shown_same sql params old new rows reads h =
    let it = subst (ShowsRows old new sql h.0 _ rows) (reads h.0 h.1.is) h.2 in it.3
