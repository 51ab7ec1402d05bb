use Rattle.std.proofs.Common.{◌≡◌, ◌≤◌, rules, inl, inr, [], ◌∷◌, ◌++◌, length, refl, sym, ap, subst, ◌∙◌, arith, length-append}
use Rattle.sqlite.specs.Effect.{Database}
use Rattle.sqlite_trees.specs.declared.store.Store.{Ghosts}
use Rattle.sqlite.specs.Held.{Held, state}
use Rattle.sqlite.specs.State.{HasCleanDisk, FailsToQuery}
use Rattle.sqlite.proofs.StateLemmas.{survives_then}
use Rattle.sqlite.proofs.Callers.{unchanged_then, given_begin}
use Rattle.file_schema.specs.Failures.{failure_of}
use Rattle.file_reads.specs.Damage.{HasNoMeaning, IsFor}
use Rattle.file_reads.proofs.Causes.{failed}
use Rattle.file_scan.proofs.Stays.{query_stays, then_stays, commits_none, begun_reads, begins_from, shown_from}
use Rattle.file_scan.specs.Rests.{OnlyReads}
use Rattle.file_scan.specs.Stopped.{WhereStopped}
use Rattle.file_scan.proofs.Refusing.{unchanged}
use Rattle.file_scan.proofs.Stopping.{endless, stopped_later, stops, where_stopped}
use Rattle.file_scan.proofs.Walked.{took_more}
use Rattle.file_scan.proofs.each.each_row.Goals as goal

-- the connection that is given back is the one that the rows had
ended : {S : Type 0} (g : Ghosts S) (old now end : Held S) → end ≡ now → OnlyReads g old now → OnlyReads g old end
ended g old now end same h = subst (OnlyReads g old) (sym same) h

pub returns-in-Err-clause-refused : goal.returns-in-Err-clause-refused
returns-in-Err-clause-refused g c clean =
    let old = state g.S.Store c.args.conn.now in
    let new = state g.S.Store c.query.follows.lender-at-none in
    let fails : FailsToQuery c.args.sql.now [] old new c.in-Err.error = (rw c.in-Err.is at c.query.follows.holds-at-none).err clean in
    subst (IsFor _ ⊥) (sym c.of.ensures) (failed old new c.args.sql.now [] c.in-Err.error ⊥ (c.requires.reads old.now.schema) (inl fails))

pub returns-in-Err-clause-store : goal.returns-in-Err-clause-store
returns-in-Err-clause-store g c clean s tree is alone opened known =
    let old = state g.S.Store c.args.conn.now in
    let new = state g.S.Store c.query.follows.lender-at-none in
    let fails : FailsToQuery c.args.sql.now [] old new c.in-Err.error = (rw c.in-Err.is at c.query.follows.holds-at-none).err clean in
    subst (WhereStopped _) (sym c.of.ensures) (stops c.args.sql.now tree is alone old new known opened c.in-Err.error fails)

pub returns-in-Err-clause-only : goal.returns-in-Err-clause-only
returns-in-Err-clause-only g c =
    let old = state g.S.Store c.args.conn.now in
    let new = state g.S.Store c.query.follows.lender-at-none in
    let refused = rw c.in-Err.is at c.query.follows.holds-at-none in
    let reads = c.requires.reads old.now.schema in
    record {
      rests = λ clean opened.
          let fails : FailsToQuery c.args.sql.now [] old new c.in-Err.error = refused.err clean in
          query_stays old new c.args.sql.now [] c.in-Err.error reads fails opened;
      mode = refused.mode c.requires.outside;
      crash = commits_none c.args.sql.now [] old new reads refused.survives;
    }

pub rows-init : goal.rows-init
rows-init g c =
    let made = c.in-Ok.ensures in
    let reads = c.requires.reads c.args.conn.now.schema in
    (refl, commits_none _ _ _ _ reads made.survives, made.mode c.requires.outside, ([], refl, λ clean. begun_reads g.S.Store c.args.sql.now [] c.args.conn.now _ reads (made.begun clean), refl))

pub rows-preserved : goal.rows-preserved
rows-preserved g c =
    let moved = c.next.follows.holds-at-none in
    let inv = c.rows.invariant in
    let old = state g.S.Store c.args.conn.now in
    let was = state g.S.Store c.rows.rows.conn.now in
    let now = state g.S.Store c.next.follows.lender-at-none.conn.now in (
      moved.same_reference ∙ inv.0,
      survives_then old was now (λ _. ⊥) (λ _. ⊥) (λ _. ⊥) (λ _ db none. none) (λ _ db none. none) inv.1 moved.survives,
      moved.mode inv.2,
      (
        inv.3.0 ++ c.in-Some.row.now ∷ [],
        took_more g.K.Taker.takes c.args.taker.now c.rows.taker c.take.new.self inv.3.0 c.in-Some.row.now inv.3.1 c.in_default-take.ensures.taken,
        λ clean.
            let had = inv.3.2 (omega (arith, moved.survives.clean, clean)) in
            ((rw (c.in-Ok-next.is, c.in-Some.is) at (moved.ok clean)) c.args.sql.now [] inv.3.0 had.0, unchanged_then old was now had.1 (rw c.in-Ok-next.is at (moved.same clean))),
        omega (arith, length-append inv.3.0 (c.in-Some.row.now ∷ []), inv.3.3),
      ),
    )

pub returns-in-Err-take-clause-stopped : goal.returns-in-Err-take-clause-stopped
returns-in-Err-take-clause-stopped g c =
    let moved = c.next.follows.holds-at-none in
    let inv = c.rows.invariant in
    let old = state g.S.Store c.args.conn.now in
    let was = state g.S.Store c.rows.rows.conn.now in
    let now = state g.S.Store c.next.follows.lender-at-none.conn.now in
    record {
      rows = inv.3.0;
      row = c.in-Some.row.now;
      mid = c.rows.taker;
      took = inv.3.1;
      stopped = c.in-Err-take.ensures.stopped;
      front = λ clean.
          let late : HasCleanDisk now = search rules in
          let had = inv.3.2 (omega (arith, moved.survives.clean, late)) in
          let given = (rw (c.in-Ok-next.is, c.in-Some.is) at (moved.ok late)) c.args.sql.now [] inv.3.0 had.0 in
          begins_from c.args.sql.now [] old now _ (unchanged_then old was now had.1 (rw c.in-Ok-next.is at (moved.same late))) (given_begin g.S.Store c.args.sql.now [] c.next.follows.lender-at-none.conn.now _ given);
    }

pub returns-in_default-clause-whole : goal.returns-in_default-clause-whole
returns-in_default-clause-whole g c =
    let moved = c.next.follows.holds-at-none in
    let inv = c.rows.invariant in
    let old = state g.S.Store c.args.conn.now in
    let was = state g.S.Store c.rows.rows.conn.now in
    let now = state g.S.Store c.next.follows.lender-at-none.conn.now in
    record {
      rows = inv.3.0;
      took = inv.3.1;
      shown = λ clean.
          let late : HasCleanDisk now = search rules in
          let had = inv.3.2 (omega (arith, moved.survives.clean, late)) in
          let told = (rw (c.in-Ok-next.is, c.in_default.is) at (moved.ok late)) c.args.sql.now [] inv.3.0 had.0 in
          let all = shown_from c.args.sql.now [] old was now inv.3.0 (c.requires.reads was.now.schema) had.1 told in
          search rules;
    }

pub returns-in-Err-next-clause-broken : goal.returns-in-Err-next-clause-broken
returns-in-Err-next-clause-broken g c =
    let moved = c.next.follows.holds-at-none in
    let inv = c.rows.invariant in
    let old = state g.S.Store c.args.conn.now in
    let was = state g.S.Store c.rows.rows.conn.now in
    let now = state g.S.Store c.next.follows.lender-at-none.conn.now in
    record {
      rows = inv.3.0;
      took = inv.3.1;
      front = λ clean.
          let late : HasCleanDisk now = search rules in
          let had = inv.3.2 (omega (arith, moved.survives.clean, late)) in
          inr (begins_from c.args.sql.now [] old was inv.3.0 had.1 (given_begin g.S.Store c.args.sql.now [] c.rows.rows.conn.now inv.3.0 had.0));
    }

pub returns-in-Err-next-clause-refused : goal.returns-in-Err-next-clause-refused
returns-in-Err-next-clause-refused g c clean =
    let moved = c.next.follows.holds-at-none in
    let inv = c.rows.invariant in
    let old = state g.S.Store c.args.conn.now in
    let was = state g.S.Store c.rows.rows.conn.now in
    let now = state g.S.Store c.next.follows.lender-at-none.conn.now in
    let late : HasCleanDisk now = search rules in
    let had = inv.3.2 (omega (arith, moved.survives.clean, late)) in
    let fails : FailsToQuery c.args.sql.now [] was now c.in-Err-next.error = (rw c.in-Err-next.is at (moved.err late)) c.args.sql.now [] inv.3.0 had.0 in
    let told = failed was now c.args.sql.now [] c.in-Err-next.error ⊥ (c.requires.reads was.now.schema) (inl fails) in
    let here = subst (λ (d : Database). IsFor (HasNoMeaning d.schema c.args.sql.now) ⊥ (failure_of c.in-Err-next.error)) had.1.0.now_is told in
    search rules

pub returns-in-Err-next-clause-only : goal.returns-in-Err-next-clause-only
returns-in-Err-next-clause-only g c =
    let moved = c.next.follows.holds-at-none in
    let inv = c.rows.invariant in
    let old = state g.S.Store c.args.conn.now in
    let was = state g.S.Store c.rows.rows.conn.now in
    let now = state g.S.Store c.next.follows.lender-at-none.conn.now in
    ended g.S.Store _ c.next.follows.lender-at-none.conn.now _ (search rules) (record {
      rests = λ late opened.
          let had = inv.3.2 (omega (arith, moved.survives.clean, late)) in
          let fails : FailsToQuery c.args.sql.now [] was now c.in-Err-next.error = (rw c.in-Err-next.is at (moved.err late)) c.args.sql.now [] inv.3.0 had.0 in
          then_stays old was now had.1 (query_stays was now c.args.sql.now [] c.in-Err-next.error (c.requires.reads was.now.schema) fails opened);
      mode = moved.mode inv.2;
      crash = survives_then old was now (λ _. ⊥) (λ _. ⊥) (λ _. ⊥) (λ _ db none. none) (λ _ db none. none) inv.1 moved.survives;
    })

pub returns-in-Err-next-clause-store : goal.returns-in-Err-next-clause-store
returns-in-Err-next-clause-store g c clean s tree is alone opened known =
    let moved = c.next.follows.holds-at-none in
    let inv = c.rows.invariant in
    let old = state g.S.Store c.args.conn.now in
    let was = state g.S.Store c.rows.rows.conn.now in
    let now = state g.S.Store c.next.follows.lender-at-none.conn.now in
    let late : HasCleanDisk now = search rules in
    let had = inv.3.2 (omega (arith, moved.survives.clean, late)) in
    let fails : FailsToQuery c.args.sql.now [] was now c.in-Err-next.error = (rw c.in-Err-next.is at (moved.err late)) c.args.sql.now [] inv.3.0 had.0 in
    let has : was.now.schema ≡ s = ap (λ (d : Database). d.schema) had.1.0.now_is ∙ known in
    let told = stops c.args.sql.now tree is alone was now has had.1.0.is_open c.in-Err-next.error fails in
    let here = where_stopped (failure_of c.in-Err-next.error) _ _ told (stopped_later old was now had.1 inv.1) in
    search rules

pub returns-clause-store : goal.returns-clause-store
returns-clause-store g c clean s tree is alone opened known =
    let inv = c.rows.invariant in
    let old = state g.S.Store c.args.conn.now in
    let was = state g.S.Store c.rows.rows.conn.now in
    let late : HasCleanDisk was = search rules in
    let had = inv.3.2 late in
    let begins = begins_from c.args.sql.now [] old was inv.3.0 had.1 (given_begin g.S.Store c.args.sql.now [] c.rows.rows.conn.now inv.3.0 had.0) in
    let many : 18446744073709551615 ≤ length inv.3.0 = omega (arith, inv.3.3, c.rows-test.false) in
    inr (inr (endless c.args.sql.now tree is old known (unchanged old opened) inv.3.0 begins many))

pub returns-clause-broken : goal.returns-clause-broken
returns-clause-broken g c =
    let inv = c.rows.invariant in
    let old = state g.S.Store c.args.conn.now in
    let was = state g.S.Store c.rows.rows.conn.now in
    record {
      rows = inv.3.0;
      took = inv.3.1;
      front = λ clean.
          let late : HasCleanDisk was = search rules in
          let had = inv.3.2 late in
          inr (begins_from c.args.sql.now [] old was inv.3.0 had.1 (given_begin g.S.Store c.args.sql.now [] c.rows.rows.conn.now inv.3.0 had.0));
    }
