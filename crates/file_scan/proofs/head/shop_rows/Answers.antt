use Rattle.std.proofs.Common.{inl, [], ap, sym, subst, rules}
use Rattle.sqlite.specs.Effect.{Database}
use Rattle.sqlite.specs.Held.{state}
use Rattle.sqlite.specs.State.{FailsToQuery, Shown}
use Rattle.file_reads.specs.Damage.{HasNoMeaning, IsFor}
use Rattle.file_reads.specs.Texts.{shop_text}
use Rattle.file_reads.proofs.Causes.{failed}
use Rattle.file_scan.specs.Causes.{ShowsBy}
use Rattle.file_scan.proofs.CauseLemmas.{shown_by}
use Rattle.file_scan.proofs.Stays.{commits_none, query_stays, shown_same, stays_same}
use Rattle.file_scan.specs.Stopped.{WhereStopped}
use Rattle.file_scan.proofs.Stopping.{stops}
use Rattle.file_scan.proofs.head.shop_rows.Goals as goal

pub returns-in-Ok-clause-shown : goal.returns-in-Ok-clause-shown
returns-in-Ok-clause-shown g c clean db at =
    let old = state g.S.Store c.args.conn.now in
    let new = state g.S.Store c.query_all.new.self in
    let shown : Shown shop_text [] old new c.in-Ok.rows.items = rw c.statement.ensures.text at (c.in-Ok.ensures.ok clean) in
    subst (λ (d : Database). ShowsBy shop_text d c.in-Ok.rows.items) at.now (shown_by shop_text old new c.in-Ok.rows.items (c.statement.ensures.reads old.now.schema) shown)

pub returns-in-Err-clause-refused : goal.returns-in-Err-clause-refused
returns-in-Err-clause-refused g c clean db at =
    let old = state g.S.Store c.args.conn.now in
    let fails : FailsToQuery shop_text [] old (state g.S.Store c.query_all.new.self) c.in-Err.error = rw c.statement.ensures.text at (c.in-Err.ensures.err clean) in
    let told = failed old (state g.S.Store c.query_all.new.self) shop_text [] c.in-Err.error ⊥ (c.statement.ensures.reads old.now.schema) (inl fails) in
    subst (λ (d : Database). IsFor (HasNoMeaning d.schema shop_text) ⊥ c.of.result) at.now (subst (IsFor _ ⊥) (sym c.of.ensures) told)

pub returns-in-Err-clause-store : goal.returns-in-Err-clause-store
returns-in-Err-clause-store g c clean db at known =
    let old = state g.S.Store c.args.conn.now in
    let new = state g.S.Store c.query_all.new.self in
    let fails : FailsToQuery shop_text [] old new c.in-Err.error = rw c.statement.ensures.text at (c.in-Err.ensures.err clean) in
    subst (WhereStopped _) (sym c.of.ensures) (stops shop_text 0 (c.statement.ensures.select db.schema known) (c.statement.ensures.alone db.schema known) old new (ap (λ (d : Database). d.schema) at.now) at.is_open c.in-Err.error fails)

pub returns-in-Ok-clause-same : goal.returns-in-Ok-clause-same
returns-in-Ok-clause-same g c clean =
    let old = state g.S.Store c.args.conn.now in
    let new = state g.S.Store c.query_all.new.self in
    let shown : Shown shop_text [] old new c.in-Ok.rows.items = rw c.statement.ensures.text at (c.in-Ok.ensures.ok clean) in
    shown_same shop_text [] old new c.in-Ok.rows.items (c.statement.ensures.reads old.now.schema) shown

pub returns-in-Ok-clause-only : goal.returns-in-Ok-clause-only
returns-in-Ok-clause-only g c =
    let old = state g.S.Store c.args.conn.now in
    let new = state g.S.Store c.query_all.new.self in
    let reads = c.statement.ensures.reads old.now.schema in
    record {
      rests = λ clean opened.
          let shown : Shown shop_text [] old new c.in-Ok.rows.items = rw c.statement.ensures.text at (c.in-Ok.ensures.ok clean) in
          stays_same old new (shown_same shop_text [] old new c.in-Ok.rows.items reads shown);
      mode = search rules;
      crash = commits_none shop_text [] old new reads (rw c.statement.ensures.text at c.query_all.ensures.survives);
    }

pub returns-in-Err-clause-only : goal.returns-in-Err-clause-only
returns-in-Err-clause-only g c =
    let old = state g.S.Store c.args.conn.now in
    let new = state g.S.Store c.query_all.new.self in
    let reads = c.statement.ensures.reads old.now.schema in
    record {
      rests = λ clean opened.
          let fails : FailsToQuery shop_text [] old new c.in-Err.error = rw c.statement.ensures.text at (c.in-Err.ensures.err clean) in
          query_stays old new shop_text [] c.in-Err.error reads fails opened;
      mode = search rules;
      crash = commits_none shop_text [] old new reads (rw c.statement.ensures.text at c.query_all.ensures.survives);
    }
