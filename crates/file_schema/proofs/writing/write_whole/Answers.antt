use Rattle.std.proofs.Common.{◌≡◌, rules, subst, arith, refl}
use Rattle.sqlite.specs.Held.{state}
use Rattle.sqlite.specs.State.{HasCleanDisk, Survives}
use Rattle.file_schema.specs.Whole.{IsStill, IsWritten, MayBeWritten}
use Rattle.file_schema.proofs.WholeLemmas.{committed, crashes, undone}
use Rattle.file_schema.proofs.writing.write_whole.Goals as goal

pub returns-in-Ok : goal.returns-in-Ok
returns-in-Ok g c =
    let old = c.args.connection.now in
    let mid = c.write_open.new.tx.conn.now in
    let end = c.commit.new.self.0 in
    let same : end ≡ c.connection-2-1.given.0 = search rules in
    let turns = g.W.Writing.turns c.args.what.now in
    let written = rw c.transaction-tx.ensures.begun at c.in_ok-answer.ensures.written in
    let opened = rw c.transaction-tx.ensures.begun at c.in_ok-answer.ensures.open in
    let first = rw c.transaction-tx.ensures.begun at c.in_ok-answer.ensures.inside.crash in
    let whole = crashes g.S.Store (g.W.Writing.over c.args.what.now) turns c.in_ok-answer.answer old mid end (λ clean. written (omega (arith, c.commit.ensures.survives.clean)) refl) (λ clean. opened (omega (arith, c.commit.ensures.survives.clean))) c.schema_known.ensures first c.commit.ensures.survives in
    record {
      all = λ clean over.
          let late : HasCleanDisk (state g.S.Store end) = rw same clean in
          let early : HasCleanDisk (state g.S.Store mid) = omega (arith, c.commit.ensures.survives.clean) in
          let was = opened early in
          let its = written early refl (over was) (c.schema_known.ensures was).0 in
          subst (λ h. IsWritten (turns c.in_ok-answer.answer) (state g.S.Store old) (state g.S.Store h)) same (committed g.S.Store (turns c.in_ok-answer.answer) old mid end (its.1, its.2) was (c.in-Ok.ensures.ok late).1);
      none = λ clean over. tt;
      crash = subst (λ h. Survives (state g.S.Store old) (state g.S.Store h) (MayBeWritten (g.W.Writing.over c.args.what.now) turns (state g.S.Store old))) same whole;
    }

pub returns-in-Err : goal.returns-in-Err
returns-in-Err g c =
    let old = c.args.connection.now in
    let mid = c.write_open.new.tx.conn.now in
    let end = c.commit.new.self.0 in
    let same : end ≡ c.connection-2-1.given.0 = search rules in
    let turns = g.W.Writing.turns c.args.what.now in
    let written = rw c.transaction-tx.ensures.begun at c.in_ok-answer.ensures.written in
    let opened = rw c.transaction-tx.ensures.begun at c.in_ok-answer.ensures.open in
    let kept = rw c.transaction-tx.ensures.begun at c.in_ok-answer.ensures.inside.kept in
    let first = rw c.transaction-tx.ensures.begun at c.in_ok-answer.ensures.inside.crash in
    let whole = crashes g.S.Store (g.W.Writing.over c.args.what.now) turns c.in_ok-answer.answer old mid end (λ clean. written (omega (arith, c.commit.ensures.survives.clean)) refl) (λ clean. opened (omega (arith, c.commit.ensures.survives.clean))) c.schema_known.ensures first c.commit.ensures.survives in
    record {
      all = λ clean over. tt;
      none = λ clean over.
          let late : HasCleanDisk (state g.S.Store end) = rw same clean in
          let early : HasCleanDisk (state g.S.Store mid) = omega (arith, c.commit.ensures.survives.clean) in
          let inside = (written early refl (over (opened early)) (c.schema_known.ensures (opened early)).0).0 in
          let settled = c.is_autocommit.ensures.settled (search rules) in
          subst (λ h. IsStill (state g.S.Store old) (state g.S.Store h)) same (undone g.S.Store old mid end c.in-Err.error (kept early) settled inside c.commit.ensures.ended (c.in-Err.ensures.err late));
      crash = subst (λ h. Survives (state g.S.Store old) (state g.S.Store h) (MayBeWritten (g.W.Writing.over c.args.what.now) turns (state g.S.Store old))) same whole;
    }
