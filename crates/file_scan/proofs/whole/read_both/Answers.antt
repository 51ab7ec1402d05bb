use Rattle.std.proofs.Common.{◌⊎◌, ◌∙◌, max, Err, IfErr, ap, sym, subst, arith, rules}
use Rattle.sqlite.specs.Held.{state}
use Rattle.sqlite.specs.State.{HasCleanDisk}
use Rattle.file_schema.specs.declared.error.RowError.TheVariants.{Damaged}
use Rattle.file_reads.specs.Damage.{IsFor}
use Rattle.file_reads.specs.Since.{IsSince}
use Rattle.file_reads.proofs.Causes.{for}
use Rattle.file_reads.proofs.SinceLemmas.{since_left, since_right}
use Rattle.sqlite.proofs.Callers.{unchanged_then}
use Rattle.file_scan.proofs.CauseLemmas.{of_first, of_second}
use Rattle.file_scan.proofs.ReadLemmas.{reads_then, was_err}
use Rattle.file_scan.proofs.Shown.{damaged_then, was_damaged}
use Rattle.file_scan.proofs.Stays.{at_same}
use Rattle.file_scan.specs.Stopped.{IsStopped, WhereStopped}
use Rattle.file_scan.proofs.Stopping.{err_stopped, stopped_later, where_stopped}
use Rattle.file_scan.proofs.whole.read_both.Goals as goal
use Rattle.file_scan.proofs.whole.read_both.Goals.{in-Ok-read-2, in-Err-read-2}

pub returns-in-Ok-read : goal.returns-in-Ok-read
returns-in-Ok-read g c = record {
  loaded = λ clean db at known.
      let mid = state g.S.Store c.read.new.conn in
      let clean_mid : HasCleanDisk mid = omega (arith, clean, c.read-in-Ok.ensures.only.crash.clean) in
      let at_mid = at_same (state g.S.Store c.args.conn.now) mid (c.in-Ok.ensures.same clean_mid) db at in (
        c.in-Ok.ensures.loaded clean_mid db at (since_left g.A.Whole.since g.B.Whole.since db.schema known),
        c.in-Ok-read.ensures.loaded clean db at_mid (since_right g.A.Whole.since g.B.Whole.since db.schema known),
      );
  limits = (c.in-Ok.ensures.limits, c.in-Ok-read.ensures.limits);
  found = λ clean db at.
      let mid = state g.S.Store c.read.new.conn in
      let clean_mid : HasCleanDisk mid = omega (arith, clean, c.read-in-Ok.ensures.only.crash.clean) in
      let at_mid = at_same (state g.S.Store c.args.conn.now) mid (c.in-Ok.ensures.same clean_mid) db at in
      (c.in-Ok.ensures.found clean_mid db at, c.in-Ok-read.ensures.found clean db at_mid);
  refused = λ clean db at. tt;
  store = λ clean db at known. tt;
  same = λ clean.
      let mid = state g.S.Store c.read.new.conn in
      let clean_mid : HasCleanDisk mid = omega (arith, clean, c.read-in-Ok.ensures.only.crash.clean) in
      unchanged_then (state g.S.Store c.args.conn.now) mid (state g.S.Store c.read-in-Ok.new.conn) (c.in-Ok.ensures.same clean_mid) (c.in-Ok-read.ensures.same clean);
  only = reads_then g.S.Store c.args.conn.now c.read.new.conn c.read-in-Ok.new.conn c.read.ensures.only c.read-in-Ok.ensures.only;
}

pub returns-in-Err-read : goal.returns-in-Err-read
returns-in-Err-read g c = record {
  loaded = λ clean db at known. tt;
  limits = tt;
  found = λ clean db at.
      let mid = state g.S.Store c.read.new.conn in
      let clean_mid : HasCleanDisk mid = omega (arith, clean, c.read-in-Ok.ensures.only.crash.clean) in
      let at_mid = at_same (state g.S.Store c.args.conn.now) mid (c.in-Ok.ensures.same clean_mid) db at in
      damaged_then c.in-Err-read.error _ _ (c.in-Err-read.ensures.found clean db at_mid) (λ other. (c.in-Ok.ensures.found clean_mid db at, other));
  refused = λ clean db at.
      let mid = state g.S.Store c.read.new.conn in
      let clean_mid : HasCleanDisk mid = omega (arith, clean, c.read-in-Ok.ensures.only.crash.clean) in
      let at_mid = at_same (state g.S.Store c.args.conn.now) mid (c.in-Ok.ensures.same clean_mid) db at in
      of_second (g.A.Whole.lacks db.schema) (g.B.Whole.lacks db.schema) (IsSince (max g.A.Whole.since g.B.Whole.since) db.schema) (g.A.Whole.is_damaged db.trees) (g.B.Whole.is_damaged db.trees) c.in-Err-read.error
      (for (g.B.Whole.lacks db.schema) (g.B.Whole.lacks db.schema) _ _ (λ f. f) (λ d known. d (since_right g.A.Whole.since g.B.Whole.since db.schema known)) c.in-Err-read.error (c.in-Err-read.ensures.refused clean db at_mid));
  store = λ clean db at known.
      let old = state g.S.Store c.args.conn.now in
      let mid = state g.S.Store c.read.new.conn in
      let new = state g.S.Store c.read-in-Ok.new.conn in
      let clean_mid : HasCleanDisk mid = omega (arith, clean, c.read-in-Ok.ensures.only.crash.clean) in
      let same = c.in-Ok.ensures.same clean_mid in
      where_stopped c.in-Err-read.error _ _ (c.in-Err-read.ensures.store clean db (at_same old mid same db at) (since_right g.A.Whole.since g.B.Whole.since db.schema known)) (stopped_later old mid new same c.read.ensures.only.crash);
  same = λ clean.
      let mid = state g.S.Store c.read.new.conn in
      let clean_mid : HasCleanDisk mid = omega (arith, clean, c.read-in-Ok.ensures.only.crash.clean) in
      damaged_then c.in-Err-read.error _ _ (c.in-Err-read.ensures.same clean)
      (λ more. unchanged_then (state g.S.Store c.args.conn.now) mid (state g.S.Store c.read-in-Ok.new.conn) (c.in-Ok.ensures.same clean_mid) more);
  only = reads_then g.S.Store c.args.conn.now c.read.new.conn c.read-in-Ok.new.conn c.read.ensures.only c.read-in-Ok.ensures.only;
}

pub returns-after-read-3 : goal.returns-after-read-3
returns-after-read-3 g c = record {
  loaded = search rules;
  limits = search rules;
  found = search rules;
  refused = λ clean db at.
      let mid = state g.S.Store c.read.new.conn in
      let clean_mid : HasCleanDisk mid = omega (arith, clean, c.read-in-Err-Damaged.ensures.only.crash.clean) in
      let at_mid = at_same (state g.S.Store c.args.conn.now) mid (was_damaged c.read.result _ (c.in-Err-Damaged.is ∙ ap Err c.in-Err-Damaged.field-0-is) (c.read.ensures.same clean_mid)) db at in
      let F = g.A.Whole.lacks db.schema in
      let G = g.B.Whole.lacks db.schema in
      let D = g.A.Whole.is_damaged db.trees in
      let E = g.B.Whole.is_damaged db.trees in
      let a = g.A.Whole.since in
      let b = g.B.Whole.since in
      let K = IsSince (max a b) db.schema in
      let own : IsFor F (IsSince a db.schema → D) Damaged = subst (IsFor F (IsSince a db.schema → D)) c.in-Err-Damaged.field-0-is (c.in-Err-Damaged.ensures.refused clean_mid db at) in
      let first : IsFor F (K → D) Damaged = λ known. own (since_left a b db.schema known) in
      let second = c.read-in-Err-Damaged.ensures.refused clean db at_mid in
      elim c.match-read-3.branch [
        | in-Ok-read-2 w ↦ subst (λ r. IfErr r (IsFor (F ⊎ G) (K → D ⊎ E))) (sym w.result-is) (of_first F G K D E Damaged first)
        | in-Err-read-2 w ↦ subst (λ r. IfErr r (IsFor (F ⊎ G) (K → D ⊎ E))) (sym w.result-is) (of_second F G K D E _
            (for G G (IsSince b db.schema → E) (K → E) (λ f. f) (λ d known. d (since_right a b db.schema known)) _ (was_err c.read-in-Err-Damaged.result _ _ w.in-Err-read-2.is second)))
      ];
  store = λ clean db at known.
      let old = state g.S.Store c.args.conn.now in
      let mid = state g.S.Store c.read.new.conn in
      let new = state g.S.Store c.read-in-Err-Damaged.new.conn in
      let clean_mid : HasCleanDisk mid = omega (arith, clean, c.read-in-Err-Damaged.ensures.only.crash.clean) in
      let same = was_damaged c.read.result _ (c.in-Err-Damaged.is ∙ ap Err c.in-Err-Damaged.field-0-is) (c.read.ensures.same clean_mid) in
      let second = err_stopped c.read-in-Err-Damaged.result _ _ (c.read-in-Err-Damaged.ensures.store clean db (at_same old mid same db at) (since_right g.A.Whole.since g.B.Whole.since db.schema known)) (stopped_later old mid new same c.read.ensures.only.crash) in
      elim c.match-read-3.branch [
        | in-Ok-read-2 w ↦ subst (λ r. IfErr r (WhereStopped (IsStopped old new))) (sym w.result-is) tt
        | in-Err-read-2 w ↦ subst (λ r. IfErr r (WhereStopped (IsStopped old new))) (sym w.result-is) (was_err c.read-in-Err-Damaged.result _ _ w.in-Err-read-2.is second)
      ];
  same = search rules;
  only = reads_then g.S.Store c.args.conn.now c.read.new.conn c.read-in-Err-Damaged.new.conn c.read.ensures.only c.read-in-Err-Damaged.ensures.only;
}

pub returns-in-Err : goal.returns-in-Err
returns-in-Err g c = record {
  loaded = λ clean db at known. tt;
  limits = tt;
  found = search rules;
  refused = λ clean db at.
      let F = g.A.Whole.lacks db.schema in
      let D = g.A.Whole.is_damaged db.trees in
      let a = g.A.Whole.since in
      let b = g.B.Whole.since in
      let K = IsSince (max a b) db.schema in
      of_first F (g.B.Whole.lacks db.schema) K D (g.B.Whole.is_damaged db.trees) c.in-Err.error
      (for F F (IsSince a db.schema → D) (K → D) (λ f. f) (λ d known. d (since_left a b db.schema known)) c.in-Err.error (c.in-Err.ensures.refused clean db at));
  store = λ clean db at known. c.in-Err.ensures.store clean db at (since_left g.A.Whole.since g.B.Whole.since db.schema known);
  same = search rules;
  only = c.read.ensures.only;
}
