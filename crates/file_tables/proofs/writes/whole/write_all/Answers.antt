use Rattle.std.proofs.Common.{◌≡◌, ◌∙◌, ◌+◌, arith, ap, rules}
use Rattle.sqlite.specs.Held.{state}
use Rattle.sqlite.specs.State.{HasCleanDisk}
use Rattle.file_rows.specs.Changes.{ChangesFit}
use Rattle.model_answers.specs.ShopView.{kept_listed}
use Rattle.file_meaning.specs.Free.{IsFree}
use Rattle.file_meaning.specs.Made.{next_by}
use Rattle.file_tables.specs.Steps.{next_each}
use Rattle.file_tables.proofs.Steps.{inside_after, inside_fit}
use Rattle.file_tables.proofs.WholeLemmas.{each_change, same_next, all_written}
use Rattle.file_tables.proofs.writes.whole.write_all.Goals as goal

pub returns-in-Some : goal.returns-in-Some
returns-in-Some g c = record {
  inside = search rules;
  written = λ clean at.
      let s0 = state g.S.Store c.args.tx.now.conn.now in
      let s2 = state g.S.Store c.put.new.tx.conn.now in
      let s3 = state g.S.Store c.write_each.new.tx.conn.now in
      let s4 = state g.S.Store c.write_counts.new.tx.conn.now in
      let s5 = state g.S.Store c.write_answer.new.tx.conn.now in
      let changes = c.args.commit.now.changes.now in
      let from = c.args.commit.now.from in
      let number = c.in_ok-number.number in
      let clean4 : HasCleanDisk s4 = omega (arith, c.write_answer.ensures.inside.crash.clean) in
      let clean3 : HasCleanDisk s3 = omega (arith, c.write_counts.ensures.inside.crash.clean) in
      let clean2 : HasCleanDisk s2 = omega (arith, c.write_each.ensures.inside.crash.clean) in
      let a = c.in_ok-put.ensures.written clean2 at in
      let b : (number ≡ next_each next_by changes from) × ChangesFit (IsFree from) (each_change changes from) s2 s3 = c.in_ok-number.ensures.written clean3 (inside_after _ s0 s2 a) in
      let d = c.in_ok-write_counts.ensures.written clean4 (inside_fit _ _ s2 s3 b.1) in
      let e = c.in_ok-write_answer.ensures.written clean (inside_fit _ _ s3 s4 d) in
      let is = b.0 ∙ same_next changes from in
      let sum : c.in-Some.free ≡ number + 1 = search rules in
      (sum ∙ ap (λ n. n + 1) is, all_written c.args.commit.now.shop.now changes c.args.commit.now.counts.now from number c.args.commit.now.at (kept_listed c.args.commit.now.kept) s0 s2 s3 s4 s5 is a b.1 d e);
}
