use Rattle.std.proofs.Common.{arith, filter, rules}
use Rattle.sqlite.specs.Held.{state}
use Rattle.sqlite.specs.State.{HasCleanDisk}
use Rattle.model_answers.specs.KeptAnswers.{lasts}
use Rattle.model_answers.specs.ShopView.{kept_listed}
use Rattle.file_rows.specs.Changes.{Changes}
use Rattle.file_meaning.specs.Made.{with_listed}
use Rattle.file_tables.proofs.AnswerLemmas.{answer_kept}
use Rattle.file_tables.proofs.Steps.{inside_fit, on_ok}
use Rattle.file_tables.proofs.writes.answers.write_answer.Goals as goal

pub returns : goal.returns
returns g c = record {
  inside = search rules;
  written = λ clean at.
      let s0 = state g.S.Store c.args.tx.now.conn.now in
      let s1 = state g.S.Store c.forget.new.tx.conn.now in
      let s2 = state g.S.Store c.keep_lasting.new.tx.conn.now in
      let early : HasCleanDisk s1 = omega (arith, c.keep_lasting.ensures.inside.crash.clean) in
      let gone = c.in_ok-forget.ensures.written early at in
      on_ok c.keep_lasting.result (Changes (with_listed c.args.number (filter (λ k. lasts c.args.at k.at) (kept_listed c.args.kept))) s1 s2) _ (c.keep_lasting.ensures.written clean (inside_fit _ _ s0 s1 gone))
      (λ h. answer_kept c.args.at c.args.number c.args.kept s0 s1 s2 gone h);
}
