use Rattle.std.proofs.Common.{sym, ◌∙◌}
use Rattle.sqlite.specs.Held.{state}
use Rattle.file_tables.proofs.AnswerLemmas.{kept_one}
use Rattle.file_tables.proofs.writes.answers.keep_lasting.Goals as goal

pub returns-in-Some : goal.returns-in-Some
returns-in-Some g c = record {
  inside = c.keep.ensures.inside;
  written = λ clean at.
      kept_one c.keep.result c.args.at c.args.number c.args.kept c.in-Some.answer (state g.S.Store c.args.tx.now.conn.now) (state g.S.Store c.keep.new.tx.conn.now) c.in-Some.is (sym c.lasts.ensures ∙ c.if-lasts.true) (c.keep.ensures.written clean at);
}
