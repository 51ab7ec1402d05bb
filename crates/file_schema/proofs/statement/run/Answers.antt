use Rattle.std.proofs.Common.{Err}
use Rattle.sqlite.specs.Values.{bound}
use Rattle.file_schema.proofs.Inside.{kept}
use Rattle.file_schema.proofs.statement.run.Goals as goal

pub returns-in-Err-clause-inside : goal.returns-in-Err-clause-inside
returns-in-Err-clause-inside g c = record {
  same = c.in-Err.ensures.same_reference;
  kept = λ clean. kept g.S.Store c.args.sql.now (bound c.args.params.now) c.args.tx.now.conn.now c.execute.new.self.conn.now (Err c.in-Err.error) (λ out. (c.in-Err.ensures.ended out).1) (c.in-Err.ensures.runs clean);
  crash = c.in-Err.ensures.survives;
}
