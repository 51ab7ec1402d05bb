use Rattle.std.proofs.Common.{◌≡◌, codes}
use Rattle.sqlite.specs.Held.{state}
use Rattle.file_schema.proofs.WholeLemmas.{prepared}
use Rattle.file_schema.proofs.writing.test_open.Goals as goal

pub returns-clause-inside : goal.returns-clause-inside
returns-clause-inside g c = record {
  same = c.prepare.ensures.same_reference;
  kept = λ clean. prepared (λ s. s.text ≡ codes "SELECT 1") c.prepare.result (state g.S.Store c.args.tx.now.conn.now) (state g.S.Store c.prepare.new.self.conn.now) (codes "SELECT 1") (c.prepare.ensures.ok clean) (c.prepare.ensures.err clean);
  crash = c.prepare.ensures.survives;
}
