use Rattle.std.proofs.Common.{refl}
use Rattle.sqlite.specs.Held.{state}
use Rattle.file_meaning.specs.Free.{IsFree}
use Rattle.file_tables.proofs.Steps.{fits_all}
use Rattle.file_tables.proofs.writes.rows.put_row.Goals as goal

pub returns : goal.returns
returns g c = record {
  inside = c.put.ensures.inside;
  written = λ clean at. (refl, fits_all (IsFree c.args.from) _ (state g.S.Store c.args.tx.now.conn.now) (state g.S.Store c.put.new.tx.conn.now) (c.in_ok-put.ensures.written clean at));
}
