use Rattle.std.proofs.Common.{sym, subst}
use Rattle.sqlite.specs.Held.{state}
use Rattle.file_reads.specs.Damage.{IsDamaged, IsFor}
use Rattle.file_reads.proofs.Causes.{if_err, unread_for, failed}
use Rattle.file_reads.proofs.Loads.{shown_keeps, reading_keeps, failed_keeps}
use Rattle.file_reads.proofs.loaded.rows_of.Goals as goal

pub returns-in-Ok-clause-refused : goal.returns-in-Ok-clause-refused
returns-in-Ok-clause-refused g c clean reads =
    if_err c.read_rows.result _ _ c.read_rows.ensures.refused
    (λ e. unread_for _ _ _ (λ bad. (c.in-Ok.rows.items, c.in-Ok.ensures.ok clean, subst (IsDamaged g.T.Loaded.as_row g.T.Loaded.fits) c.as_slice.ensures.value bad)) e)

pub returns-in-Err-clause-refused : goal.returns-in-Err-clause-refused
returns-in-Err-clause-refused g c clean reads =
    subst (IsFor _ _) (sym c.of.ensures) (failed (state g.S.Store c.args.tx.now.conn.now) (state g.S.Store c.query_all.new.self.conn.now) _ _ c.in-Err.error _ reads (c.in-Err.ensures.err clean))

pub returns-in-Ok-clause-kept : goal.returns-in-Ok-clause-kept
returns-in-Ok-clause-kept g c clean inside =
    shown_keeps (state g.S.Store c.args.tx.now.conn.now) (state g.S.Store c.query_all.new.self.conn.now) _ _ _ inside (c.in-Ok.ensures.ok clean)

pub returns-in-Err-clause-kept : goal.returns-in-Err-clause-kept
returns-in-Err-clause-kept g c clean inside =
    failed_keeps (state g.S.Store c.args.tx.now.conn.now) (state g.S.Store c.query_all.new.self.conn.now) _ _ _ (c.in-Err.ensures.err clean)

pub returns-in-Ok-clause-kept_reading : goal.returns-in-Ok-clause-kept_reading
returns-in-Ok-clause-kept_reading g c clean reads =
    reading_keeps (state g.S.Store c.args.tx.now.conn.now) (state g.S.Store c.query_all.new.self.conn.now) _ _ _ reads (c.in-Ok.ensures.ok clean)

pub returns-in-Err-clause-kept_reading : goal.returns-in-Err-clause-kept_reading
returns-in-Err-clause-kept_reading g c clean reads =
    failed_keeps (state g.S.Store c.args.tx.now.conn.now) (state g.S.Store c.query_all.new.self.conn.now) _ _ _ (c.in-Err.ensures.err clean)
