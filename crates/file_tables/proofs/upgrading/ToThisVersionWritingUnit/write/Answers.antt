use Rattle.sqlite.specs.Held.{state}
use Rattle.sqlite.specs.State.{HasCleanDisk}
use Rattle.file_tables.proofs.Begins.{before, inside_known}
use Rattle.file_tables.proofs.Upgrades.{upgraded}
use Rattle.file_tables.proofs.upgrading.ToThisVersionWritingUnit.write.Goals as goal

pub returns-clause-written : goal.returns-clause-written
returns-clause-written g c clean inside known listed =
    let s0 = state g.S.Store c.args.tx.now.conn.now in
    let s1 = state g.S.Store c.add_tables.new.tx.conn.now in
    let s2 = state g.S.Store c.add_rows.new.tx.conn.now in
    let s3 = state g.S.Store c.add_rows-2.new.tx.conn.now in
    let s4 = state g.S.Store c.put.new.tx.conn.now in
    let what = c.args.self.now in
    let last : HasCleanDisk s3 = before s3 s4 c.put.ensures.inside.crash clean in
    let late : HasCleanDisk s2 = before s2 s3 c.add_rows-2.ensures.inside.crash last in
    let early : HasCleanDisk s1 = before s1 s2 c.add_rows.ensures.inside.crash late in
    let grown = c.in_ok-add_tables.ensures.grown early (record { known = known; inside = inside; listed = listed }) in
    let out = c.in_ok-add_rows.ensures.written late (inside_known s1 grown.inside grown.known) in
    let paid = c.in_ok-add_rows-2.ensures.written last (inside_known s2 out.inside out.known) in
    upgraded c.put.result what.shop.now what.exits.now what.spents.now what.from s0 s1 s2 s3 s4 grown out paid (c.put.ensures.written clean (inside_known s3 paid.inside paid.known))
