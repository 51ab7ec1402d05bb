use Rattle.sqlite.specs.Held.{state}
use Rattle.sqlite.specs.State.{HasCleanDisk}
use Rattle.file_tables.proofs.Begins.{before, inside_known, inside_after, has_token}
use Rattle.file_tables.proofs.add.NewTokenWritingUnit.write.Goals as goal

pub returns-clause-written : goal.returns-clause-written
returns-clause-written g c clean inside known listed =
    let s0 = state g.S.Store c.args.tx.now.conn.now in
    let s1 = state g.S.Store c.put.new.tx.conn.now in
    let s2 = state g.S.Store c.insert.new.tx.conn.now in
    let shop = c.args.self.now.shop.now in
    let token = c.args.self.now.token.now in
    let early : HasCleanDisk s1 = before s1 s2 c.insert.ensures.inside.crash clean in
    let a = c.in_ok-put.ensures.written early (inside_known s0 inside known) in
    has_token c.insert.result shop token s0 s1 s2 listed a (c.insert.ensures.written clean (inside_after _ s0 s1 a))
