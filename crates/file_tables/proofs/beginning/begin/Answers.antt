use Rattle.std.proofs.Common.{rules}
use Rattle.sqlite.specs.Held.{state}
use Rattle.file_schema.specs.Blank.{blank_schema}
use Rattle.file_schema.specs.Whole.{IsOver}
use Rattle.file_tables.proofs.Upgrades.{written_begun, crash_begun}
use Rattle.file_tables.proofs.beginning.begin.Goals as goal

pub returns-in-Ok-clause-all : goal.returns-in-Ok-clause-all
returns-in-Ok-clause-all g c clean =
    let old = state g.S.Store c.args.connection.now in
    let new = state g.S.Store c.upgrade.new.connection in
    let over : IsOver blank_schema old = search rules in
    written_begun c.args.shop.now old new (c.in-Ok.ensures.all clean over)

pub returns-in-Ok-clause-crash : goal.returns-in-Ok-clause-crash
returns-in-Ok-clause-crash g c = crash_begun c.args.shop.now (state g.S.Store c.args.connection.now) (state g.S.Store c.upgrade.new.connection) c.upgrade.ensures.crash

pub returns-in-Err-clause-crash : goal.returns-in-Err-clause-crash
returns-in-Err-clause-crash g c = crash_begun c.args.shop.now (state g.S.Store c.args.connection.now) (state g.S.Store c.upgrade.new.connection) c.upgrade.ensures.crash
