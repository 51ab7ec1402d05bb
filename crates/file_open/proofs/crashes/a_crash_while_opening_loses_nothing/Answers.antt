use Rattle.sqlite.specs.Held.{state}
use Rattle.file_open.proofs.Again.{found_again}
use Rattle.file_open.proofs.crashes.a_crash_while_opening_loses_nothing.Goals as goal

pub returns-clause-found : goal.returns-clause-found
returns-clause-found g c = λ found crash more.
    found_again (state g.S.Store c.args.before.now.connection) (state g.S.Store c.args.fresh.now) (state g.S.Store c.args.tried.now) (state g.S.Store c.args.again.now) (λ db may. g.met.S.Store.settled c.args.fresh.now.store db found.at.is_open may) c.schema_known.ensures c.schema_known-2.ensures found crash more

pub returns-clause-house : goal.returns-clause-house
returns-clause-house g c = λ house of found crash more z o. (c.a_shop_runs_on_after_a_crash.ensures.house house of (returns-clause-found g c found crash more).0 z o).0

pub returns-clause-runs : goal.returns-clause-runs
returns-clause-runs g c = λ words s r running found crash more z o.
    c.a_shop_runs_on_after_a_crash.ensures.runs words s r running (returns-clause-found g c found crash more).0 z o
