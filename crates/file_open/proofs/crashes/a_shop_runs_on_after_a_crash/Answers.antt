use Rattle.std.proofs.Common.{[], ◌++◌, ◌∷◌, map, refl}
use Rattle.sqlite.specs.Held.{state}
use Rattle.file_tables.proofs.Told.{one_shop}
use Rattle.file_tables.specs.Shops.{holds_reordered}
use Rattle.office_deliveries.specs.Shops.{shop_after}
use Rattle.office_deliveries.specs.Histories.{Crashed, running_from}
use Rattle.office_deliveries.proofs.Crashes.{come_from_opening, happens_on}
use Rattle.office_deliveries.proofs.Running.{reopened}
use Rattle.file_open.proofs.Again.{found_known}
use Rattle.file_open.proofs.Tokens.{known_as}
use Rattle.file_open.proofs.crashes.a_shop_runs_on_after_a_crash.Goals as goal

pub returns-clause-reopened : goal.returns-clause-reopened
returns-clause-reopened g c = λ found z o.
    let trees = (state g.S.Store c.args.fresh.now).now.trees in
    let ks = map (λ r. r.kept) o.tables.kept in
    record {
      may = record { clean = found.clean; trees = trees; may = found.may; only = λ head tables it held stand _. one_shop trees o.tables tables o.held held c.args.after.now.head head z it.state ks it.kept o.stand stand };
      held = o.holds;
      only = o.leaves;
    }

pub returns-clause-known : goal.returns-clause-known
returns-clause-known g c = λ house of found. found_known _ (state g.S.Store c.args.fresh.now) house of.left c.schema_known.ensures found

pub returns-clause-house : goal.returns-clause-house
returns-clause-house g c = λ house of found z o.
    let left = of.left (state g.S.Store c.args.fresh.now).now.trees found.may in
    known_as (state g.S.Store c.args.fresh.now).now.trees left.1.0 c.args.after.now.head c.args.after.now.next_row z (state g.S.Store c.args.after.now.connection) house left.1.1 o

pub returns-clause-runs : goal.returns-clause-runs
returns-clause-runs g c = λ words s r running found z o.
    reopened _ _ (λ t a ks js held more. holds_reordered _ _ _ a ks js held more) words c.args.before.now c.args.after.now s _ r running (returns-clause-reopened g c found z o)

pub returns-clause-stands : goal.returns-clause-stands
returns-clause-stands g c = λ words p events s r happened running found z o.
    let again = returns-clause-runs g c words s r running found z o in
    let first = running_from words (shop_after words p []) in
    let more = happens_on words first events (Crashed ∷ []) r (running_from words again.0) happened (again.0, again.1, refl) in
    (again.0, more, again.2, come_from_opening words p (events ++ Crashed ∷ []) (running_from words again.0) more)
