use Rattle.std.proofs.Common.{inl, inr, map, sym}
use Rattle.sqlite.specs.Held.{state}
use Rattle.file_open.proofs.Upgraded.{as_before, found_as_it_was, found_brought}
use Rattle.file_open.proofs.crashes.a_migration_is_in_or_out.Goals as goal

pub returns-clause-done : goal.returns-clause-done
returns-clause-done g c = λ from it.
    let new = state g.S.Store c.args.new.now in
    as_before from it.head it.tables it.office (map (λ r. r.kept) it.tables.kept) (state g.S.Store c.args.old.now) (state g.S.Store c.args.opened.now) it.held new.now it.holds.known it.holds.held.shown

pub returns-clause-crash : goal.returns-clause-crash
returns-clause-crash g c = λ from at of crash found.
    let old = state g.S.Store c.args.old.now in
    let fresh = state g.S.Store c.args.fresh.now in
    let listed = (c.schema_known-2.ensures found.at.is_open).0 in
    elim (crash.crash found.clean fresh.now.trees found.may) [
      | inl may ↦ inl (found_as_it_was old fresh (sym at.committed) listed (c.schema_known.ensures at.is_open).0 (g.met.S.Store.settled c.args.old.now.store fresh.now.trees at.is_open may))
      | inr may ↦ inr (found_brought from old fresh (state g.S.Store c.args.opened.now) at of listed may)
    ]
