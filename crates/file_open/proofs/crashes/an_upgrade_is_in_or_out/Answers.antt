use Rattle.std.proofs.Common.{inl, inr}
use Rattle.sqlite.specs.Held.{state}
use Rattle.file_open.proofs.Upgraded.{upgraded_opens, found_upgraded, found_as_it_was}
use Rattle.file_open.proofs.crashes.an_upgrade_is_in_or_out.Goals as goal

pub returns-clause-done : goal.returns-clause-done
returns-clause-done g c = λ from head t s ks its written. upgraded_opens from head t s ks (state g.S.Store c.args.old.now) (state g.S.Store c.args.opened.now) its (state g.S.Store c.args.new.now).now written.turned

pub returns-clause-crash : goal.returns-clause-crash
returns-clause-crash g c = λ from head t s ks its crash found.
    let old = state g.S.Store c.args.old.now in
    let fresh = state g.S.Store c.args.fresh.now in
    let opened = state g.S.Store c.args.opened.now in
    let listed = (c.schema_known-2.ensures found.at.is_open).0 in
    elim (crash.crash found.clean fresh.now.trees found.may) [
      | inl may ↦ inl (found_as_it_was old fresh its.settled listed (c.schema_known.ensures its.is_open).0 (g.met.S.Store.settled c.args.old.now.store fresh.now.trees its.is_open may))
      | inr may ↦ inr (found_upgraded from head t s ks old opened its fresh listed may)
    ]
