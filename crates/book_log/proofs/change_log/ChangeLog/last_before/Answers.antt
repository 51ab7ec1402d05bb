use Rattle.std.proofs.Common.{None, subst, sym, arith}
use Rattle.model_rows.specs.declared.changes.Change.TheVariants.{DropWaiting}
use Rattle.book_log.specs.Places.{number}
use Rattle.book_log.proofs.EarlierPlaces.{IsLater, later_within, later_goes_on, later_lowers, later_ends}
use Rattle.book_log.proofs.change_log.ChangeLog.last_before.Goals as goal

pub returns-then-place-count-clause-value : goal.returns-then-place-count-clause-value
returns-then-place-count-clause-value c =
    let later = subst (IsLater (number c.args.table) c.args.id c.args.self.now c.args.count) c.in-Some.is c.earlier.invariant in
    later_ends (number c.args.table) c.args.id c.args.self.now c.args.count _ later c.if-place-count.true

pub before-found-requires : goal.before-found-requires
before-found-requires c =
    let later = subst (IsLater (number c.args.table) c.args.id c.args.self.now c.args.count) c.in-Some.is c.earlier.invariant in
    later_within (number c.args.table) c.args.id c.args.self.now c.args.count c.in-Some.place later

pub earlier-smaller : goal.earlier-smaller
earlier-smaller c =
    let later = subst (IsLater (number c.args.table) c.args.id c.args.self.now c.args.count) c.in-Some.is c.earlier.invariant in
    rw (c.in-Some.is, c.before-found.ensures (DropWaiting 0)) (later_lowers (number c.args.table) c.args.id c.args.self.now c.args.count c.in-Some.place (DropWaiting 0) later)

pub earlier-preserved : goal.earlier-preserved
earlier-preserved c =
    let later = subst (IsLater (number c.args.table) c.args.id c.args.self.now c.args.count) c.in-Some.is c.earlier.invariant in
    subst (IsLater (number c.args.table) c.args.id c.args.self.now c.args.count) (sym (c.before-found.ensures (DropWaiting 0))) (later_goes_on (number c.args.table) c.args.id c.args.self.now c.args.count c.in-Some.place (DropWaiting 0) later (omega (arith, c.if-place-count.false)))

pub returns-clause-value : goal.returns-clause-value
returns-clause-value c =
    later_ends (number c.args.table) c.args.id c.args.self.now c.args.count None (subst (IsLater (number c.args.table) c.args.id c.args.self.now c.args.count) c.in_default.is c.earlier.invariant) tt
