use Rattle.std.proofs.Common.{None, subst, sym, arith}
use Rattle.book_tally.proofs.Earlier.{IsLater, later_within, later_goes_on, later_lowers, later_ends}
use Rattle.book_tally.proofs.Newest.{blank}
use Rattle.book_tally.proofs.tally.Tally.newest_before.Goals as goal

pub returns-then-place-mark-clause-value : goal.returns-then-place-mark-clause-value
returns-then-place-mark-clause-value g c =
    later_ends c.args.key c.args.self.now c.args.mark (blank g.A.Amount.zero) _ (subst (IsLater c.args.key c.args.self.now c.args.mark) c.in-Some.is c.earlier.invariant) c.if-place-mark.true

pub earlier-found-requires : goal.earlier-found-requires
earlier-found-requires g c =
    later_within c.args.key c.args.self.now c.args.mark c.in-Some.place (subst (IsLater c.args.key c.args.self.now c.args.mark) c.in-Some.is c.earlier.invariant)

pub earlier-smaller : goal.earlier-smaller
earlier-smaller g c =
    let later = subst (IsLater c.args.key c.args.self.now c.args.mark) c.in-Some.is c.earlier.invariant in
    rw (c.in-Some.is, c.earlier-found.ensures (blank g.A.Amount.zero)) (later_lowers c.args.key c.args.self.now c.args.mark c.in-Some.place (blank g.A.Amount.zero) later)

pub earlier-preserved : goal.earlier-preserved
earlier-preserved g c =
    let later = subst (IsLater c.args.key c.args.self.now c.args.mark) c.in-Some.is c.earlier.invariant in
    subst (IsLater c.args.key c.args.self.now c.args.mark) (sym (c.earlier-found.ensures (blank g.A.Amount.zero))) (later_goes_on c.args.key c.args.self.now c.args.mark c.in-Some.place (blank g.A.Amount.zero) later (omega (arith, c.if-place-mark.false)))

pub returns-clause-value : goal.returns-clause-value
returns-clause-value g c =
    later_ends c.args.key c.args.self.now c.args.mark (blank g.A.Amount.zero) None (subst (IsLater c.args.key c.args.self.now c.args.mark) c.in_default.is c.earlier.invariant) tt
