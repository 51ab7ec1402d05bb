use Rattle.std.proofs.Common.{sym, subst}
use Rattle.model_invariant.specs.Positions.{CountFrom}
use Rattle.model_invariant.proofs.ByNumber.{counted_is}
use Rattle.model_invariant.proofs.numbers.by_positionid.Goals as goal

pub returns-then-are_counted : goal.returns-then-are_counted
returns-then-are_counted c = sym (counted_is 1 c.args.positions (subst (CountFrom 1) c.as_slice.ensures (c.are_counted.ensures.0 c.if-are_counted.true)))
