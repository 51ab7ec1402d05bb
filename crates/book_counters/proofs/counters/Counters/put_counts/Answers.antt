use Rattle.std.proofs.Common.{arith}
use Rattle.book_counters.proofs.counters.Counters.put_counts.Goals as goal

pub settle-requires-clause-fits : goal.settle-requires-clause-fits
settle-requires-clause-fits c =
    let fits = rw (← c.self.view_is) at c.requires.room in
    record {
      rows = omega (arith, fits);
      usages = omega (arith, fits);
      redeems = omega (arith, fits);
      spents = omega (arith, fits);
      holds = omega (arith, fits);
    }

pub invariant_of-self : goal.invariant_of-self
invariant_of-self c = c.settle.ensures.kept
