use Rattle.std.proofs.Common.{arith}
use Rattle.book_counters.proofs.counters.Counters.count_all.Goals as goal

pub count_again-requires-clause-fits : goal.count_again-requires-clause-fits
count_again-requires-clause-fits c =
    let fits = rw (← c.self.view_is) at c.requires in
    record {
      rows = omega (arith, fits);
      usages = omega (arith, fits);
      redeems = omega (arith, fits);
      spents = omega (arith, fits);
      holds = omega (arith, fits);
    }

pub invariant_of-self : goal.invariant_of-self
invariant_of-self c = c.count_again.ensures.kept
