use Rattle.file_scan.proofs.read.read_third.Goals as goal

pub returns-in-Ok : goal.returns-in-Ok
returns-in-Ok g c = record {
  loaded = λ clean db at known.
      let all = c.in-Ok.ensures.loaded clean db at known in
      let its = c.with_later.ensures in (
        its.held db.trees all.0,
        (
          rw (its.releases, its.exits) (record { releases = all.1.0.releases; exits = all.1.0.exits }),
          rw (its.budgets, its.spents, its.discounts) (record { budgets = all.1.1.budgets; spents = all.1.1.spents; discounts = all.1.1.discounts }),
        ),
      );
  limits = let fit = c.in-Ok.ensures.limits in c.with_later.ensures.limits fit.0 fit.1.1.0 fit.1.1.1;
  found = λ clean db at. c.in-Ok.ensures.found clean db at;
  refused = λ clean db at. tt;
  store = λ clean db at known. tt;
  same = λ clean. c.in-Ok.ensures.same clean;
  only = c.in-Ok.ensures.only;
}
