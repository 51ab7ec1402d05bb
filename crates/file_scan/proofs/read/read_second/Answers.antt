use Rattle.std.proofs.Common.{rules}
use Rattle.file_scan.proofs.read.read_second.Goals as goal

pub returns-in-Ok-clause-reads : goal.returns-in-Ok-clause-reads
returns-in-Ok-clause-reads g c = record {
  loaded = λ clean db at known.
      let all = c.in-Ok.ensures.loaded clean db at known in
      (c.with_later.ensures.held db.trees all.0, rw (c.with_later.ensures.releases, c.with_later.ensures.exits) (record { releases = all.1.releases; exits = all.1.exits }));
  limits = search rules;
  found = λ clean db at. c.in-Ok.ensures.found clean db at;
  refused = λ clean db at. tt;
  store = λ clean db at known. tt;
  same = λ clean. c.in-Ok.ensures.same clean;
  only = c.in-Ok.ensures.only;
}
