use Rattle.std.proofs.Common.{rules}
use Rattle.file_scan.proofs.read.read_first.Goals as goal

pub returns-in-Ok-clause-reads : goal.returns-in-Ok-clause-reads
returns-in-Ok-clause-reads g c = record {
  loaded = λ clean db at known. c.with_later.ensures.held db.trees (c.in-Ok.ensures.loaded clean db at known);
  limits = search rules;
  found = λ clean db at. c.in-Ok.ensures.found clean db at;
  refused = λ clean db at. tt;
  store = λ clean db at known. tt;
  same = λ clean. c.in-Ok.ensures.same clean;
  only = c.in-Ok.ensures.only;
}
