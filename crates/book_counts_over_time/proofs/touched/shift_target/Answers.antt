use Rattle.std.proofs.Common.{refl, sym, None}
use Rattle.model_rows.specs.Conditions.{hits_by_product}
use Rattle.book_counts_over_time.specs.UsageUpdates.{only}
use Rattle.book_counts_over_time.proofs.TouchedLemmas.{beside_same}
use Rattle.book_counts_over_time.proofs.touched.shift_target.Goals as goal

pub returns-in-None-clause-items : goal.returns-in-None-clause-items
returns-in-None-clause-items g c = rw c.in-None.is (sym (beside_same (only (λ q. hits_by_product q None c.args.variation) (g.S.UsageUpdate.shift c.args.shift.now)) c.args.catalogue.now.lists.quotas c.args.usages.now.items c.requires.same (λ q u. refl)))

pub returns-in-Some-clause-items : goal.returns-in-Some-clause-items
returns-in-Some-clause-items g c = rw c.in-Some.is c.shift_product.ensures.items
