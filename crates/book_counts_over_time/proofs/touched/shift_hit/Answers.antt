use Rattle.std.proofs.Common.{◌∙◌}
use Rattle.book_counts_over_time.proofs.TouchedLemmas.{hit_named, hit_target}
use Rattle.book_counts_over_time.proofs.touched.shift_hit.Goals as goal

pub returns-in-Some-clause-items : goal.returns-in-Some-clause-items
returns-in-Some-clause-items g c =
    let shifted = rw c.quotas.ensures at c.shift_one.ensures.items in
    shifted ∙ hit_named (g.S.UsageUpdate.shift c.args.shift.now) c.args.voucher.now c.in-Some.id c.in-Some.is c.args.catalogue.now.lists.quotas c.args.usages.now.items

pub returns-in-None-clause-items : goal.returns-in-None-clause-items
returns-in-None-clause-items g c = c.shift_target.ensures.items ∙ hit_target (g.S.UsageUpdate.shift c.args.shift.now) c.args.voucher.now c.in-None.is c.args.catalogue.now.lists.quotas c.args.usages.now.items
