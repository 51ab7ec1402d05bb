use Rattle.std.proofs.Common.{◌∙◌}
use Rattle.model_catalogue.specs.Member.{is_in}
use Rattle.book_counts_over_time.proofs.TouchedLemmas.{ids_in_order, listed_is}
use Rattle.book_counts_over_time.proofs.touched.shift_product.Goals as goal

pub shift_each-requires-clause-rising : goal.shift_each-requires-clause-rising
shift_each-requires-clause-rising g c = ids_in_order (λ q. is_in q c.args.product) c.args.catalogue.now.lists.quotas c.quotas_with-ids.result c.quotas_with-ids.ensures c.recall_invariant.ensures.in_order

pub returns-clause-items : goal.returns-clause-items
returns-clause-items g c =
    let shifted = rw c.quotas.ensures at c.shift_each.ensures.items in
    shifted ∙ listed_is (g.S.UsageUpdate.shift c.args.shift.now) (λ q. is_in q c.args.product) c.args.catalogue.now.lists.quotas c.args.usages.now.items c.quotas_with-ids.result c.quotas_with-ids.ensures c.recall_invariant.ensures.in_order
