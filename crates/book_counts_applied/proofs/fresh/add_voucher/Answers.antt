use Rattle.std.proofs.Common.{ℕ, Some, None, ap, ◌∙◌}
use Rattle.book_counts_over_time.specs.UsageUpdates.{block_shift, map_beside}
use Rattle.book_counts_applied.proofs.FreshLemmas.{voucher_comes_one}
use Rattle.book_counts_applied.proofs.fresh.add_voucher.Goals as goal

pub returns : goal.returns
returns c =
    let quotas = c.args.store.now.state.lists.catalogue.quotas in
    let shifted = rw c.catalogue.ensures at c.shift_hit.ensures.items in
    record {
      items =
          shifted ∙ voucher_comes_one c.args.at c.redeemed_in-spent.result c.args.row.now quotas c.args.usages.now.items
          ∙ ap (λ (n : ℕ). map_beside (block_shift c.args.at n (Some c.args.row.now) None) quotas c.args.usages.now.items) c.redeemed_in-spent.ensures.value;
      same = c.shift_hit.ensures.stays.same;
    }
