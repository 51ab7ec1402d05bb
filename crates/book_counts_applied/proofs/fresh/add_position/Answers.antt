use Rattle.std.proofs.Common.{◌∙◌}
use Rattle.book_counts_over_time.proofs.OfProducts.{position_comes_one}
use Rattle.book_counts_applied.proofs.fresh.add_position.Goals as goal

pub returns : goal.returns
returns c =
    let lists = c.args.store.now.state.lists in
    let shifted = rw c.catalogue.ensures at c.shift_product.ensures.items in
    record {
      items = shifted ∙ position_comes_one lists lists.catalogue.quotas c.args.usages.now.items c.args.row.now;
      same = c.shift_product.ensures.stays.same;
    }
