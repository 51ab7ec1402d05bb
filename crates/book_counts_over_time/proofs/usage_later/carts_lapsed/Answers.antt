use Rattle.std.proofs.Common.{List, ◌∙◌, ap, get_or, sum_by, arith}
use Rattle.base_tables.specs.Tables.{row_at}
use Rattle.model_rows.specs.declared.rows.CartPos.{CartPos}
use Rattle.model_rows.specs.Lists.{cart_at}
use Rattle.model_rows.specs.Usage.{cart_counts}
use Rattle.model_rows.specs.CameDue.{is_due_cart}
use Rattle.book_store.specs.Walks.{one_if}
use Rattle.book_indexes.proofs.EntryLemmas.{found_count}
use Rattle.book_counts_over_time.proofs.Walked.{one_found, walked, lapsed_walk}
use Rattle.book_counts_over_time.proofs.usage_later.carts_lapsed.Goals as goal

pub returns-clause-value : goal.returns-clause-value
returns-clause-value g c =
    let lists = c.args.ended.now.state.lists in
    let ids = c.carts-carts.result.ids in
    walked (λ i. one_if (cart_counts lists c.moment-from.result c.args.quota.now) (cart_at i lists)) ids c.loop-place.place c.loop-place.count (rw c.len-place-end.ensures at c.loop-place-test.false) c.loop-place.invariant.counted
    ∙ ap (λ m. sum_by (λ i. one_if (cart_counts lists m c.args.quota.now) (cart_at i lists)) ids) c.moment-from.ensures
    ∙ c.carts-carts.ensures.finds (one_if (cart_counts lists c.args.ended.now.state.moment c.args.quota.now))
    ∙ lapsed_walk c.args.ended.now.state.moment c.args.at c.args.quota.now lists

pub returns-clause-cost : goal.returns-clause-cost
returns-clause-cost g c =
    let lists = c.args.ended.now.state.lists in
    omega (arith, found_count (λ r. r.id) (is_due_cart c.args.ended.now.state.moment c.args.at) lists.carts c.carts-carts.result.ids c.carts-carts.ensures.finds)

pub loop-place-preserved : goal.loop-place-preserved
loop-place-preserved g c =
    let lists = c.args.ended.now.state.lists in
    let ids = c.carts-carts.result.ids in
    let lt = rw c.len-place-end.ensures at c.loop-place-test.true in
    record {
      counted = one_found (λ i. cart_at i lists) (one_if (cart_counts lists c.moment-from.result c.args.quota.now)) ids c.loop-place.place _ c.loop-place.count c.count_if-count.result lt (λ d. c.at-cart.ensures.row d ∙ ap (λ (rows : List CartPos). row_at (λ r. r.id) (get_or ids c.loop-place.place d) rows) c.carts-carts.ensures.rows) c.loop-place.invariant.counted c.count_if-count.ensures.value;
      small = omega (arith, c.loop-place.invariant.small, c.count_if-count.ensures.small);
      ticked = omega (arith, c.loop-place.invariant.ticked, c.at-cart.ensures.cost);
    }
