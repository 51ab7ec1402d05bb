use Rattle.std.proofs.Common.{List, ◌∙◌, ◌&&◌, ap, get_or, arith}
use Rattle.base_tables.specs.Tables.{row_at}
use Rattle.model_rows.specs.declared.rows.CartPos.{CartPos}
use Rattle.model_rows.specs.Conditions.{names, is_live_cart}
use Rattle.model_catalogue.specs.Member.{is_in}
use Rattle.model_rows.specs.Lists.{cart_at}
use Rattle.book_store.specs.Walks.{one_if}
use Rattle.book_indexes.proofs.EntryLemmas.{found_count}
use Rattle.book_counts_over_time.proofs.Walked.{one_found, walked, held_in_walk}
use Rattle.book_counts_over_time.proofs.usage_later.freed_by.Goals as goal

pub returns-clause-value : goal.returns-clause-value
returns-clause-value g c =
    let lists = c.args.ended.now.state.lists in
    walked (λ i. one_if (λ d. is_live_cart c.args.at d && is_in c.args.quota.now d.product) (cart_at i lists)) c.naming-carts.result.ids c.loop-place.place c.loop-place.count (rw c.len-place-end.ensures at c.loop-place-test.false) c.loop-place.invariant.counted
    ∙ c.naming-carts.ensures.finds (one_if (λ (d : CartPos). is_live_cart c.args.at d && is_in c.args.quota.now d.product))
    ∙ held_in_walk c.args.at c.args.quota.now c.args.voucher lists

pub returns-clause-cost : goal.returns-clause-cost
returns-clause-cost g c =
    let lists = c.args.ended.now.state.lists in
    omega (arith, found_count (λ r. r.id) (λ (r : CartPos). names c.args.voucher r.voucher) lists.carts c.naming-carts.result.ids c.naming-carts.ensures.finds)

pub loop-place-preserved : goal.loop-place-preserved
loop-place-preserved g c =
    let lists = c.args.ended.now.state.lists in
    let ids = c.naming-carts.result.ids in
    let lt = rw c.len-place-end.ensures at c.loop-place-test.true in
    record {
      counted = one_found (λ i. cart_at i lists) (one_if (λ (d : CartPos). is_live_cart c.args.at d && is_in c.args.quota.now d.product)) ids c.loop-place.place _ c.loop-place.count
          c.hold_if-count.result lt (λ d. c.at-cart.ensures.row d ∙ ap (λ (rows : List CartPos). row_at (λ r. r.id) (get_or ids c.loop-place.place d) rows) c.naming-carts.ensures.rows)
          c.loop-place.invariant.counted c.hold_if-count.ensures.value;
      small = omega (arith, c.loop-place.invariant.small, c.hold_if-count.ensures.small);
      ticked = omega (arith, c.loop-place.invariant.ticked, c.at-cart.ensures.cost);
    }
