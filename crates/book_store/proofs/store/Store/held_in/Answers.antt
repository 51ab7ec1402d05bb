use Rattle.std.proofs.Common.{◌∙◌, arith}
use Rattle.std.proofs.Common.{◌&&◌}
use Rattle.model_catalogue.specs.Member.{is_in}
use Rattle.model_rows.specs.declared.rows.CartPos.{CartPos}
use Rattle.model_rows.specs.Conditions.{is_live_cart, names, holds}
use Rattle.model_rows.specs.Lists.{cart_at}
use Rattle.book_store.specs.Walks.{one_if}
use Rattle.book_store.proofs.Counted.{walked, next_counted, counted, and_between}
use Rattle.book_store.proofs.store.Store.held_in.Goals as goal

pub returns-clause-value : goal.returns-clause-value
returns-clause-value c =
    let lists = c.args.self.now.state.lists in
    walked (λ i. one_if (λ (r : CartPos). is_live_cart c.args.at r && is_in c.args.quota.now r.product) (cart_at i lists)) c.carts_naming-named.result c.loop-place.place c.loop-place.count (omega (arith, c.len-place-end.ensures, c.loop-place-test.false)) c.loop-place.invariant.counted
    ∙ counted (λ r. r.id) (λ (r : CartPos). names c.args.voucher r.voucher) (λ (r : CartPos). is_live_cart c.args.at r && is_in c.args.quota.now r.product)
    (λ (r : CartPos). holds c.args.at c.args.voucher r && is_in c.args.quota.now r.product) lists.carts c.carts_naming-named.result c.carts_naming-named.ensures.finds
    (λ r. and_between (names c.args.voucher r.voucher) (is_live_cart c.args.at r) (is_in c.args.quota.now r.product))

pub loop-place-preserved : goal.loop-place-preserved
loop-place-preserved c =
    let lists = c.args.self.now.state.lists in
    record {
      counted = next_counted (λ i. one_if (λ (r : CartPos). is_live_cart c.args.at r && is_in c.args.quota.now r.product) (cart_at i lists)) c.carts_naming-named.result c.loop-place.place c.at.result c.hold_in_of-count.result c.loop-place.count (omega (arith, c.len-place-end.ensures, c.loop-place-test.true)) c.at.ensures c.hold_in_of-count.ensures.value c.loop-place.invariant.counted;
      small = omega (arith, c.loop-place.invariant.small, c.hold_in_of-count.ensures.small);
    }
