use Rattle.std.proofs.Common.{ap, ◌∙◌}
use Rattle.base_tables.specs.Rising.{rising}
use Rattle.book_store.proofs.EachCart.{next_cart, no_cart, each_sorted}
use Rattle.book_store.proofs.store.Store.carts_in.Goals as goal

pub loop-cart-preserved : goal.loop-cart-preserved
loop-cart-preserved c =
    next_cart c.args.carts.now c.args.self.now.state.lists.carts c.loop-cart.cart-index c.cart-item.result _ _ _ c.loop-cart-test.true c.cart-item.is c.loop-cart.invariant c.in_ok-push_carts.ensures

pub returns : goal.returns
returns c =
    let rows = c.args.self.now.state.lists.carts in
    c.sorted.ensures
    ∙ ap rising (no_cart c.args.carts.now rows c.loop-cart.cart-index _ _ c.loop-cart-test.false c.loop-cart.invariant)
    ∙ each_sorted c.args.carts.now rows c.recall_invariant.ensures.carts.in_order
