use Rattle.std.proofs.Common.{◌≡◌, ◌++◌, drop}
use Rattle.book_store.proofs.EachCart.{each_cart}
use Rattle.book_store.proofs.store.Store.carts_in.Given as goal

-- the ids so far and those of the carts that are left
abbrev pub invariant-loop-cart : goal.invariant-loop-cart
invariant-loop-cart l = l.ids.items ++ each_cart (drop l.cart-index l.carts) l.self.state.lists.carts ≡ each_cart l.carts l.self.state.lists.carts
