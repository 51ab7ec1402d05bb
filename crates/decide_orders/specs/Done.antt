-- Decisions on carts and orders that weren't refused, as laws speak of them.
use Rattle.std.specs.Prelude.{◌≡◌, ℕ, true, false, Some, Ok}
use Rattle.base_values.specs.declared.draw.Draw.{Draw}
use Rattle.model_rows.specs.declared.rows.CartPos.{CartPos}
use Rattle.model_rows.specs.declared.rows.Order.{Order}
use Rattle.model_rows.specs.declared.rows.OrderRows.{OrderRows}
use Rattle.model_rows.specs.Conditions.{is_in_force}
use Rattle.model_rows.specs.Lists.{State, order_at}
use Rattle.model_commands.specs.declared.carts.NewCart.{NewCart}
use Rattle.model_commands.specs.declared.orders.Move.{Move}
use Rattle.model_commands.specs.declared.orders.NewOrder.{NewOrder}
use Rattle.decide_orders.specs.Carts.{position_added}
use Rattle.decide_orders.specs.Created.{order_created}
use Rattle.decide_orders.specs.Moves.{order_moved}

-- a cart position was added: what was asked for, the box office before and after it, and the position
pub record CartAdded : Type 0 where
  pub request : NewCart
  pub draw : Draw
  pub before : State
  pub after : State
  pub row : CartPos
  pub done : position_added request draw before ≡ Ok (after, row)

-- an order was made: what was asked for, the box office before and after it, and the order with its positions
pub record OrderMade : Type 0 where
  pub request : NewOrder
  pub draw : Draw
  pub before : State
  pub after : State
  pub rows : OrderRows
  pub done : order_created request draw before ≡ Ok (after, rows)

-- the order of a number was moved: the box office before and after it, and the order as it is then with its positions
pub record OrderMoved : Type 0 where
  pub number : ℕ
  pub change : Move
  pub before : State
  pub after : State
  pub rows : OrderRows
  pub done : order_moved number change before ≡ Ok (after, rows)

-- the order came back to life by the move: before it the order stood as this, and wasn't in force, and afterwards it is
pub record IsRevival (old : Order) (moved : OrderMoved) : Type 0 where
  pub stood : order_at moved.number moved.before.lists ≡ Some old
  pub ended : is_in_force old.status ≡ false
  pub back : is_in_force moved.rows.order.status ≡ true
