-- A cart position that is deleted.
use Rattle.std.specs.Prelude.{ℕ, Result, Ok}
use Rattle.std.specs.Option.{ok_or}
use Rattle.base_values.specs.Deciding.{◌>>=◌}
use Rattle.model_rows.specs.declared.changes.Change.TheVariants.{DropCart}
use Rattle.model_rows.specs.Lists.{State, cart_at}
use Rattle.model_rows.specs.Change.{change_applied}
use Rattle.model_commands.specs.declared.orders.OrderRefusal.{OrderRefusal}
use Rattle.model_commands.specs.declared.orders.OrderRefusal.TheVariants.{NoPosition}

-- the box office without the cart position, if it stands, dead or live
unfoldable pub position_dropped : ℕ → State → Result State OrderRefusal
position_dropped id state = do
  _ ← ok_or (cart_at id state.lists) NoPosition
  Ok (change_applied (DropCart id) state)
