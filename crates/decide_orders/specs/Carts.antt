-- Adding a cart position: the first refusal, or else the box office with the new row.
use Rattle.std.specs.Prelude.{ℕ, ◌+◌, Bool, ◌||◌, not, [], ◌∷◌, Result, Ok, unwrap_or, min}
use Rattle.base_values.specs.Deciding.{◌>>=◌, ◌>>◌, check, refuse_some, map_err}
use Rattle.base_values.specs.Moments.{last_moment}
use Rattle.base_values.specs.declared.draw.Draw.{Draw}
use Rattle.model_catalogue.specs.declared.refusal.CatalogueRefusal.TheVariants.{Full}
use Rattle.model_rows.specs.declared.rows.CartPos.{CartPos}
use Rattle.model_rows.specs.declared.rows.Own.TheVariants.{Cart}
use Rattle.model_rows.specs.declared.changes.Change.TheVariants.{PutCart}
use Rattle.model_rows.specs.Lists.{State}
use Rattle.model_rows.specs.Conditions.{is_live_cart}
use Rattle.model_rows.specs.Change.{after_change}
use Rattle.model_rows.specs.Full.{takes_cart}
use Rattle.model_rows.specs.Headroom.{has_use}
use Rattle.model_rows.specs.Numbered.{with_cart}
use Rattle.model_rows.specs.Over.{first_over}
use Rattle.model_commands.specs.declared.vouchers.VoucherRefusal.TheVariants.{Catalogue, NoHeadroom, SoldOut}
use Rattle.decide_orders.specs.CartId.{cart_id_test, cart_id_of}
use Rattle.decide_orders.specs.Sold.{sold_for}
use Rattle.model_commands.specs.declared.carts.NewCart.{NewCart}
use Rattle.decide_orders.specs.declared.sold.Sold.{Sold}
use Rattle.model_commands.specs.declared.orders.OrderRefusal.{OrderRefusal}
use Rattle.model_commands.specs.declared.orders.OrderRefusal.TheVariants.{Voucher as OfVoucher}

-- how long a cart position is held where no end is given: half an hour
abbrev pub held_for : ℕ
held_for = 1800

-- the row gets the next id, and is held so long where no end is given
abbrev pub row_of_sold : NewCart → Draw → State → Sold → CartPos
row_of_sold new draw state sold = record {
  id = state.next.cart;
  cart_id = cart_id_of new.cart_id draw state.next.cart;
  product = sold.product;
  price = sold.price;
  made_at = state.moment;
  expires = unwrap_or new.expires (min (state.moment + held_for) last_moment);
  voucher = sold.voucher;
}

-- the row that is asked for; its price is within what is left of the voucher's budget, of which it takes nothing yet
unfoldable pub cart_row : NewCart → Draw → State → Result CartPos OrderRefusal
cart_row new draw state = do
  cart_id_test new.cart_id
  sold ← map_err OfVoucher (sold_for new.asked [] state)
  Ok (row_of_sold new draw state sold)

-- a row that is dead already takes no use of its voucher, and a live one needs one that is left
abbrev pub has_use_for : CartPos → State → Bool
has_use_for row state = not (is_live_cart state.moment row) || has_use state.moment state.lists row.voucher

-- its voucher needs a use that is left, no quota may be taken too much of, and the table has to take the row
unfoldable pub cart_placed : CartPos → State → Result (State × CartPos) OrderRefusal
cart_placed row state = do
  check (has_use_for row state) (OfVoucher NoHeadroom)
  refuse_some (λ quota. OfVoucher (SoldOut quota)) (first_over state.lists (after_change (PutCart row) state.lists) state.moment (Cart row.id ∷ []))
  check (takes_cart state) (OfVoucher (Catalogue Full))
  Ok (with_cart row state, row)

-- the box office with the new cart position, and that position, or the first refusal
unfoldable pub position_added : NewCart → Draw → State → Result (State × CartPos) OrderRefusal
position_added new draw state = do
  row ← cart_row new draw state
  cart_placed row state
