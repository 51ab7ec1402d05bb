-- Making an order out of carts.
use Rattle.std.specs.Prelude.{ℕ, ◌+◌, Bool, ◌&&◌, nat_lt, List, [], ◌∷◌, ◌++◌, ◌==◌, length, map, min, unwrap_or, Result, Ok, Err}
use Rattle.base_values.specs.Deciding.{◌>>=◌, ◌>>◌, check, refuse_if, refuse_some, map_err}
use Rattle.base_values.specs.Moments.{last_moment}
use Rattle.base_values.specs.Secrets.{secret}
use Rattle.base_values.specs.declared.draw.Draw.{Draw}
use Rattle.model_catalogue.specs.declared.refusal.CatalogueRefusal.TheVariants.{Full}
use Rattle.model_rows.specs.declared.rows.Order.{Order}
use Rattle.model_rows.specs.declared.rows.OrderPos.{OrderPos}
use Rattle.model_rows.specs.declared.rows.OrderRows.{OrderRows}
use Rattle.model_rows.specs.declared.changes.Change.{Change}
use Rattle.model_rows.specs.declared.changes.Change.TheVariants.{PutOrder, PutPosition, DropCart}
use Rattle.model_rows.specs.Budgets.{are_within}
use Rattle.model_rows.specs.Lists.{Lists, State}
use Rattle.model_rows.specs.Change.{change_applied, without_carts}
use Rattle.model_rows.specs.Consumed.{carts_consumed}
use Rattle.model_rows.specs.Full.{takes_order, takes_positions}
use Rattle.model_rows.specs.Headroom.{has_use}
use Rattle.model_rows.specs.Over.{first_over}
use Rattle.model_invariant.specs.Positions.{most_positions}
use Rattle.model_commands.specs.declared.vouchers.VoucherRefusal.TheVariants.{Catalogue, NoHeadroom, OverBudget, SoldOut}
use Rattle.model_commands.specs.declared.orders.NewOrder.{NewOrder}
use Rattle.model_commands.specs.Starts.{status_of}
use Rattle.model_commands.specs.declared.carts.Asked.{Asked}
use Rattle.decide_orders.specs.declared.sold.Sold.{Sold}
use Rattle.model_commands.specs.declared.orders.OrderRefusal.{OrderRefusal}
use Rattle.model_commands.specs.declared.orders.OrderRefusal.TheVariants.{Voucher as OfVoucher, Empty, TooMany}
use Rattle.decide_orders.specs.Places.{own_positions}
use Rattle.decide_orders.specs.Sold.{sold_for, discount_of}

-- how long an order may be paid where no end is given: 14 days
abbrev pub payment_term : ℕ
payment_term = 1209600

-- the order's row: it has the next number, and that term where no end is given
abbrev pub order_row : NewOrder → State → Order
order_row new state = record {
  id = state.next.order;
  email = new.email;
  status = status_of new.start;
  made_at = state.moment;
  expires = unwrap_or new.expires (min (state.moment + payment_term) last_moment);
}

-- the row of a position: its id, its number in the order, and what its voucher took off
abbrev pub position_row : Draw → ℕ → ℕ → ℕ → Sold → OrderPos
position_row draw order id number sold = record {
  id = id;
  order = order;
  positionid = number;
  product = sold.product;
  price = sold.price;
  voucher = sold.voucher;
  secret = secret draw order number;
  discount = discount_of sold;
}

-- the row of one position that is asked for, after these of the same order
unfoldable pub position_for : Draw → State → List OrderPos → ℕ → ℕ → Asked → Result OrderPos OrderRefusal
position_for draw state before id number asked = do
  sold ← map_err OfVoucher (sold_for asked before state)
  Ok (position_row draw state.next.order id number sold)

-- rows in front of others
abbrev pub after_rows : List OrderPos → Result (List OrderPos) OrderRefusal → Result (List OrderPos) OrderRefusal
after_rows rows rest = do
  more ← rest
  Ok (rows ++ more)

-- the rows of what is asked, one after another behind these of the same order, or the first refusal: their ids and numbers count on,
-- and each is priced within what all rows in front of it leave of its voucher's budget
abbrev pub rows_for : Draw → State → List OrderPos → ℕ → ℕ → List Asked → Result (List OrderPos) OrderRefusal
rows_for draw state before id number [] = Ok []
rows_for draw state before id number (asked ∷ more) = do
  row ← position_for draw state before id number asked
  after_rows (row ∷ []) (rows_for draw state (before ++ row ∷ []) (id + 1) (number + 1) more)

-- the rows of all that is asked of an order, which is the next one
abbrev pub rows_asked : Draw → State → List Asked → Result (List OrderPos) OrderRefusal
rows_asked draw state asked = rows_for draw state [] state.next.position 1 asked

-- a position needs a use of its voucher that is left
unfoldable pub position_put : OrderPos → State → Result State OrderRefusal
position_put row state = do
  check (has_use state.moment state.lists row.voucher) (OfVoucher NoHeadroom)
  Ok (change_applied (PutPosition row) state)

-- positions are put in order
abbrev pub with_positions : List OrderPos → Result State OrderRefusal → Result State OrderRefusal
with_positions rows (Err refusal) = Err refusal
with_positions [] (Ok state) = Ok state
with_positions (row ∷ rows) (Ok state) = with_positions rows (position_put row state)

-- the box office with the order, which has no positions yet, and without the carts that it consumes
abbrev pub with_order_row : Order → List (List ℕ) → State → State
with_order_row row carts state = change_applied (PutOrder row) (without_carts (carts_consumed carts state.lists) state)

-- the order's row is put, without the carts that it consumes, and then its positions
abbrev pub rows_put : Order → List OrderPos → List (List ℕ) → State → Result State OrderRefusal
rows_put row rows carts state = with_positions rows (Ok (with_order_row row carts state))

-- the tables take an order and so many positions
abbrev pub takes_whole : ℕ → State → Bool
takes_whole count state = takes_order state && takes_positions count state

-- the next ids, with the order's and its positions' counted as used
abbrev pub with_ids_used : ℕ → State → State
with_ids_used count state = record state { next = record state.next { order = state.next.order + 1; position = state.next.position + count } }

-- the box office once their ids count as used, and the order with its positions
abbrev pub order_made : Order → List OrderPos → State → State × OrderRows
order_made row rows after = (with_ids_used (length rows) after, record { order = row; positions = rows })

-- without the carts that it consumes, each voucher needs its uses, and then its budget all that is spent of it, and no quota may be
-- taken too much of
unfoldable pub order_placed : Order → List OrderPos → List (List ℕ) → State → Result (State × OrderRows) OrderRefusal
order_placed row rows carts state = do
  after ← rows_put row rows carts state
  check (are_within after.lists rows) (OfVoucher OverBudget)
  refuse_some (λ quota. OfVoucher (SoldOut quota)) (first_over state.lists after.lists state.moment (own_positions rows))
  check (takes_whole (length rows) state) (OfVoucher (Catalogue Full))
  Ok (order_made row rows after)

-- a new order has 1 to 500 positions, and consumes 500 carts at most
abbrev pub counts_test : NewOrder → Result (Unit {0}) OrderRefusal
counts_test new = do
  refuse_if (length new.positions == 0) Empty
  refuse_if (nat_lt most_positions (length new.positions)) TooMany
  refuse_if (nat_lt most_positions (length new.consume_carts)) TooMany
  Ok tt

-- the box office with the new order, and that order with its positions, or the first refusal
unfoldable pub order_created : NewOrder → Draw → State → Result (State × OrderRows) OrderRefusal
order_created new draw state = do
  counts_test new
  rows ← rows_asked draw state new.positions
  order_placed (order_row new state) rows new.consume_carts state

-- the changes that make an order: the cart positions that it consumes go, then it is put, and then its positions
abbrev pub order_changes : List (List ℕ) → Order → List OrderPos → Lists → List Change
order_changes carts order positions lists = map DropCart (carts_consumed carts lists) ++ PutOrder order ∷ map PutPosition positions
