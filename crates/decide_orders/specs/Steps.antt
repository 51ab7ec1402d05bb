-- What the code does one after another, and words for how far it came. The rules say the same at once.
use Rattle.std.specs.Prelude.{List, ◌++◌, ◌≡◌, ℕ, ◌+◌, ◌≤◌, [], ◌∷◌, Option, Some, None, Bool}
use Rattle.model_rows.specs.Lists.{State}
use Rattle.model_commands.specs.declared.carts.Outcome.{Outcome}
use Rattle.base_tables.specs.Tables.{AreInOrder, row_at, with_row}
use Rattle.model_rows.specs.declared.rows.OrderPos.{OrderPos}
use Rattle.model_rows.specs.Headroom.{AllHaveHeadroom, has_room, held}
use Rattle.model_invariant.specs.Ids.{AreNumbered}
use Rattle.model_rows.specs.declared.changes.Change.{Change}
use Rattle.model_rows.specs.declared.changes.Change.TheVariants.{PutOrder}
use Rattle.model_rows.specs.declared.rows.Order.{Order}
use Rattle.model_rows.specs.Due.{due_orders}
use Rattle.decide_orders.specs.Expired.{expired_row}
use Rattle.model_rows.specs.Change.{after_change}
use Rattle.model_rows.specs.Usage.{redeemed}

-- outcomes in front of others
abbrev pub after_outcomes : List Outcome → State × List Outcome → State × List Outcome
after_outcomes outcomes rest = (rest.0, outcomes ++ rest.1)

-- the next order position, of this id, can be put
pub record IsReady (id : ℕ) (state : State) : Type 0 where
  pub from_one : 1 ≤ id
  pub positions : AreNumbered (λ r. r.id) id state.lists.positions
  pub vouchers : AreInOrder (λ r. r.id) state.lists.vouchers
  pub headroom : AllHaveHeadroom state.moment state.lists

-- the ids of these rows count on from this one
abbrev pub AreCounted : ℕ → List OrderPos → Type 0
AreCounted id [] = Unit {0}
AreCounted id (row ∷ rows) = (row.id ≡ id) × AreCounted (id + 1) rows

-- the orders that are overdue at its moment, and the cart positions that are dead, by their ids
abbrev pub due_now : State → List ℕ
due_now state = due_orders state.moment state.lists

-- an order that was found is put expired in its place
abbrev pub put_expired : List Order → Option Order → List Order
put_expired orders None = orders
put_expired orders (Some order) = with_row (λ o. o.id) (expired_row order) orders

-- orders, with the one of this number expired where there is one
abbrev pub expired_in : ℕ → List Order → List Order
expired_in id orders = put_expired orders (row_at (λ o. o.id) id orders)

-- the box office with these orders instead of its own
abbrev pub with_orders : List Order → State → State
with_orders orders state = record state { lists = record state.lists { orders = orders } }

-- the order of a number, if it stands, is expired
abbrev pub expired_at : ℕ → State → State
expired_at id state = with_orders (expired_in id state.lists.orders) state

-- the orders of these numbers are expired, one after another
abbrev pub each_expired : List ℕ → State → State
each_expired [] state = state
each_expired (id ∷ ids) state = each_expired ids (expired_at id state)

-- what is changed for it
abbrev pub expiry_of : Option Order → List Change
expiry_of None = []
expiry_of (Some order) = PutOrder (expired_row order) ∷ []

-- what is changed for these numbers, one after another
abbrev pub each_expiry : List ℕ → List Order → List Change
each_expiry [] orders = []
each_expiry (id ∷ ids) orders = expiry_of (row_at (λ o. o.id) id orders) ++ each_expiry ids (expired_in id orders)

-- how often a voucher is used once the order has come back
abbrev pub uses_again : Order → State → ℕ → ℕ
uses_again row state voucher = redeemed voucher (after_change (PutOrder row) state.lists) + held state.moment voucher state.lists

-- a voucher, if there is one, has the uses that the order takes again
abbrev pub has_room_again : Order → State → Option ℕ → Bool
has_room_again row state voucher = has_room state.moment (after_change (PutOrder row) state.lists) voucher
