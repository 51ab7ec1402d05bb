-- The moves of an order.
use Rattle.std.specs.Prelude.{ℕ, Bool, true, false, Option, Some, None, Result, Ok, if◌then◌else◌}
use Rattle.std.specs.Option.{ok_or}
use Rattle.base_values.specs.Deciding.{◌>>=◌, ◌>>◌, check, refuse_some}
use Rattle.model_rows.specs.declared.rows.Order.{Order}
use Rattle.model_rows.specs.declared.rows.OrderRows.{OrderRows}
use Rattle.model_rows.specs.declared.rows.Status.{Status}
use Rattle.model_rows.specs.declared.rows.Status.TheVariants.{Pending, Paid, Expired, Cancelled}
use Rattle.model_rows.specs.declared.changes.Change.TheVariants.{PutOrder}
use Rattle.model_rows.specs.Budgets.{are_within}
use Rattle.model_rows.specs.Lists.{State, order_at, positions_of}
use Rattle.model_rows.specs.Change.{after_change, change_applied}
use Rattle.model_rows.specs.Headroom.{have_room}
use Rattle.model_rows.specs.Over.{first_over}
use Rattle.model_invariant.specs.Positions.{by_positionid}
use Rattle.model_commands.specs.declared.vouchers.VoucherRefusal.TheVariants.{NoHeadroom, OverBudget, SoldOut}
use Rattle.model_commands.specs.declared.orders.Move.{Move}
use Rattle.model_commands.specs.declared.orders.Move.TheVariants.{MarkPaid, MarkPending, MarkExpired, MarkCanceled, Extend}
use Rattle.decide_orders.specs.declared.moves.Transition.{Transition}
use Rattle.decide_orders.specs.Places.{own_positions}
use Rattle.model_commands.specs.declared.orders.OrderRefusal.{OrderRefusal}
use Rattle.model_commands.specs.declared.orders.OrderRefusal.TheVariants.{Voucher as OfVoucher, NoOrder, WrongStatus}

-- this status follows, without a test of uses and places
abbrev pub to : Status → Option Transition
to status = Some (record { status = status; revival = false })

-- this status follows, and the order comes back to life: the uses, budgets and places that it takes again are tested
abbrev pub order_revived : Status → Option Transition
order_revived status = Some (record { status = status; revival = true })

-- what each move makes of an order of each status: the status that follows, or none where it isn't possible
abbrev pub transition_of : Status → Move → Option Transition
transition_of Pending MarkPaid = to Paid
transition_of Pending MarkExpired = to Expired
transition_of Pending MarkCanceled = to Cancelled
transition_of Pending (Extend end) = to Pending
transition_of Pending MarkPending = None
transition_of Paid MarkPending = to Pending
transition_of Paid MarkCanceled = to Cancelled
transition_of Paid MarkPaid = None
transition_of Paid MarkExpired = None
transition_of Paid (Extend end) = None
transition_of Expired MarkPaid = order_revived Paid
transition_of Expired MarkCanceled = to Cancelled
transition_of Expired (Extend end) = order_revived Pending
transition_of Expired MarkPending = None
transition_of Expired MarkExpired = None
transition_of Cancelled change = None

-- the end that a move sets
abbrev pub end_after : Move → ℕ → ℕ
end_after (Extend end) old = end
end_after change old = old

-- an order with the status that follows, and with another end where the move sets one
abbrev pub moved_row : Order → Status → Move → Order
moved_row order status change = record order { status = status; expires = end_after change order.expires }

-- the vouchers of the order's positions have the uses that it takes again
abbrev pub have_uses_again : Order → State → Bool
have_uses_again row state = have_room state.moment (after_change (PutOrder row) state.lists) (positions_of row.id state.lists)

-- the budgets of the vouchers of the order's positions have the discounts left that it takes again, as they were when it was made
abbrev pub have_budgets_again : Order → State → Bool
have_budgets_again row state = are_within (after_change (PutOrder row) state.lists) (positions_of row.id state.lists)

-- an order, and the positions that the box office has of it, by their numbers
abbrev pub order_rows : Order → State → OrderRows
order_rows row state = record { order = row; positions = by_positionid (positions_of row.id state.lists) }

-- the box office with this row of the order, and that order with its positions
abbrev pub moved_to : Order → State → State × OrderRows
moved_to row state = (change_applied (PutOrder row) state, order_rows row state)

-- the least quota of which an order takes too much as it comes back
abbrev pub over_again : Order → State → Option ℕ
over_again row state = first_over state.lists (after_change (PutOrder row) state.lists) state.moment (own_positions (positions_of row.id state.lists))

-- an order that comes back to life is tested for the uses, the budgets and the places that it takes again
unfoldable pub revival : Order → State → Result (State × OrderRows) OrderRefusal
revival row state = do
  check (have_uses_again row state) (OfVoucher NoHeadroom)
  check (have_budgets_again row state) (OfVoucher OverBudget)
  refuse_some (λ quota. OfVoucher (SoldOut quota)) (over_again row state)
  Ok (moved_to row state)

-- a single transition: where the order comes back to life it is tested first
abbrev pub moved_as : Order → Move → State → Transition → Result (State × OrderRows) OrderRefusal
moved_as order change state turn =
    let row = moved_row order turn.status change in
    if turn.revival then revival row state else Ok (moved_to row state)

-- the box office with the moved order, and that order with its positions, or the first refusal
unfoldable pub order_moved : ℕ → Move → State → Result (State × OrderRows) OrderRefusal
order_moved number change state = do
  order ← ok_or (order_at number state.lists) NoOrder
  turn ← ok_or (transition_of order.status change) (WrongStatus order.status)
  moved_as order change state turn
