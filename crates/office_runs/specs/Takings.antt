-- What takes places, what else may raise how much of a quota is used, and what takes places again that exits set free.
use Rattle.std.specs.Prelude.{ℕ, Bool, true, false, ◌&&◌, List, [], ◌∷◌, map, Option, Some, None, Result, Ok, Err, if◌then◌else◌}
use Rattle.base_values.specs.declared.draw.Draw.{Draw}
use Rattle.model_catalogue.specs.declared.rows.Quota.{Quota}
use Rattle.model_rows.specs.declared.rows.CartPos.{CartPos}
use Rattle.model_rows.specs.declared.rows.Order.{Order}
use Rattle.model_rows.specs.declared.rows.OrderPos.{OrderPos}
use Rattle.model_rows.specs.declared.rows.OrderRows.{OrderRows}
use Rattle.model_rows.specs.declared.rows.Own.{Own}
use Rattle.model_rows.specs.declared.rows.Own.TheVariants.{Cart as OwnCart, Position as OwnPosition}
use Rattle.model_rows.specs.declared.rows.Status.{Status}
use Rattle.model_rows.specs.declared.rows.Status.TheVariants.{Expired}
use Rattle.model_rows.specs.declared.rows.Voucher.{Voucher}
use Rattle.model_rows.specs.declared.rows.Waiting.{Waiting}
use Rattle.model_rows.specs.Lists.{Lists, State, order_at}
use Rattle.model_rows.specs.Passages.{is_entry}
use Rattle.model_rows.specs.Refills.{refills}
use Rattle.model_commands.specs.declared.vouchers.VoucherRefusal.{VoucherRefusal}
use Rattle.decide_vouchers.specs.Made.{voucher_made}
use Rattle.decide_vouchers.specs.Changed.{voucher_changed}
use Rattle.model_commands.specs.declared.orders.Move.{Move}
use Rattle.model_commands.specs.declared.orders.Move.TheVariants.{MarkPaid, Extend}
use Rattle.model_commands.specs.declared.orders.OrderRefusal.{OrderRefusal}
use Rattle.decide_orders.specs.Carts.{position_added}
use Rattle.decide_orders.specs.Created.{order_created}
use Rattle.decide_orders.specs.declared.moves.Transition.{Transition}
use Rattle.decide_orders.specs.Moves.{transition_of, order_moved}
use Rattle.model_commands.specs.declared.waiting.WaitingRefusal.{WaitingRefusal}
use Rattle.decide_waiting.specs.Joined.{entry_joined}
use Rattle.model_commands.specs.declared.requests.Command.{Command}
use Rattle.model_commands.specs.declared.requests.Command.TheVariants.{AddVoucher, ChangeVoucher, AddCart, AddOrder, MoveOrder, AddWaiting, Redeem}

-- a row of a request's own, and the voucher that it names
pub record OwnRow : Type 0 where
  pub own : Own
  pub voucher : Option ℕ

-- a cart position as an own row, with the voucher that it names
abbrev pub cart_own : CartPos → OwnRow
cart_own row = record { own = OwnCart row.id; voucher = row.voucher }

-- an order position as an own row, with the voucher that it names
abbrev pub position_own : OrderPos → OwnRow
position_own row = record { own = OwnPosition row.id; voucher = row.voucher }

-- the cart position that was added, if it was
abbrev pub cart_taken : Result (State × CartPos) OrderRefusal → Option (List OwnRow)
cart_taken (Ok (after, row)) = Some (cart_own row ∷ [])
cart_taken (Err refusal) = None

-- the positions of the order that was made or came back, if it did
abbrev pub order_taken : Result (State × OrderRows) OrderRefusal → Option (List OwnRow)
order_taken (Ok (after, rows)) = Some (map position_own rows.positions)
order_taken (Err refusal) = None

-- a voucher has no own rows, and takes no places where it ignores quotas
abbrev pub voucher_taken : Result (State × Voucher) VoucherRefusal → Option (List OwnRow)
voucher_taken (Ok (after, row)) = if row.allow_ignore_quota then None else Some []
voucher_taken (Err refusal) = None

-- an expired order that is marked paid or extended comes back into force
abbrev pub revives : Status → Move → Bool
revives Expired MarkPaid = true
revives Expired (Extend end) = true
revives status change = false

-- there is such an order, and the move brings it back into force
abbrev pub revives_found : Option Order → Move → Bool
revives_found None change = false
revives_found (Some order) change = revives order.status change

-- the move brings the order of this number back into force
abbrev pub brings_back : ℕ → Move → Lists → Bool
brings_back number change lists = revives_found (order_at number lists) change

-- What takes places, told by the command and the office at its moment: adding a cart position, making an order, a move
-- that brings an order back into force, making or changing a voucher that then doesn't ignore quotas, each where it isn't
-- refused. Its own rows are those of its result. A bulk call is none: each of its entries is a command of its own.
abbrev pub rows_taken : Command → Draw → State → Option (List OwnRow)
rows_taken (AddCart new) draw state = cart_taken (position_added new draw state)
rows_taken (AddOrder new) draw state = order_taken (order_created new draw state)
rows_taken (MoveOrder number change) draw state = if brings_back number change state.lists then order_taken (order_moved number change state) else None
rows_taken (AddVoucher new) draw state = voucher_taken (voucher_made new draw state)
rows_taken (ChangeVoucher id patch) draw state = voucher_taken (voucher_changed id patch state)
rows_taken other draw state = None

-- a voucher that was made or changed, and then ignores quotas
abbrev pub voucher_ignores : Result (State × Voucher) VoucherRefusal → Bool
voucher_ignores (Ok (after, row)) = row.allow_ignore_quota
voucher_ignores (Err refusal) = false

-- an entry of the waiting list that was added
abbrev pub is_joined : Result (State × Waiting) WaitingRefusal → Bool
is_joined (Ok (after, row)) = true
is_joined (Err refusal) = false

-- what may raise usage though it is no taking, a line for each command: making or changing a voucher that then ignores
-- quotas, and joining the waiting list
abbrev pub may_raise : Command → Draw → State → Bool
may_raise (AddVoucher new) draw state = voucher_ignores (voucher_made new draw state)
may_raise (ChangeVoucher id patch) draw state = voucher_ignores (voucher_changed id patch state)
may_raise (AddWaiting new) draw state = is_joined (entry_joined new state)
may_raise other draw state = false

-- what the move makes of an order takes places of the quota again
abbrev pub refills_turned : State → Quota → Order → Option Transition → Bool
refills_turned state quota old None = false
refills_turned state quota old (Some turn) = refills state.lists state.moment quota old turn.status

-- there is such an order, and what the move makes of it takes places of the quota again
abbrev pub refills_found : State → Quota → Option Order → Move → Bool
refills_found state quota None change = false
refills_found state quota (Some old) change = refills_turned state quota old (transition_of old.status change)

-- What takes places of a quota again that exits set free, though it is no taking: an entry, a payment that is taken back, and a paid
-- order that ends while a voucher of one who has gone out blocks places. Of a quota that releases places alone.
abbrev pub fills_again : Command → State → Quota → Bool
fills_again (Redeem list ticket scan) state quota = quota.release_after_exit && is_entry scan.kind
fills_again (MoveOrder number change) state quota = refills_found state quota (order_at number state.lists) change
fills_again other state quota = false
