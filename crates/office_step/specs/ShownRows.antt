-- How each row is shown.
use Rattle.model_catalogue.specs.declared.rows.Item.{Item}
use Rattle.model_catalogue.specs.declared.rows.Quota.{Quota}
use Rattle.model_catalogue.specs.CatalogueLists.{with_variations}
use Rattle.model_rows.specs.declared.rows.CartPos.{CartPos}
use Rattle.model_rows.specs.declared.rows.Voucher.{Voucher}
use Rattle.model_rows.specs.declared.rows.Order.{Order}
use Rattle.model_rows.specs.declared.rows.OrderPos.{OrderPos}
use Rattle.model_rows.specs.declared.rows.Waiting.{Waiting}
use Rattle.model_rows.specs.declared.rows.CheckinList.{CheckinList}
use Rattle.model_rows.specs.Lists.{Lists, positions_of}
use Rattle.model_rows.specs.Usage.{redeemed}
use Rattle.model_invariant.specs.Positions.{by_positionid}
pub use Rattle.decide_door.specs.Status.{ticket_of}
use Rattle.model_commands.specs.declared.replies.Shown.{Shown}
use Rattle.model_commands.specs.declared.replies.Shown.TheVariants as rows

-- an item with its variations
abbrev pub show_item : Lists → Item → Shown
show_item lists item = rows.Item (with_variations lists.catalogue item)

-- a quota as its row, with its members and without what is used of it
abbrev pub show_quota : Quota → Shown
show_quota quota = rows.Quota quota

-- a voucher with the number of its uses in orders
unfoldable pub show_voucher : Lists → Voucher → Shown
show_voucher lists voucher = rows.Voucher voucher (redeemed voucher.id lists)

-- a cart position as its row, alive or dead
abbrev pub show_cart : CartPos → Shown
show_cart cart = rows.Cart cart

-- an order with its positions, by their numbers
abbrev pub show_order : Lists → Order → Shown
show_order lists order = rows.Order (record { order = order; positions = by_positionid (positions_of order.id lists) })

-- an entry of the waiting list as its row
abbrev pub show_waiting : Waiting → Shown
show_waiting entry = rows.Waiting entry

-- a check-in list as its row, without the positions that belong to it
abbrev pub show_checkin_list : CheckinList → Shown
show_checkin_list list = rows.CheckinList list

-- a position that belongs to the check-in list, with its check-ins of it
abbrev pub show_ticket : CheckinList → Lists → OrderPos → Shown
show_ticket list lists position = rows.Ticket (ticket_of list lists position)
