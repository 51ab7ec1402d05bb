-- What each query is answered.
use Rattle.std.specs.Prelude.{ℕ, Option, Some, None, if◌then◌else◌}
use Rattle.model_catalogue.specs.declared.rows.Item.{Item}
use Rattle.model_catalogue.specs.declared.rows.Quota.{Quota}
use Rattle.model_catalogue.specs.declared.refusal.CatalogueRefusal.TheVariants.{NoItem, NoQuota}
use Rattle.model_catalogue.specs.CatalogueLists.{item_at, quota_at}
use Rattle.model_rows.specs.declared.rows.CartPos.{CartPos}
use Rattle.model_rows.specs.declared.rows.Voucher.{Voucher}
use Rattle.model_rows.specs.declared.rows.Order.{Order}
use Rattle.model_rows.specs.declared.rows.OrderPos.{OrderPos}
use Rattle.model_rows.specs.declared.rows.Waiting.{Waiting}
use Rattle.model_rows.specs.declared.rows.CheckinList.{CheckinList}
use Rattle.model_rows.specs.Lists.{Lists, State, voucher_at, cart_at, order_at, position_at, waiting_at, checkin_list_at}
use Rattle.model_rows.specs.Available.{availability}
use Rattle.model_commands.specs.declared.vouchers.VoucherRefusal.TheVariants.{NoVoucher}
use Rattle.model_commands.specs.declared.orders.OrderRefusal.TheVariants.{NoPosition, NoOrder}
use Rattle.model_commands.specs.declared.waiting.WaitingRefusal.TheVariants.{NoEntry}
use Rattle.model_commands.specs.declared.doors.DoorRefusal.TheVariants.{NoList, Invalid}
pub use Rattle.decide_door.specs.Belongs.{belongs, belonging}
use Rattle.decide_door.specs.Status.{status_of}
use Rattle.model_commands.specs.declared.requests.Query.{Query}
use Rattle.model_commands.specs.declared.requests.Query.TheVariants as queries
use Rattle.model_commands.specs.declared.requests.Resource.{Resource}
use Rattle.model_commands.specs.declared.requests.Resource.TheVariants.{Items, Quotas, Vouchers, Carts, Orders, WaitingEntries, CheckinLists, Tickets}
use Rattle.model_commands.specs.declared.requests.Kind.TheVariants as kinds
use Rattle.model_commands.specs.declared.replies.Refusal.TheVariants as refusals
use Rattle.model_commands.specs.declared.replies.Reply.{Reply}
use Rattle.model_commands.specs.declared.replies.Reply.TheVariants.{Availability as TheAvailability, Status as TheStatus, Found, Refused}
use Rattle.office_step.specs.ShownRows.{show_item, show_quota, show_voucher, show_cart, show_order, show_waiting, show_checkin_list, show_ticket}
use Rattle.model_commands.specs.Pages.{page_listed}

-- a page of the positions that belong to a check-in list, by id, if there is such a list
abbrev pub tickets_listed : ℕ → ℕ → Lists → Option CheckinList → Reply
tickets_listed id number lists None = Refused kinds.List (refusals.Door NoList)
tickets_listed id number lists (Some list) = page_listed (Tickets id) (show_ticket list lists) number (belonging list lists)

-- a page of a list
abbrev pub list_of : Resource → ℕ → Lists → Reply
list_of Items number lists = page_listed Items (show_item lists) number lists.catalogue.items
list_of Quotas number lists = page_listed Quotas show_quota number lists.catalogue.quotas
list_of Vouchers number lists = page_listed Vouchers (show_voucher lists) number lists.vouchers
list_of Carts number lists = page_listed Carts show_cart number lists.carts
list_of Orders number lists = page_listed Orders (show_order lists) number lists.orders
list_of WaitingEntries number lists = page_listed WaitingEntries show_waiting number lists.waiting
list_of CheckinLists number lists = page_listed CheckinLists show_checkin_list number lists.checkin_lists
list_of (Tickets id) number lists = tickets_listed id number lists (checkin_list_at id lists)

-- an item with its variations, or a refusal where there is none
abbrev pub item_found : Lists → Option Item → Reply
item_found lists None = Refused kinds.One (refusals.Catalogue NoItem)
item_found lists (Some item) = Found (show_item lists item)

-- a quota, or a refusal where there is none
abbrev pub quota_found : Option Quota → Reply
quota_found None = Refused kinds.One (refusals.Catalogue NoQuota)
quota_found (Some quota) = Found (show_quota quota)

-- a voucher with the number of its uses in orders, or a refusal where there is none
abbrev pub voucher_found : Lists → Option Voucher → Reply
voucher_found lists None = Refused kinds.One (refusals.Voucher NoVoucher)
voucher_found lists (Some voucher) = Found (show_voucher lists voucher)

-- a cart position, dead ones too, or a refusal where there is none
abbrev pub cart_found : Option CartPos → Reply
cart_found None = Refused kinds.One (refusals.Order NoPosition)
cart_found (Some cart) = Found (show_cart cart)

-- an order with its positions, or a refusal where there is none
abbrev pub order_found : Lists → Option Order → Reply
order_found lists None = Refused kinds.One (refusals.Order NoOrder)
order_found lists (Some order) = Found (show_order lists order)

-- an entry of the waiting list, or a refusal where there is none
abbrev pub entry_found : Option Waiting → Reply
entry_found None = Refused kinds.One (refusals.Waiting NoEntry)
entry_found (Some entry) = Found (show_waiting entry)

-- a check-in list, or a refusal where there is none
abbrev pub checkin_list_found : Option CheckinList → Reply
checkin_list_found None = Refused kinds.One (refusals.Door NoList)
checkin_list_found (Some list) = Found (show_checkin_list list)

-- a position that belongs to the list
abbrev pub ticket_if : CheckinList → Lists → OrderPos → Reply
ticket_if list lists position = if belongs list lists position then Found (show_ticket list lists position) else Refused kinds.One (refusals.Door Invalid)

-- a position, where there is one and it belongs to the list; else the ticket is invalid there
abbrev pub ticket_found : CheckinList → Lists → Option OrderPos → Reply
ticket_found list lists None = Refused kinds.One (refusals.Door Invalid)
ticket_found list lists (Some position) = ticket_if list lists position

-- the position of this id, where it belongs to the list
abbrev pub ticket_in : ℕ → Lists → Option CheckinList → Reply
ticket_in id lists None = Refused kinds.One (refusals.Door NoList)
ticket_in id lists (Some list) = ticket_found list lists (position_at id lists)

-- the answer that shows a single row
abbrev pub one_of : Resource → ℕ → Lists → Reply
one_of Items id lists = item_found lists (item_at id lists.catalogue)
one_of Quotas id lists = quota_found (quota_at id lists.catalogue)
one_of Vouchers id lists = voucher_found lists (voucher_at id lists)
one_of Carts id lists = cart_found (cart_at id lists)
one_of Orders number lists = order_found lists (order_at number lists)
one_of WaitingEntries id lists = entry_found (waiting_at id lists)
one_of CheckinLists id lists = checkin_list_found (checkin_list_at id lists)
one_of (Tickets list) id lists = ticket_in id lists (checkin_list_at list lists)

-- what is left of a quota at the moment of the query, or a refusal where there is no such quota
abbrev pub availability_of : Lists → ℕ → Option Quota → Reply
availability_of lists at None = Refused kinds.Availability (refusals.Catalogue NoQuota)
availability_of lists at (Some quota) = TheAvailability (availability lists at quota)

-- the numbers of a check-in list
abbrev pub status_told : Lists → Option CheckinList → Reply
status_told lists None = Refused kinds.Status (refusals.Door NoList)
status_told lists (Some list) = TheStatus (status_of list lists)

-- what a query is answered at a moment
abbrev pub answer : Query → ℕ → State → Reply
answer (queries.List resource number) at state = list_of resource number state.lists
answer (queries.One resource id) at state = one_of resource id state.lists
answer (queries.Availability id) at state = availability_of state.lists at (quota_at id state.lists.catalogue)
answer (queries.Status id) at state = status_told state.lists (checkin_list_at id state.lists)
