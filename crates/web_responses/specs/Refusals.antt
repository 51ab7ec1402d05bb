-- The words for a refusal.
use Rattle.std.specs.Prelude.{ℕ, List, Option, Some, None, if◌then◌else◌, codes}
use Rattle.serde_json.specs.Data.{Data, string, object, member, no_members}
use Rattle.base_tables.specs.Tables.{has}
use Rattle.base_values.specs.declared.answer.Response.{Response}
use Rattle.model_catalogue.specs.declared.refusal.CatalogueRefusal.{CatalogueRefusal}
use Rattle.model_catalogue.specs.declared.refusal.CatalogueRefusal.TheVariants as catalogue
use Rattle.model_commands.specs.declared.vouchers.VoucherRefusal.{VoucherRefusal}
use Rattle.model_commands.specs.declared.vouchers.VoucherRefusal.TheVariants as voucher
use Rattle.model_commands.specs.declared.orders.OrderRefusal.{OrderRefusal}
use Rattle.model_commands.specs.declared.orders.OrderRefusal.TheVariants as order
use Rattle.model_commands.specs.declared.waiting.WaitingRefusal.{WaitingRefusal}
use Rattle.model_commands.specs.declared.waiting.WaitingRefusal.TheVariants as waiting
use Rattle.model_commands.specs.declared.doors.DoorRefusal.{DoorRefusal}
use Rattle.model_commands.specs.declared.doors.DoorRefusal.TheVariants as door
use Rattle.model_commands.specs.Refusals.{number_of_refusal}
use Rattle.model_commands.specs.declared.requests.Kind.{Kind}
use Rattle.model_commands.specs.declared.requests.Kind.TheVariants as kinds
use Rattle.model_commands.specs.declared.replies.Refusal.{Refusal}
use Rattle.model_commands.specs.declared.replies.Refusal.TheVariants as refusals
use Rattle.model_rows.specs.declared.rows.Status.{Status}
use Rattle.web_json.specs.Values.{count}
use Rattle.model_rows.specs.Letters.{status_letter}
use Rattle.web_responses.specs.Responses.{response, empty_body}
use Rattle.web_responses.specs.Table.{KindRefusals, row_of}
use Rattle.web_responses.specs.declared.refusals.Manner.{Manner}
use Rattle.web_responses.specs.declared.refusals.Manner.TheVariants.{Missing, Told, Untold}
use Rattle.model_faults.specs.declared.fields.Field.TheVariants as fields
use Rattle.model_faults.specs.declared.fields.Problem.TheVariants as problems
use Rattle.web_responses.specs.Faults.{not_found_body, invalid_page_body, fault_body}

-- how a request is told the refusal of that number, by its row of the table
abbrev pub manner_by : KindRefusals → ℕ → Manner
manner_by row number = if has number row.missing then Missing else (if has number row.others then Told else Untold)

-- how a request of a kind is refused with that refusal, by the table
abbrev pub manner_of : Kind → Refusal → Manner
manner_of kind refusal = manner_by (row_of kind) (number_of_refusal refusal)

-- the sentence that tells a refusal; none for want of memory, and for what is told in another way
abbrev pub catalogue_detail : CatalogueRefusal → Option (List ℕ)
catalogue_detail catalogue.Memory = None
catalogue_detail catalogue.NoItem = Some (codes "Item not found.")
catalogue_detail catalogue.NoVariation = Some (codes "Variation not found.")
catalogue_detail catalogue.NeedsVariation = Some (codes "Variation needed.")
catalogue_detail catalogue.NoQuota = Some (codes "Quota not found.")
catalogue_detail catalogue.BadMember = Some (codes "Wrong members.")
catalogue_detail catalogue.Inactive = Some (codes "Not active.")
catalogue_detail catalogue.Full = Some (codes "Shop is full.")
catalogue_detail catalogue.Plain = Some (codes "Item has no variations.")
catalogue_detail catalogue.NotSold = Some (codes "In no quota.")

-- the sentence for a voucher; a refusal of what it names has the catalogue's
abbrev pub voucher_detail : VoucherRefusal → Option (List ℕ)
voucher_detail voucher.Memory = None
voucher_detail (voucher.Catalogue refusal) = catalogue_detail refusal
voucher_detail voucher.TooLarge = None
voucher_detail voucher.CodeTaken = Some (codes "Code is taken.")
voucher_detail voucher.BadTarget = Some (codes "Wrong target.")
voucher_detail voucher.CannotBlock = Some (codes "Cannot block.")
voucher_detail voucher.NoVoucher = Some (codes "Voucher not found.")
voucher_detail voucher.VoucherExpired = Some (codes "Voucher is expired.")
voucher_detail voucher.NoHeadroom = Some (codes "Voucher has no uses left.")
voucher_detail voucher.WrongProduct = Some (codes "Voucher does not fit.")
voucher_detail voucher.InUse = Some (codes "In use.")
voucher_detail (voucher.SoldOut quota) = Some (codes "Sold out.")
voucher_detail voucher.ReservedCode = Some (codes "Code is reserved.")
voucher_detail voucher.OverBudget = Some (codes "Voucher budget is spent.")

-- the sentence for an order or a cart; a refusal of a position or of its voucher has a voucher's
abbrev pub order_detail : OrderRefusal → Option (List ℕ)
order_detail order.Memory = None
order_detail (order.Voucher refusal) = voucher_detail refusal
order_detail order.NoPosition = None
order_detail order.NoOrder = None
order_detail (order.WrongStatus status) = None
order_detail order.Empty = Some (codes "No positions.")
order_detail order.TooMany = Some (codes "Too many.")
order_detail order.BadCart = Some (codes "Wrong cart.")

-- the sentence for the waiting list; a refusal of what is waited for has the catalogue's
abbrev pub waiting_detail : WaitingRefusal → Option (List ℕ)
waiting_detail waiting.Memory = None
waiting_detail (waiting.Catalogue refusal) = catalogue_detail refusal
waiting_detail (waiting.SoldOut quota) = Some (codes "Sold out.")
waiting_detail waiting.StillAvailable = Some (codes "Still available.")
waiting_detail waiting.AlreadyWaiting = Some (codes "Already waiting.")
waiting_detail waiting.AlreadySent = Some (codes "Already sent.")
waiting_detail waiting.NoEntry = None

-- what a door says of a ticket is no sentence but a word
abbrev pub door_detail : DoorRefusal → Option (List ℕ)
door_detail (door.Catalogue refusal) = catalogue_detail refusal
door_detail refusal = None

-- the sentence for any refusal, by the part of the shop that it is of
abbrev pub detail : Refusal → Option (List ℕ)
detail (refusals.Catalogue refusal) = catalogue_detail refusal
detail (refusals.Voucher refusal) = voucher_detail refusal
detail (refusals.Order refusal) = order_detail refusal
detail (refusals.Waiting refusal) = waiting_detail refusal
detail (refusals.Door refusal) = door_detail refusal
detail refusals.NoPage = None

-- the quota that is sold out
abbrev pub quota_of : VoucherRefusal → Option ℕ
quota_of (voucher.SoldOut quota) = Some quota
quota_of refusal = None

-- the quota that is sold out, where the refusal says that; a cart or an order is sold out as a voucher is
abbrev pub quota_named : Refusal → Option ℕ
quota_named (refusals.Voucher refusal) = quota_of refusal
quota_named (refusals.Order (order.Voucher refusal)) = quota_of refusal
quota_named (refusals.Waiting (waiting.SoldOut quota)) = Some quota
quota_named refusal = None

-- `{"code":N,"detail":"text"}`, and `{"code":N,"detail":"text","quota":Q}` where a quota is named
abbrev pub refusal_body : ℕ → List ℕ → Option ℕ → Data
refusal_body number text None = object (
    member (codes "code") (count number)
    (member (codes "detail") (string text)
    no_members))
refusal_body number text (Some quota) = object (
    member (codes "code") (count number)
    (member (codes "detail") (string text)
    (member (codes "quota") (count quota)
    no_members)))

-- `{"code":42,"detail":"text","status":"c"}`
abbrev pub wrong_status_body : Status → Data
wrong_status_body status = object (
    member (codes "code") (count 42)
    (member (codes "detail") (string (codes "Not possible in this status."))
    (member (codes "status") (string (status_letter status))
    no_members)))

-- by number and sentence
abbrev pub numbered_body : Refusal → Option (List ℕ) → Data
numbered_body refusal None = empty_body
numbered_body refusal (Some text) = refusal_body (number_of_refusal refusal) text (quota_named refusal)

-- the word by which a door says why a ticket isn't let in
abbrev pub reason_of : DoorRefusal → Option (List ℕ)
reason_of door.Invalid = Some (codes "invalid")
reason_of door.Canceled = Some (codes "canceled")
reason_of door.Product = Some (codes "product")
reason_of door.Unpaid = Some (codes "unpaid")
reason_of door.AlreadyRedeemed = Some (codes "already_redeemed")
reason_of refusal = None

-- `{"reason":R,"status":"error"}`
abbrev pub reason_body : List ℕ → Data
reason_body word = object (
    member (codes "reason") (string word)
    (member (codes "status") (string (codes "error"))
    no_members))

-- by its word where it has one, else by number and sentence
abbrev pub door_body : DoorRefusal → Option (List ℕ) → Data
door_body refusal None = numbered_body (refusals.Door refusal) (door_detail refusal)
door_body refusal (Some word) = reason_body word

-- an entry that was sent its voucher may neither be changed nor deleted; to send it another is no more than wrong
abbrev pub sent_status : Kind → ℕ
sent_status kinds.SendVoucher = 400
sent_status kind = 403

-- a page or a ticket that isn't there has 404, what is forbidden 403, and any other refusal 400
abbrev pub told_status : Kind → Refusal → ℕ
told_status kind refusals.NoPage = 404
told_status kind (refusals.Door door.Invalid) = 404
told_status kind (refusals.Voucher voucher.InUse) = 403
told_status kind (refusals.Waiting waiting.AlreadySent) = sent_status kind
told_status kind refusal = 400

-- more than 100 percent is told as a fault of the field, a page that isn't there by `Invalid page.`, an order's status
-- that doesn't allow a move with that status, a ticket that isn't let in by the door's word, and any other refusal by its
-- number and its sentence
abbrev pub told_body : Refusal → Data
told_body (refusals.Voucher voucher.TooLarge) = fault_body (record { field = fields.Value; problem = problems.OutOfRange })
told_body refusals.NoPage = invalid_page_body
told_body (refusals.Order (order.WrongStatus status)) = wrong_status_body status
told_body (refusals.Door refusal) = door_body refusal (reason_of refusal)
told_body refusal = numbered_body refusal (detail refusal)

-- 404 where the path names what isn't there, the refusal's own status, or 200 where no request of the kind is refused so
abbrev pub status_in : Manner → Kind → Refusal → ℕ
status_in Missing kind refusal = 404
status_in Told kind refusal = told_status kind refusal
status_in Untold kind refusal = 200

-- `Not found.`, the refusal's own body, or `{}`
abbrev pub body_in : Manner → Refusal → Data
body_in Missing refusal = not_found_body
body_in Told refusal = told_body refusal
body_in Untold refusal = empty_body

-- the body by which a request of this kind is refused with that refusal
unfoldable pub refusal_data : Kind → Refusal → Data
refusal_data kind refusal = body_in (manner_of kind refusal) refusal

-- a refusal is told by its status and its body
unfoldable pub refused_response : Kind → Refusal → Response
refused_response kind refusal = response (status_in (manner_of kind refusal) kind refusal) None (refusal_data kind refusal)
