-- The number of each refusal.
use Rattle.std.specs.Prelude.{ℕ}
use Rattle.model_catalogue.specs.Refusals.{number_of_refusal as number_of_catalogue_refusal}
use Rattle.model_commands.specs.declared.vouchers.VoucherRefusal.{VoucherRefusal}
use Rattle.model_commands.specs.declared.vouchers.VoucherRefusal.TheVariants as voucher
use Rattle.model_commands.specs.declared.orders.OrderRefusal.{OrderRefusal}
use Rattle.model_commands.specs.declared.orders.OrderRefusal.TheVariants as order
use Rattle.model_commands.specs.declared.waiting.WaitingRefusal.{WaitingRefusal}
use Rattle.model_commands.specs.declared.waiting.WaitingRefusal.TheVariants as waiting
use Rattle.model_commands.specs.declared.doors.DoorRefusal.{DoorRefusal}
use Rattle.model_commands.specs.declared.doors.DoorRefusal.TheVariants as door
use Rattle.model_commands.specs.declared.replies.Refusal.{Refusal}
use Rattle.model_commands.specs.declared.replies.Refusal.TheVariants.{Catalogue, Voucher, Order, Waiting, Door, NoPage}

-- 2, 20 to 28, 33 and 34 are a voucher's own, and 6 is want of memory; what it names has the catalogue's numbers
abbrev pub number_of_voucher_refusal : VoucherRefusal → ℕ
number_of_voucher_refusal voucher.Memory = 6
number_of_voucher_refusal (voucher.Catalogue refusal) = number_of_catalogue_refusal refusal
number_of_voucher_refusal voucher.TooLarge = 2
number_of_voucher_refusal voucher.CodeTaken = 20
number_of_voucher_refusal voucher.BadTarget = 21
number_of_voucher_refusal voucher.CannotBlock = 22
number_of_voucher_refusal voucher.NoVoucher = 23
number_of_voucher_refusal voucher.VoucherExpired = 24
number_of_voucher_refusal voucher.NoHeadroom = 25
number_of_voucher_refusal voucher.WrongProduct = 26
number_of_voucher_refusal voucher.InUse = 27
number_of_voucher_refusal (voucher.SoldOut quota) = 28
number_of_voucher_refusal voucher.ReservedCode = 33
number_of_voucher_refusal voucher.OverBudget = 34

-- 40 to 45 are an order's and a cart's own, and 6 is want of memory; a position has a voucher's numbers
abbrev pub number_of_order_refusal : OrderRefusal → ℕ
number_of_order_refusal order.Memory = 6
number_of_order_refusal (order.Voucher refusal) = number_of_voucher_refusal refusal
number_of_order_refusal order.NoPosition = 40
number_of_order_refusal order.NoOrder = 41
number_of_order_refusal (order.WrongStatus status) = 42
number_of_order_refusal order.Empty = 43
number_of_order_refusal order.TooMany = 44
number_of_order_refusal order.BadCart = 45

-- 29 to 32 are the waiting list's own, 28 is sold out, and 6 is want of memory; a product has the catalogue's numbers
abbrev pub number_of_waiting_refusal : WaitingRefusal → ℕ
number_of_waiting_refusal waiting.Memory = 6
number_of_waiting_refusal (waiting.Catalogue refusal) = number_of_catalogue_refusal refusal
number_of_waiting_refusal (waiting.SoldOut quota) = 28
number_of_waiting_refusal waiting.StillAvailable = 29
number_of_waiting_refusal waiting.AlreadyWaiting = 30
number_of_waiting_refusal waiting.AlreadySent = 31
number_of_waiting_refusal waiting.NoEntry = 32

-- 50 to 55 are a door's own, and 6 is want of memory; an item of a list has the catalogue's numbers
abbrev pub number_of_door_refusal : DoorRefusal → ℕ
number_of_door_refusal door.Memory = 6
number_of_door_refusal (door.Catalogue refusal) = number_of_catalogue_refusal refusal
number_of_door_refusal door.NoList = 50
number_of_door_refusal door.Invalid = 51
number_of_door_refusal door.Canceled = 52
number_of_door_refusal door.Product = 53
number_of_door_refusal door.Unpaid = 54
number_of_door_refusal door.AlreadyRedeemed = 55

-- by the part of the shop that it is of; 59 is a page that isn't there
abbrev pub number_of_refusal : Refusal → ℕ
number_of_refusal (Catalogue refusal) = number_of_catalogue_refusal refusal
number_of_refusal (Voucher refusal) = number_of_voucher_refusal refusal
number_of_refusal (Order refusal) = number_of_order_refusal refusal
number_of_refusal (Waiting refusal) = number_of_waiting_refusal refusal
number_of_refusal (Door refusal) = number_of_door_refusal refusal
number_of_refusal NoPage = 59
