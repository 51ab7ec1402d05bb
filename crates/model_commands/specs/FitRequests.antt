-- What the types of requests promise: texts, amounts of money, moments and counts are within their limits.
use Rattle.std.specs.Prelude.{IfSome}
use Rattle.std.specs.List.{AllByRecursion}
use Rattle.base_values.specs.Counts.{IsUses, IsPriority}
use Rattle.base_values.specs.Moments.{IsMoment}
use Rattle.base_values.specs.Money.{IsMoney}
use Rattle.base_values.specs.Texts.{IsText}
use Rattle.model_commands.specs.declared.vouchers.NewVoucher.{NewVoucher}
use Rattle.model_commands.specs.declared.vouchers.VoucherPatch.{VoucherPatch}
use Rattle.model_commands.specs.declared.carts.Asked.{Asked}
use Rattle.model_commands.specs.declared.carts.NewCart.{NewCart}
use Rattle.model_commands.specs.declared.carts.Entry.{Entry}
use Rattle.model_commands.specs.declared.carts.Entry.TheVariants as entries
use Rattle.model_commands.specs.declared.orders.NewOrder.{NewOrder}
use Rattle.model_commands.specs.declared.orders.Move.{Move}
use Rattle.model_commands.specs.declared.orders.Move.TheVariants as moves
use Rattle.model_commands.specs.declared.waiting.NewWaiting.{NewWaiting}
use Rattle.model_commands.specs.declared.waiting.WaitingPatch.{WaitingPatch}
use Rattle.model_commands.specs.declared.doors.NewCheckinList.{NewCheckinList}
use Rattle.model_commands.specs.declared.doors.Scan.{Scan}

-- a new voucher's texts and uses, and the end, the value and the budget, if they are given, are within their limits
pub record IsFitVoucher (new : NewVoucher) : Type 0 where
  pub code : IfSome new.code IsText
  pub uses : IsUses new.max_usages
  pub end : IfSome new.valid_until IsMoment
  pub value : IfSome new.value IsMoney
  pub tag : IsText new.tag
  pub comment : IsText new.comment
  pub budget : IfSome new.budget IsMoney

-- what a change gives of a voucher's texts, uses, end, value and budget is within its limits
pub record IsFitVoucherPatch (patch : VoucherPatch) : Type 0 where
  pub code : IfSome patch.code IsText
  pub uses : IfSome patch.max_usages IsUses
  pub end : IfSome patch.valid_until (λ end. IfSome end IsMoment)
  pub value : IfSome patch.value (λ value. IfSome value IsMoney)
  pub tag : IfSome patch.tag IsText
  pub comment : IfSome patch.comment IsText
  pub budget : IfSome patch.budget (λ budget. IfSome budget IsMoney)

-- the price that is asked for a position, if one is given, is an amount of money
pub record IsFitAsked (asked : Asked) : Type 0 where
  pub price : IfSome asked.price IsMoney

-- a new cart position's price, cart id and end, as far as they are given, are within their limits
pub record IsFitCart (new : NewCart) : Type 0 where
  pub asked : IsFitAsked new.asked
  pub cart_id : IfSome new.cart_id IsText
  pub expires : IfSome new.expires IsMoment

-- the cart position that an entry of a bulk call asks for is within its limits; of a faulty entry nothing is said
abbrev pub IsFitEntry : Entry → Type 0
IsFitEntry (entries.New new) = IsFitCart new
IsFitEntry (entries.Faulty fault) = Unit {0}

-- a new order's address, end and prices, as far as they are given, are within their limits
pub record IsFitOrder (new : NewOrder) : Type 0 where
  pub email : IfSome new.email IsText
  pub expires : IfSome new.expires IsMoment
  pub positions : AllByRecursion IsFitAsked new.positions

-- the end to which an order is extended is a moment; the other moves give nothing
abbrev pub IsFitMove : Move → Type 0
IsFitMove (moves.Extend end) = IsMoment end
IsFitMove other = Unit {0}

-- the address of a new entry is a text, and its priority is in range
pub record IsFitWaiting (new : NewWaiting) : Type 0 where
  pub email : IsText new.email
  pub priority : IsPriority new.priority

-- the priority, if a change of an entry gives one, is in range
pub record IsFitWaitingPatch (patch : WaitingPatch) : Type 0 where
  pub priority : IfSome patch.priority IsPriority

-- the name of a new check-in list is a text
pub record IsFitCheckinList (new : NewCheckinList) : Type 0 where
  pub name : IsText new.name

-- a scan's nonce, if it has one, is a text, and its time, if it has one, a moment
pub record IsFitScan (scan : Scan) : Type 0 where
  pub nonce : IfSome scan.nonce IsText
  pub datetime : IfSome scan.datetime IsMoment
