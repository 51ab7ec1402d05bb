-- The limits of what rows hold: texts, amounts of money, moments and counts.
use Rattle.std.specs.Prelude.{ℕ, ◌≤◌, IfSome}
use Rattle.std.specs.List.{AllByRecursion}
use Rattle.base_values.specs.Counts.{IsUses, IsSize, IsPriority}
use Rattle.base_values.specs.Moments.{IsMoment}
use Rattle.base_values.specs.Money.{IsMoney}
use Rattle.base_values.specs.Percent.{whole}
use Rattle.base_values.specs.Texts.{IsText}
use Rattle.base_values.specs.declared.price_mode.PriceMode.{PriceMode}
use Rattle.base_values.specs.declared.price_mode.PriceMode.TheVariants as modes
use Rattle.model_catalogue.specs.declared.rows.Item.{Item}
use Rattle.model_catalogue.specs.declared.rows.Variation.{Variation}
use Rattle.model_catalogue.specs.declared.rows.Quota.{Quota}
use Rattle.model_rows.specs.declared.rows.Voucher.{Voucher}
use Rattle.model_rows.specs.declared.rows.CartPos.{CartPos}
use Rattle.model_rows.specs.declared.rows.Order.{Order}
use Rattle.model_rows.specs.declared.rows.OrderPos.{OrderPos}
use Rattle.model_rows.specs.declared.rows.Waiting.{Waiting}
use Rattle.model_rows.specs.declared.rows.CheckinList.{CheckinList}
use Rattle.model_rows.specs.declared.rows.Checkin.{Checkin}
use Rattle.model_rows.specs.Lists.{Lists}
use Rattle.model_invariant.specs.Ids.{EachTable}

-- a voucher's value: money, and in the mode percent hundredths of a percent, at most 10,000
abbrev pub IsValue : PriceMode → ℕ → Type 0
IsValue modes.None value = IsMoney value
IsValue modes.Set value = IsMoney value
IsValue modes.Subtract value = IsMoney value
IsValue modes.Percent value = value ≤ whole

-- an item's name is a text, and its price is money
pub record IsLimitedItem (row : Item) : Type 0 where
  pub name : IsText row.name
  pub price : IsMoney row.default_price

-- a variation's name is a text, and its price, where it has one, is money
pub record IsLimitedVariation (row : Variation) : Type 0 where
  pub name : IsText row.name
  pub price : IfSome row.default_price IsMoney

-- a quota's name is a text, and its size, where it has one, is at most 1,000,000
pub record IsLimitedQuota (row : Quota) : Type 0 where
  pub name : IsText row.name
  pub size : IfSome row.size IsSize

-- a voucher's code, tag and comment are texts; it may be used 1 to 1,000,000 times, up to a moment, and has a value by its mode;
-- its budget, where it has one, is money
pub record IsLimitedVoucher (row : Voucher) : Type 0 where
  pub code : IsText row.code
  pub uses : IsUses row.max_usages
  pub end : IfSome row.valid_until IsMoment
  pub value : IfSome row.value (IsValue row.price_mode)
  pub tag : IsText row.tag
  pub comment : IsText row.comment
  pub budget : IfSome row.budget IsMoney

-- a cart's id is a text, the price of a position money; it is made at a moment and expires at one
pub record IsLimitedCart (row : CartPos) : Type 0 where
  pub cart_id : IsText row.cart_id
  pub price : IsMoney row.price
  pub made_at : IsMoment row.made_at
  pub expires : IsMoment row.expires

-- an order's email, where it has one, is a text; it is made at a moment and expires at one
pub record IsLimitedOrder (row : Order) : Type 0 where
  pub email : IfSome row.email IsText
  pub made_at : IsMoment row.made_at
  pub expires : IsMoment row.expires

-- an order position's price and its discount are money, and its secret a text
pub record IsLimitedPosition (row : OrderPos) : Type 0 where
  pub price : IsMoney row.price
  pub secret : IsText row.secret
  pub discount : IsMoney row.discount

-- a waiting entry's email is a text, its priority is -1,000,000 to 1,000,000, and it is created at a moment
pub record IsLimitedWaiting (row : Waiting) : Type 0 where
  pub email : IsText row.email
  pub priority : IsPriority row.priority
  pub created : IsMoment row.created

-- a check-in list's name is a text
pub record IsLimitedCheckinList (row : CheckinList) : Type 0 where
  pub name : IsText row.name

-- a check-in is at a moment, and its nonce, where it has one, is a text
pub record IsLimitedCheckin (row : Checkin) : Type 0 where
  pub datetime : IsMoment row.datetime
  pub nonce : IfSome row.nonce IsText

-- each row
abbrev pub AllLimited : Lists → Type 0
AllLimited lists =
    EachTable
    (AllByRecursion IsLimitedItem lists.catalogue.items)
    (AllByRecursion IsLimitedVariation lists.catalogue.variations)
    (AllByRecursion IsLimitedQuota lists.catalogue.quotas)
    (AllByRecursion IsLimitedVoucher lists.vouchers)
    (AllByRecursion IsLimitedCart lists.carts)
    (AllByRecursion IsLimitedOrder lists.orders)
    (AllByRecursion IsLimitedPosition lists.positions)
    (AllByRecursion IsLimitedWaiting lists.waiting)
    (AllByRecursion IsLimitedCheckinList lists.checkin_lists)
    (AllByRecursion IsLimitedCheckin lists.checkins)
