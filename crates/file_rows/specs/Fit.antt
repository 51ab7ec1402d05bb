-- The limits within which a row of the file can be read.
use Rattle.std.specs.Prelude.{◌≡◌, ℕ, ◌<◌, ◌≤◌, ◌^◌, List, length, IfSome}
use Rattle.std.specs.Str.{IsUtf8}
use Rattle.base_values.specs.Counts.{IsUses, IsSize, IsPriority}
use Rattle.base_values.specs.Moments.{IsMoment}
use Rattle.base_values.specs.Money.{IsMoney}
use Rattle.base_values.specs.Slugs.{IsSlug}
use Rattle.base_values.specs.Texts.{IsText}
use Rattle.model_catalogue.specs.declared.rows.Item.{Item}
use Rattle.model_catalogue.specs.declared.rows.Variation.{Variation}
use Rattle.model_rows.specs.declared.rows.CartPos.{CartPos}
use Rattle.model_rows.specs.declared.rows.Order.{Order}
use Rattle.file_rows.specs.declared.rows.PositionRow.{PositionRow}
use Rattle.model_rows.specs.declared.rows.Waiting.{Waiting}
use Rattle.model_rows.specs.declared.rows.Checkin.{Checkin}
use Rattle.file_rows.specs.declared.rows.ShopRow.{ShopRow}
use Rattle.file_rows.specs.declared.rows.QuotaRow.{QuotaRow}
use Rattle.file_rows.specs.declared.rows.VoucherRow.{VoucherRow}
use Rattle.file_rows.specs.declared.rows.BudgetRow.{BudgetRow}
use Rattle.file_rows.specs.declared.rows.DiscountRow.{DiscountRow}
use Rattle.file_rows.specs.declared.rows.ListRow.{ListRow}
use Rattle.file_rows.specs.declared.rows.Token.{Token}
use Rattle.file_rows.specs.declared.rows.KeptRow.{KeptRow}

-- the text of a row, in UTF-8
pub record IsStored (t : List ℕ) : Type 0 where
  pub text : IsText t
  pub utf8 : IsUtf8 t

-- a status of three digits
abbrev pub IsStatus : ℕ → Type 0
IsStatus n = (100 ≤ n) × (n ≤ 999)

-- the 32 bytes of a SHA-256 digest
abbrev pub IsDigest : List ℕ → Type 0
IsDigest digest = length digest ≡ 32

-- whatever the version is
pub record IsFitShop (w : ShopRow) : Type 0 where
  pub organizer : IsSlug w.organizer
  pub event : IsSlug w.event
  pub moment : IsMoment w.moment

-- an item has a text as its name, and costs an amount of money
pub record IsFitItem (w : Item) : Type 0 where
  pub name : IsStored w.name
  pub price : IsMoney w.default_price

-- a variation has a text as its name, and may have an amount of money as its own price
pub record IsFitVariation (w : Variation) : Type 0 where
  pub name : IsStored w.name
  pub price : IfSome w.default_price IsMoney

-- a quota has a text as its name, and may have a size of at most 1,000,000 places
pub record IsFitQuota (w : QuotaRow) : Type 0 where
  pub name : IsStored w.name
  pub size : IfSome w.size IsSize

-- whatever the mode is, the value is at most the greatest amount of money
pub record IsFitVoucher (w : VoucherRow) : Type 0 where
  pub code : IsStored w.voucher.code
  pub uses : IsUses w.voucher.max_usages
  pub end : IfSome w.voucher.valid_until IsMoment
  pub value : IfSome w.voucher.value IsMoney
  pub tag : IsStored w.voucher.tag
  pub comment : IsStored w.voucher.comment

-- a budget is an amount of money
pub record IsFitBudget (w : BudgetRow) : Type 0 where
  pub budget : IsMoney w.budget

-- the id of a cart position's cart is a text, its price an amount of money, and its making and its end are moments
pub record IsFitCart (w : CartPos) : Type 0 where
  pub cart_id : IsStored w.cart_id
  pub price : IsMoney w.price
  pub made_at : IsMoment w.made_at
  pub expires : IsMoment w.expires

-- an order's address, if it has one, is a text, and its making and its end are moments
pub record IsFitOrder (w : Order) : Type 0 where
  pub email : IfSome w.email IsStored
  pub made_at : IsMoment w.made_at
  pub expires : IsMoment w.expires

-- an order position has a number of 32 bits in its order, costs an amount of money, and has a text as its secret
pub record IsFitPosition (w : PositionRow) : Type 0 where
  pub positionid : w.positionid < 2 ^ 32
  pub price : IsMoney w.price
  pub secret : IsStored w.secret

-- a discount is an amount of money
pub record IsFitDiscount (w : DiscountRow) : Type 0 where
  pub discount : IsMoney w.discount

-- the address of an entry of the waiting list is a text, its priority is in range, and its making is a moment
pub record IsFitWaiting (w : Waiting) : Type 0 where
  pub email : IsStored w.email
  pub priority : IsPriority w.priority
  pub created : IsMoment w.created

-- a check-in list has a text as its name
pub record IsFitList (w : ListRow) : Type 0 where
  pub name : IsStored w.name

-- a check-in is of a moment, and may have a text as its nonce
pub record IsFitCheckin (w : Checkin) : Type 0 where
  pub datetime : IsMoment w.datetime
  pub nonce : IfSome w.nonce IsStored

-- of a token the digest is kept, which has 32 bytes
pub record IsFitToken (w : Token) : Type 0 where
  pub digest : IsDigest w.digest

-- an answer is kept since a moment, and has a status of three digits
pub record IsFitKept (w : KeptRow) : Type 0 where
  pub at : IsMoment w.kept.at
  pub status : IsStatus w.kept.response.status
