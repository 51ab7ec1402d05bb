-- What the types of a shop's values promise, and the rules of a box office don't say: texts are UTF-8, the place of a ticket has 32 bits,
-- digests have 32 bytes, kept answers a moment and a status of three digits.
use Rattle.std.specs.Prelude.{◌≡◌, ◌<◌, ◌^◌, List, All, IfSome}
use Rattle.std.specs.List.{AllByRecursion}
use Rattle.std.specs.Str.{IsUtf8}
use Rattle.base_values.specs.Moments.{IsMoment}
use Rattle.base_values.specs.Slugs.{IsSlug}
use Rattle.model_catalogue.specs.Limits.{last_id}
use Rattle.model_catalogue.specs.declared.rows.Item.{Item}
use Rattle.model_catalogue.specs.declared.rows.Variation.{Variation}
use Rattle.model_rows.specs.declared.changes.Change.{Change}
use Rattle.model_rows.specs.declared.changes.Change.TheVariants.{PutItem, PutVariation, PutQuota, PutVoucher, PutCart, PutOrder, PutPosition, PutWaiting, DropVoucher, DropCart, DropWaiting, PutCheckinList, PutCheckin}
use Rattle.model_rows.specs.declared.rows.CartPos.{CartPos}
use Rattle.model_rows.specs.declared.rows.Order.{Order}
use Rattle.model_rows.specs.declared.rows.Waiting.{Waiting}
use Rattle.model_rows.specs.declared.rows.Checkin.{Checkin}
use Rattle.model_answers.specs.declared.kept.Kept.{Kept}
use Rattle.model_invariant.specs.Range.{IsNextId}
use Rattle.file_schema.specs.Tables.{this_version}
use Rattle.file_rows.specs.declared.rows.ShopRow.{ShopRow}
use Rattle.file_rows.specs.declared.rows.PositionRow.{PositionRow}
use Rattle.file_rows.specs.declared.rows.Token.{Token}
use Rattle.file_rows.specs.declared.rows.VoucherHead.{VoucherHead}
use Rattle.file_rows.specs.Changes.{head_of_voucher, head_of_position}
use Rattle.file_rows.specs.Fit.{IsStatus, IsFitToken, IsFitKept}
use Rattle.file_rows.specs.Tables.{Tables}

-- ---- a row

-- an item's name is UTF-8
abbrev pub IsTypedItem : Item → Type 0
IsTypedItem w = IsUtf8 w.name

-- a variation's name is UTF-8
abbrev pub IsTypedVariation : Variation → Type 0
IsTypedVariation w = IsUtf8 w.name

-- a voucher's code, tag and comment are UTF-8
abbrev pub IsTypedVoucher : VoucherHead → Type 0
IsTypedVoucher w = IsUtf8 w.code × IsUtf8 w.tag × IsUtf8 w.comment

-- the id of a cart position's cart is UTF-8
abbrev pub IsTypedCart : CartPos → Type 0
IsTypedCart w = IsUtf8 w.cart_id

-- an order's address, if it has one, is UTF-8
abbrev pub IsTypedOrder : Order → Type 0
IsTypedOrder w = IfSome w.email IsUtf8

-- an order position's number in its order has 32 bits, and its secret is UTF-8
abbrev pub IsTypedPosition : PositionRow → Type 0
IsTypedPosition w = (w.positionid < 2 ^ 32) × IsUtf8 w.secret

-- the address of an entry of the waiting list is UTF-8
abbrev pub IsTypedWaiting : Waiting → Type 0
IsTypedWaiting w = IsUtf8 w.email

-- a check-in's nonce, if it has one, is UTF-8
abbrev pub IsTypedCheckin : Checkin → Type 0
IsTypedCheckin w = IfSome w.nonce IsUtf8

-- an answer is kept since a moment, and its status has three digits
abbrev pub IsTypedKept : Kept → Type 0
IsTypedKept k = IsMoment k.at × IsStatus k.response.status

-- the row that a change puts
abbrev pub IsTypedChange : Change → Type 0
IsTypedChange (PutItem w) = IsTypedItem w
IsTypedChange (PutVariation w) = IsTypedVariation w
IsTypedChange (PutQuota w) = IsUtf8 w.name
IsTypedChange (PutVoucher w) = IsTypedVoucher (head_of_voucher w)
IsTypedChange (PutCart w) = IsTypedCart w
IsTypedChange (PutOrder w) = IsTypedOrder w
IsTypedChange (PutPosition w) = IsTypedPosition (head_of_position w)
IsTypedChange (PutWaiting w) = IsTypedWaiting w
IsTypedChange (DropVoucher id) = Unit {0}
IsTypedChange (DropCart id) = Unit {0}
IsTypedChange (DropWaiting id) = Unit {0}
IsTypedChange (PutCheckinList w) = IsUtf8 w.name
IsTypedChange (PutCheckin w) = IsTypedCheckin w

-- ---- the tables

-- a statement for each table of which types promise something
pub record EachTyped (of_items of_variations of_quotas of_vouchers of_carts of_orders of_positions of_waiting of_checkin_lists of_checkins of_tokens of_kept : Type 0) : Type 0 where
  pub items : of_items
  pub variations : of_variations
  pub quotas : of_quotas
  pub vouchers : of_vouchers
  pub carts : of_carts
  pub orders : of_orders
  pub positions : of_positions
  pub waiting : of_waiting
  pub checkin_lists : of_checkin_lists
  pub checkins : of_checkins
  pub tokens : of_tokens
  pub kept : of_kept

-- each row of each of these tables has what its type promises
abbrev pub AreTyped : Tables → Type 0
AreTyped t =
    EachTyped
    (All IsTypedItem t.items)
    (All IsTypedVariation t.variations)
    (All (λ w. IsUtf8 w.name) t.quotas)
    (All (λ w. IsTypedVoucher w.voucher) t.vouchers)
    (All IsTypedCart t.carts)
    (All IsTypedOrder t.orders)
    (All IsTypedPosition t.positions)
    (All IsTypedWaiting t.waiting)
    (All (λ w. IsUtf8 w.name) t.checkin_lists)
    (All IsTypedCheckin t.checkins)
    (All IsFitToken t.tokens)
    (All IsFitKept t.kept)

-- each token's number is below the next one
abbrev pub AreBelowNext : ShopRow → List Token → Type 0
AreBelowNext shop tokens = AllByRecursion (λ w. w.id < shop.next_token) tokens

-- a shop's row, which is of this version, and the rows of its tables are what their types promise
pub record IsTypedShop (head : ShopRow) (tables : Tables) : Type 0 where
  pub first : head.version ≡ this_version
  pub organizer : IsSlug head.organizer
  pub event : IsSlug head.event
  pub token : IsNextId last_id head.next_token
  pub numbered : AreBelowNext head tables.tokens
  pub rows : AreTyped tables

-- the shop's row but for its moment and the next ids of its office
pub record IsSameShop (old new : ShopRow) : Type 0 where
  pub version : new.version ≡ old.version
  pub organizer : new.organizer ≡ old.organizer
  pub event : new.event ≡ old.event
  pub token : new.next_token ≡ old.next_token
