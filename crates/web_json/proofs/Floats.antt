-- Bodies have no float.
use Rattle.std.proofs.Common.{◌≡◌, ℕ, ℤ, pos, negsuc, false, List, Option, Some, None, refl}
use Rattle.serde_json.specs.Data.{object, no_members}
use Rattle.serde_json.specs.Written.{has_float}
use Rattle.model_catalogue.specs.declared.rows.PricedVariation.{PricedVariation}
use Rattle.model_catalogue.specs.declared.rows.Quota.{Quota}
use Rattle.model_rows.specs.declared.rows.CartPos.{CartPos}
use Rattle.model_rows.specs.declared.rows.Voucher.{Voucher}
use Rattle.web_json.specs.Values.{integer, count_or_null, money_or_null, moment_or_null, text_or_null}
use Rattle.model_rows.specs.declared.rows.Order.{Order}
use Rattle.model_rows.specs.declared.rows.OrderPos.{OrderPos}
use Rattle.model_rows.specs.declared.rows.Waiting.{Waiting}
use Rattle.model_rows.specs.declared.rows.Checkin.{Checkin}
use Rattle.web_json.specs.OrderRows.{position_body, order_members}
use Rattle.web_json.specs.WaitingRows.{waiting_body}
use Rattle.web_json.specs.DoorRows.{checkin_body, admitted_body}
use Rattle.web_json.specs.Rows.{priced_body, quota_members, cart_body, voucher_body}

number_no_float : (n : Option ℕ) → has_float (count_or_null n) ≡ false
number_no_float None = refl
number_no_float (Some n) = refl

money_no_float : (cents : Option ℕ) → has_float (money_or_null cents) ≡ false
money_no_float None = refl
money_no_float (Some cents) = refl

moment_no_float : (at : Option ℕ) → has_float (moment_or_null at) ≡ false
moment_no_float None = refl
moment_no_float (Some at) = refl

words_no_float : (text : Option (List ℕ)) → has_float (text_or_null text) ≡ false
words_no_float None = refl
words_no_float (Some text) = refl

pub priced_no_float : (p : PricedVariation) → has_float (priced_body p) ≡ false
priced_no_float p = rw (money_no_float p.row.default_price) refl

pub cart_no_float : (c : CartPos) → has_float (cart_body c) ≡ false
cart_no_float c = rw (number_no_float c.product.variation, number_no_float c.voucher) refl

pub voucher_no_float : (v : Voucher) (redeemed : ℕ) → has_float (voucher_body v redeemed) ≡ false
voucher_no_float v redeemed = rw (money_no_float v.budget, number_no_float v.item, number_no_float v.quota, moment_no_float v.valid_until, money_no_float v.value, number_no_float v.variation) refl

pub position_no_float : (p : OrderPos) → has_float (position_body p) ≡ false
position_no_float p = rw (number_no_float p.product.variation, number_no_float p.voucher) refl

pub size_no_float : (q : Quota) → has_float (object (quota_members q no_members)) ≡ false
size_no_float q = rw (number_no_float q.size) refl

pub order_no_float : (o : Order) → has_float (object (order_members o no_members)) ≡ false
order_no_float o = rw (words_no_float o.email) refl

integer_no_float : (n : ℤ) → has_float (integer n) ≡ false
integer_no_float (pos n) = refl
integer_no_float (negsuc n) = refl

pub waiting_no_float : (w : Waiting) → has_float (waiting_body w) ≡ false
waiting_no_float w = rw (integer_no_float w.priority, number_no_float w.product.variation, number_no_float w.voucher) refl

pub checkin_no_float : (c : Checkin) → has_float (checkin_body c) ≡ false
checkin_no_float c = rw (words_no_float c.nonce) refl

pub admitted_no_float : (p : OrderPos) → has_float (admitted_body p) ≡ false
admitted_no_float p = rw (position_no_float p) refl
