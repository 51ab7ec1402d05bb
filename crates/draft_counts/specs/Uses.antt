-- The uses of vouchers, and how many of them come and go with a change, with what is spent of their budgets.
use Rattle.std.specs.Prelude.{ℕ, Bool, ◌&&◌, not, List, Option, Some, count_by, sum_by, if◌then◌else◌}
use Rattle.model_rows.specs.declared.changes.Change.{Change}
use Rattle.model_rows.specs.declared.changes.Change.TheVariants.{PutCart, PutOrder, PutPosition, DropCart}
use Rattle.model_rows.specs.declared.rows.Order.{Order}
use Rattle.model_rows.specs.Headroom.{held}
use Rattle.model_rows.specs.Lists.{Lists, cart_at, order_at}
use Rattle.model_rows.specs.Conditions.{is_in_force, names}
use Rattle.model_rows.specs.Usage.{redeemed, spent, stands_as}
use Rattle.draft_overlay.specs.declared.purchases.Purchase.{Purchase}
use Rattle.draft_overlay.specs.Purchases.{sum_ordered}
use Rattle.book_tally.specs.Amounts.{no_uses}
use Rattle.book_tally.specs.declared.amount.Uses.{Uses}
use Rattle.book_usage.specs.OfOrder.{count_ordered}
use Rattle.book_usage.specs.Shares.{held_name, used_name}

-- the uses of a voucher: by the positions of orders in force, and by live cart positions; and what the first ones spend of it
abbrev pub uses_of : ℕ → Lists → ℕ → Uses
uses_of at lists voucher = record { used = redeemed voucher lists; held = held at voucher lists; spent = spent voucher lists }

-- a single use, where the name is the voucher's
abbrev pub one_use : ℕ → Option ℕ → ℕ
one_use voucher name = if names voucher name then 1 else 0

-- a discount, where the name is the voucher's
abbrev pub one_discount : ℕ → Option ℕ → ℕ → ℕ
one_discount voucher name discount = if names voucher name then discount else 0

-- a use in carts of the voucher of a name
abbrev pub held_by : ℕ → Option ℕ → Uses
held_by voucher name = record no_uses { held = one_use voucher name }

-- a use in orders, with its discount
abbrev pub used_by : ℕ → Option ℕ → ℕ → Uses
used_by voucher name discount = record no_uses { used = one_use voucher name; spent = one_discount voucher name discount }

-- as many uses in orders, which spend so much, where an order is in force, and wasn't before
abbrev pub used_since : Bool → Bool → ℕ → ℕ → Uses
used_since force stood count cents = record no_uses { used = if force && not stood then count else 0; spent = if force && not stood then cents else 0 }

-- the uses of a voucher by these purchases
abbrev pub purchase_uses : Bool → Bool → List Purchase → ℕ → Uses
purchase_uses force stood purchases voucher = used_since force stood (count_by (λ p. names voucher p.voucher) purchases) (sum_by (λ p. one_discount voucher p.voucher p.discount) purchases)

-- what the order's positions that name the voucher spend of it, while it is in force
abbrev pub ordered_discounts : Lists → ℕ → ℕ → ℕ
ordered_discounts lists id voucher = sum_ordered id (λ p. one_discount voucher p.voucher p.discount) lists

-- the positions of an order that use the voucher, where it is in force and the other one isn't
abbrev pub order_uses : Lists → ℕ → Option Order → Option Order → ℕ → Uses
order_uses lists id order other voucher = used_since (stands_as is_in_force order) (stands_as is_in_force other) (count_ordered id (λ p. names voucher p.voucher) lists) (ordered_discounts lists id voucher)

-- the uses of a voucher that come with a change
abbrev pub use_come : Lists → ℕ → Change → ℕ → Uses
use_come lists at (PutCart row) voucher = held_by voucher (held_name at (Some row))
use_come lists at (PutOrder row) voucher = order_uses lists row.id (Some row) (order_at row.id lists) voucher
use_come lists at (PutPosition row) voucher = used_by voucher (used_name lists (Some row)) row.discount
use_come lists at _ voucher = no_uses

-- and those that go
abbrev pub use_gone : Lists → ℕ → Change → ℕ → Uses
use_gone lists at (PutCart row) voucher = held_by voucher (held_name at (cart_at row.id lists))
use_gone lists at (DropCart id) voucher = held_by voucher (held_name at (cart_at id lists))
use_gone lists at (PutOrder row) voucher = order_uses lists row.id (order_at row.id lists) (Some row) voucher
use_gone lists at _ voucher = no_uses
