-- The definitions on worked cases: an item of 23.00, and a voucher that takes half off, of whose budget 20.00 may be spent.
use Rattle.std.proofs.Common.{◌≡◌, ℕ, true, false, List, [], ◌∷◌, map, Option, Some, None, Result, Ok, Err, refl}
use Rattle.base_values.specs.declared.draw.Draw.{Draw}
use Rattle.base_values.specs.declared.price_mode.PriceMode.TheVariants as modes
use Rattle.model_catalogue.specs.declared.rows.Item.{Item}
use Rattle.model_catalogue.specs.declared.rows.Quota.{Quota}
use Rattle.model_rows.specs.declared.rows.Order.{Order}
use Rattle.model_rows.specs.declared.rows.OrderPos.{OrderPos}
use Rattle.model_rows.specs.declared.rows.OrderRows.{OrderRows}
use Rattle.model_rows.specs.declared.rows.Status.{Status}
use Rattle.model_rows.specs.declared.rows.Status.TheVariants.{Pending, Expired}
use Rattle.model_rows.specs.declared.rows.Voucher.{Voucher}
use Rattle.model_rows.specs.Lists.{State, no_rows, first_ids}
use Rattle.model_rows.specs.Over.{quota_weighed}
use Rattle.model_rows.specs.Usage.{usage_of, blocked_by}
use Rattle.model_commands.specs.declared.carts.Asked.{Asked}
use Rattle.model_commands.specs.declared.orders.Move.TheVariants.{MarkPaid, Extend}
use Rattle.model_commands.specs.declared.orders.NewOrder.{NewOrder}
use Rattle.model_commands.specs.declared.orders.OrderRefusal.{OrderRefusal}
use Rattle.model_commands.specs.declared.orders.OrderRefusal.TheVariants.{Voucher as OfVoucher}
use Rattle.model_commands.specs.declared.orders.Start.TheVariants as starts
use Rattle.model_commands.specs.declared.vouchers.VoucherRefusal.{VoucherRefusal}
use Rattle.model_commands.specs.declared.vouchers.VoucherRefusal.TheVariants.{NoHeadroom, NoVoucher, OverBudget}
use Rattle.decide_orders.specs.declared.sold.Sold.{Sold}
use Rattle.decide_orders.specs.Created.{position_for, position_put, rows_for, order_placed, order_created}
use Rattle.decide_orders.specs.Moves.{revival, order_moved}
use Rattle.decide_orders.specs.Sold.{discount_of, sold_for, voucher_asked}

abbrev item : Item
item = record { id = 1; name = []; default_price = 2300; active = true; varied = false }

-- a quota of as many places as are wanted
abbrev quota : Quota
quota = record { id = 1; name = []; release_after_exit = false; size = None; items = 1 ∷ []; variations = [] }

-- it has these uses and this budget
abbrev half : ℕ → Option ℕ → Voucher
half uses budget = record {
  id = 1;
  code = 72 ∷ [];
  max_usages = uses;
  valid_until = None;
  block_quota = false;
  allow_ignore_quota = false;
  price_mode = modes.Percent;
  value = Some 5000;
  item = None;
  variation = None;
  quota = None;
  tag = [];
  comment = [];
  budget = budget;
}

abbrev order : ℕ → Status → Order
order id status = record { id = id; email = None; status = status; made_at = 50; expires = 900 }

-- a ticket of an order, bought with the voucher, which took this off
abbrev ticket : ℕ → ℕ → OrderPos
ticket id discount = record {
  id = id;
  order = id;
  positionid = 1;
  product = record { item = 1; variation = None };
  price = 2300;
  voucher = Some 1;
  secret = [];
  discount = discount;
}

abbrev shop : Voucher → List Order → List OrderPos → State
shop voucher orders positions = record {
  lists = record no_rows {
    catalogue = record { items = item ∷ []; variations = []; quotas = quota ∷ [] };
    vouchers = voucher ∷ [];
    orders = orders;
    positions = positions;
  };
  next = record first_ids { order = 5; position = 5 };
  moment = 100;
}

abbrev budgeted : Voucher
budgeted = half 5 (Some 2000)

-- what is asked for: the item with the voucher, and this price or none
abbrev asked : Option ℕ → Asked
asked price = record { item = 1; variation = None; price = price; voucher = Some (72 ∷ []) }

abbrev with_code : List ℕ → Asked
with_code code = record { item = 1; variation = None; price = None; voucher = Some code }

abbrev plain : Option ℕ → Asked
plain price = record { item = 1; variation = None; price = price; voucher = None }

-- a price, and what was taken off
abbrev told : Result Sold VoucherRefusal → Option (ℕ × ℕ)
told (Ok sold) = Some (sold.price, discount_of sold)
told (Err refusal) = None

abbrev draw : Draw
draw = record { bytes = [] }

abbrev each_told : Result (List OrderPos) OrderRefusal → List (ℕ × ℕ)
each_told (Ok rows) = map (λ p. (p.price, p.discount)) rows
each_told (Err refusal) = []

abbrev ordered : List Asked → NewOrder
ordered positions = record { email = None; start = starts.Pending; expires = None; positions = positions; consume_carts = [] }

abbrev refused : Result (State × OrderRows) OrderRefusal → Option OrderRefusal
refused (Ok made) = None
refused (Err refusal) = Some refusal

-- ---- orders of one position

-- the first costs 11.50, the second 14.50, since 8.50 was left, and the third 23.00
first : told (sold_for (asked None) [] (shop budgeted [] [])) ≡ Some (1150, 1150)
unfolding sold_for voucher_asked
first = refl

second : told (sold_for (asked None) [] (shop budgeted (order 1 Pending ∷ []) (ticket 1 1150 ∷ []))) ≡ Some (1450, 850)
unfolding sold_for voucher_asked
second = refl

third : told (sold_for (asked None) [] (shop budgeted (order 1 Pending ∷ order 2 Pending ∷ []) (ticket 1 1150 ∷ ticket 2 850 ∷ []))) ≡ Some (2300, 0)
unfolding sold_for voucher_asked
third = refl

-- once the first has expired, the fourth costs 11.50
abbrev expired : State
expired = shop budgeted (order 1 Expired ∷ order 2 Pending ∷ order 3 Pending ∷ []) (ticket 1 1150 ∷ ticket 2 850 ∷ ticket 3 0 ∷ [])

fourth : told (sold_for (asked None) [] expired) ≡ Some (1150, 1150)
unfolding sold_for voucher_asked
fourth = refl

-- then the first can't come back, neither as paid nor as pending
abbrev again : Status → State
again fourth = shop budgeted (order 1 Expired ∷ order 2 Pending ∷ order 3 Pending ∷ order 4 fourth ∷ []) (ticket 1 1150 ∷ ticket 2 850 ∷ ticket 3 0 ∷ ticket 4 1150 ∷ [])

not_paid : refused (order_moved 1 MarkPaid (again Pending)) ≡ Some (OfVoucher OverBudget)
unfolding order_moved revival
not_paid = refl

not_extended : refused (order_moved 1 (Extend 900) (again Pending)) ≡ Some (OfVoucher OverBudget)
unfolding order_moved revival
not_extended = refl

-- after the fourth expires too, it can
paid : refused (order_moved 1 MarkPaid (again Expired)) ≡ None
unfolding order_moved revival quota_weighed usage_of blocked_by
paid = refl

-- uses are tested first
no_use : refused (order_moved 1 MarkPaid (shop (half 1 (Some 1150)) (order 1 Expired ∷ order 2 Pending ∷ []) (ticket 1 1150 ∷ ticket 2 1150 ∷ []))) ≡ Some (OfVoucher NoHeadroom)
unfolding order_moved revival
no_use = refl

-- ---- given prices

-- one is taken as it is, and what it takes off is kept: 18.00 of 23.00; above the base price it takes nothing off
given : told (sold_for (asked (Some 500)) [] (shop budgeted [] [])) ≡ Some (500, 1800)
unfolding sold_for voucher_asked
given = refl

above : told (sold_for (asked (Some 2500)) [] (shop budgeted [] [])) ≡ Some (2500, 0)
unfolding sold_for voucher_asked
above = refl

-- without a voucher there is no discount
without : told (sold_for (plain (Some 500)) [] (shop budgeted [] [])) ≡ Some (500, 0)
unfolding sold_for voucher_asked
without = refl

-- where less is left the order is refused
too_low : refused (order_created (ordered (asked (Some 500) ∷ [])) draw (shop budgeted (order 1 Pending ∷ []) (ticket 1 1150 ∷ []))) ≡ Some (OfVoucher OverBudget)
unfolding order_created order_placed position_for sold_for voucher_asked position_put
too_low = refl

-- ---- orders of two positions

-- they cost 11.50 and 14.50
both : each_told (rows_for draw (shop budgeted [] []) [] 5 1 (asked None ∷ asked None ∷ [])) ≡ (1150, 1150) ∷ (1450, 850) ∷ []
unfolding position_for sold_for voucher_asked
both = refl

-- what a given price takes off is gone for the next: of 20.00 2.00 are left
behind : each_told (rows_for draw (shop budgeted [] []) [] 5 1 (asked (Some 500) ∷ asked None ∷ [])) ≡ (500, 1800) ∷ (2100, 200) ∷ []
unfolding position_for sold_for voucher_asked
behind = refl

-- without a budget each costs 11.50
unlimited : each_told (rows_for draw (shop (half 5 None) [] []) [] 5 1 (asked None ∷ asked None ∷ [])) ≡ (1150, 1150) ∷ (1150, 1150) ∷ []
unfolding position_for sold_for voucher_asked
unlimited = refl

-- the test of budgets is one of the whole request, behind all of its positions and their uses
unknown_first : refused (order_created (ordered (asked (Some 0) ∷ with_code (73 ∷ []) ∷ [])) draw (shop budgeted [] [])) ≡ Some (OfVoucher NoVoucher)
unfolding order_created position_for sold_for voucher_asked
unknown_first = refl

uses_first : refused (order_created (ordered (asked (Some 0) ∷ asked (Some 0) ∷ [])) draw (shop (half 1 (Some 2000)) [] [])) ≡ Some (OfVoucher NoHeadroom)
unfolding order_created order_placed position_for sold_for voucher_asked position_put
uses_first = refl
