-- The definitions on worked cases: what a ticket that went out leaves free, and what takes it again.
use Rattle.std.proofs.Common.{◌≡◌, ℕ, Bool, List, [], ◌∷◌, true, false, Option, Some, None, Result, Ok, Err, refl}
use Rattle.base_values.specs.declared.price_mode.PriceMode.TheVariants as modes
use Rattle.model_catalogue.specs.declared.rows.Quota.{Quota}
use Rattle.model_rows.specs.declared.rows.CheckinKind.TheVariants.{Exit}
use Rattle.model_rows.specs.declared.rows.Order.{Order}
use Rattle.model_rows.specs.declared.rows.OrderRows.{OrderRows}
use Rattle.model_rows.specs.declared.rows.Status.{Status}
use Rattle.model_rows.specs.declared.rows.Status.TheVariants.{Pending, Paid, Expired, Cancelled}
use Rattle.model_rows.specs.declared.rows.Voucher.{Voucher}
use Rattle.model_rows.specs.Lists.{State, no_rows, first_ids}
use Rattle.model_rows.specs.Passages.{is_out, later}
use Rattle.model_rows.specs.Over.{quota_weighed}
use Rattle.model_rows.specs.Refills.{refills}
use Rattle.model_rows.specs.Takes.{places_used}
use Rattle.model_rows.specs.Usage.{usage_of, blocked_by}
use Rattle.model_commands.specs.declared.orders.Move.TheVariants.{MarkPaid, MarkPending, MarkCanceled, Extend}
use Rattle.model_commands.specs.declared.orders.OrderRefusal.{OrderRefusal}
use Rattle.model_commands.specs.declared.orders.OrderRefusal.TheVariants.{Voucher as OfVoucher}
use Rattle.model_commands.specs.declared.vouchers.VoucherRefusal.TheVariants.{SoldOut}
use Rattle.decide_orders.specs.Moves.{revival, order_moved}

-- a quota of no place, which releases them or not
abbrev quota : Bool → Quota
quota releases = record { id = 1; name = []; release_after_exit = releases; size = Some 0; items = 1 ∷ []; variations = [] }

-- it may be used once, and blocks a place of the quota
abbrev voucher : Voucher
voucher = record {
  id = 1;
  code = [];
  max_usages = 1;
  valid_until = None;
  block_quota = true;
  allow_ignore_quota = false;
  price_mode = modes.None;
  value = None;
  item = None;
  variation = None;
  quota = Some 1;
  tag = [];
  comment = [];
  budget = None;
}

abbrev order : Status → Order
order status = record { id = 1; email = None; status = status; made_at = 50; expires = 60 }

-- one ticket of an order of this status, bought by the voucher of this id or by none, which has gone out
abbrev shop : Bool → List Voucher → Option ℕ → Status → State
shop releases vouchers name status = record {
  lists = record no_rows {
    catalogue = record { items = []; variations = []; quotas = quota releases ∷ [] };
    vouchers = vouchers;
    orders = order status ∷ [];
    positions = record { id = 1; order = 1; positionid = 1; product = record { item = 1; variation = None }; price = 0; voucher = name; secret = []; discount = 0 } ∷ [];
    checkins = record { id = 1; list = 1; position = 1; kind = Exit; datetime = 70; nonce = None } ∷ [];
  };
  next = first_ids;
  moment = 100;
}

abbrev paid : Bool → State
paid releases = shop releases (voucher ∷ []) (Some 1) Paid

abbrev expired : Bool → State
expired releases = shop releases [] None Expired

abbrev used_after : Bool → Result (State × OrderRows) OrderRefusal → ℕ
used_after releases (Ok moved) = places_used moved.0 (quota releases)
used_after releases (Err refusal) = 99

-- a paid ticket that has gone out takes no place, where the quota releases it
free : places_used (paid true) (quota true) ≡ 0
unfolding usage_of blocked_by is_out later
free = refl

kept : places_used (paid false) (quota false) ≡ 1
unfolding usage_of blocked_by is_out later
kept = refl

-- where the payment is taken back it takes its place again, though the ticket has gone out
taken_back : used_after true (order_moved 1 MarkPending (paid true)) ≡ 1
unfolding order_moved usage_of blocked_by is_out later
taken_back = refl

-- where the order is cancelled its voucher may be used again, and blocks the place
blocked_again : used_after true (order_moved 1 MarkCanceled (paid true)) ≡ 1
unfolding order_moved usage_of blocked_by is_out later
blocked_again = refl

-- both take a place again, and neither does of a quota that keeps its places
both_refill : (refills (paid true).lists 100 (quota true) (order Paid) Pending ≡ true) × (refills (paid true).lists 100 (quota true) (order Paid) Cancelled ≡ true)
unfolding is_out later
both_refill = (refl, refl)

neither_refills : (refills (paid false).lists 100 (quota false) (order Paid) Pending ≡ false) × (refills (paid false).lists 100 (quota false) (order Paid) Cancelled ≡ false)
neither_refills = (refl, refl)

-- an order that comes back as paid takes no place for a ticket that has gone out, where the quota releases it
comes_back : used_after true (order_moved 1 MarkPaid (expired true)) ≡ 0
unfolding order_moved revival quota_weighed usage_of blocked_by is_out later
comes_back = refl

full : order_moved 1 MarkPaid (expired false) ≡ Err (OfVoucher (SoldOut 1))
unfolding order_moved revival quota_weighed usage_of blocked_by is_out later
full = refl

-- as pending it takes one
full_when_pending : order_moved 1 (Extend 200) (expired true) ≡ Err (OfVoucher (SoldOut 1))
unfolding order_moved revival quota_weighed usage_of blocked_by is_out later
full_when_pending = refl
