-- The uses of an order's vouchers, tested once for all of its positions.
use Rattle.std.specs.Prelude.{ℕ, ◌+◌, Bool, nat_le, List, [], ◌∷◌, Result, Ok}
use Rattle.std.specs.List.{list_all}
use Rattle.base_values.specs.Deciding.{◌>>◌, check}
use Rattle.model_rows.specs.declared.rows.OrderPos.{OrderPos}
use Rattle.model_rows.specs.declared.changes.Change.TheVariants.{PutPosition}
use Rattle.model_rows.specs.Lists.{Lists, State}
use Rattle.model_rows.specs.Change.{change_applied}
use Rattle.model_rows.specs.Headroom.{held}
use Rattle.model_rows.specs.Usage.{redeemed}
use Rattle.model_commands.specs.declared.vouchers.VoucherRefusal.TheVariants.{NoHeadroom}
use Rattle.model_commands.specs.declared.orders.OrderRefusal.{OrderRefusal}
use Rattle.model_commands.specs.declared.orders.OrderRefusal.TheVariants.{Voucher as OfVoucher}

-- the box office with all of these positions
abbrev pub with_all : List OrderPos → State → State
with_all [] state = state
with_all (row ∷ rows) state = with_all rows (change_applied (PutPosition row) state)

-- no voucher is named more often than it may be
abbrev pub are_used_within : ℕ → Lists → Bool
are_used_within at lists = list_all (λ v. nat_le (redeemed v.id lists + held at v.id lists) v.max_usages) lists.vouchers

-- all positions are put, and refused where some voucher is named more often then than it may be
abbrev pub put_whole : List OrderPos → State → Result State OrderRefusal
put_whole rows state = do
  check (are_used_within state.moment (with_all rows state).lists) (OfVoucher NoHeadroom)
  Ok (with_all rows state)
