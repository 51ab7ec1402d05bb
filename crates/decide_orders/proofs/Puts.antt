-- A position that is put, and cart positions that go.
use Rattle.std.proofs.Common.{◌≡◌, ℕ, List, [], ◌∷◌, map, Bool, true, false, Result, Ok, Err, refl}
use Rattle.base_values.proofs.Decided.{gave_it, passed}
use Rattle.model_rows.specs.declared.rows.OrderPos.{OrderPos}
use Rattle.model_rows.specs.declared.changes.Change.TheVariants.{PutPosition, DropCart}
use Rattle.model_rows.specs.Lists.{Lists, State}
use Rattle.model_rows.specs.Change.{after_change, after_all, change_applied}
use Rattle.model_rows.specs.Headroom.{has_use}
use Rattle.decide_orders.specs.Created.{position_put}

-- a put of a position, which had a use of its voucher left
pub record IsPut (row : OrderPos) (state after : State) : Type 0 where
  pub left : has_use state.moment state.lists row.voucher ≡ true
  pub is : change_applied (PutPosition row) state ≡ after

pub put_is : (row : OrderPos) (state after : State) → position_put row state ≡ Ok after → IsPut row state after
unfolding position_put
put_is row state after h =
    let (left, h1) = passed (has_use state.moment state.lists row.voucher) _ _ h in
    record { left = left; is = gave_it (change_applied (PutPosition row) state) after h1 }

-- cart positions that go leave the rest
pub carts_keep_catalogue : (ids : List ℕ) (lists : Lists) → (after_all (map DropCart ids) lists).catalogue ≡ lists.catalogue
carts_keep_catalogue [] lists = refl
carts_keep_catalogue (id ∷ ids) lists = carts_keep_catalogue ids (after_change (DropCart id) lists)

pub carts_keep_orders : (ids : List ℕ) (lists : Lists) → (after_all (map DropCart ids) lists).orders ≡ lists.orders
carts_keep_orders [] lists = refl
carts_keep_orders (id ∷ ids) lists = carts_keep_orders ids (after_change (DropCart id) lists)

pub carts_keep_positions : (ids : List ℕ) (lists : Lists) → (after_all (map DropCart ids) lists).positions ≡ lists.positions
carts_keep_positions [] lists = refl
carts_keep_positions (id ∷ ids) lists = carts_keep_positions ids (after_change (DropCart id) lists)

pub carts_keep_vouchers : (ids : List ℕ) (lists : Lists) → (after_all (map DropCart ids) lists).vouchers ≡ lists.vouchers
carts_keep_vouchers [] lists = refl
carts_keep_vouchers (id ∷ ids) lists = carts_keep_vouchers ids (after_change (DropCart id) lists)
