-- What keeps headroom: time, a cart position that is dead or whose voucher has a use left, and one that goes.
use Rattle.std.proofs.Common.{◌≡◌, ℕ, ◌+◌, ◌<◌, ◌≤◌, ◌≢◌, ◌⊎◌, inl, inr, Bool, true, false, ◌&&◌, eqb, leb, List, [], ◌∷◌, Option, Some, None, refl, sym, ap, ◌∙◌, arith}
use Rattle.std.specs.Prelude.{◌||◌, not, if◌then◌else◌}
use Rattle.std.specs.List.{AllByRecursion}
use Rattle.std.proofs.lemmas.Bool.Decides.{nat_tests, eqb_tells}
use Rattle.std.proofs.lemmas.List.Sums.{sum_by-le-sum_by}
use Rattle.base_tables.specs.Tables.{row_at, InOrderFrom, AreInOrder}
use Rattle.base_tables.proofs.Edits.{sum_by-with_row, sum_by-without_row}
use Rattle.model_rows.specs.declared.rows.Voucher.{Voucher}
use Rattle.model_rows.specs.declared.rows.CartPos.{CartPos}
use Rattle.model_rows.specs.declared.changes.Change.TheVariants.{PutCart, DropCart}
use Rattle.model_rows.specs.Conditions.{is_live_cart, names, holds}
use Rattle.model_rows.specs.Lists.{Lists}
use Rattle.model_rows.specs.Change.{after_change}
use Rattle.model_rows.specs.Usage.{redeemed}
use Rattle.model_rows.specs.Headroom.{held, HasHeadroom, AllHaveHeadroom, has_use, has_use_by}
use Rattle.model_rows.proofs.EachRow.{all_weaker}
use Rattle.model_rows.proofs.Time.{one}

-- as time goes on, fewer cart positions are live
held_later : (at later id : ℕ) (lists : Lists) → at ≤ later → held later id lists ≤ held at id lists
held_later at later id lists le = sum_by-le-sum_by (λ c. one (holds later id c)) (λ c. one (holds at id c)) lists.carts (λ c. fewer (is_live_cart later c) (is_live_cart at c) (names id c.voucher) (still c.expires))
  where
    still : (e : ℕ) → leb later e ≡ true → leb at e ≡ true
    still e h = grind (arith, nat_tests, le)

    fewer : (a b s : Bool) → (a ≡ true → b ≡ true) → one (a && s) ≤ one (b && s)
    fewer true true s h = omega arith
    fewer true false s h = absurd (cc (h refl))
    fewer false true s h = omega arith
    fewer false false s h = omega arith

still_room : (at later : ℕ) (lists : Lists) (vouchers : List Voucher) → at ≤ later → AllByRecursion (HasHeadroom at lists) vouchers → AllByRecursion (HasHeadroom later lists) vouchers
still_room at later lists [] le h = tt
still_room at later lists (v ∷ vs) le h = (omega (arith, h.0, held_later at later v.id lists le), still_room at later lists vs le h.1)

pub headroom_later : (at later : ℕ) (lists : Lists) → at ≤ later → AllHaveHeadroom at lists → AllHaveHeadroom later lists
headroom_later at later lists le h = still_room at later lists lists.vouchers le h

module _ (at : ℕ) (lists : Lists) (row : CartPos) (order : AreInOrder (λ r. r.id) lists.carts) where
  held_put : (id : ℕ) → held at id (after_change (PutCart row) lists) ≤ held at id lists + one (holds at id row)
  held_put id = omega (arith, sum_by-with_row (λ r. r.id) (λ c. one (holds at id c)) 0 row lists.carts order)

  unnamed : (a b : Bool) → b ≡ false → one (a && b) ≡ 0
  unnamed true true h = absurd (cc h)
  unnamed true false h = refl
  unnamed false b h = refl

  at_most : (b : Bool) → one b ≤ 1
  at_most true = omega arith
  at_most false = omega arith

  -- a voucher that the row doesn't name
  room_other : (v : Voucher) → names v.id row.voucher ≡ false → HasHeadroom at lists v → HasHeadroom at (after_change (PutCart row) lists) v
  room_other v e h = omega (arith, h, held_put v.id, unnamed (is_live_cart at row) (names v.id row.voucher) e)

  -- the one that it names
  room_own : (v : Voucher) → has_use_by at lists (Some v) ≡ true → HasHeadroom at (after_change (PutCart row) lists) v
  room_own v e =
      let lt : redeemed v.id lists + held at v.id lists < v.max_usages = grind (arith, nat_tests, e) in
      omega (arith, lt, held_put v.id, at_most (holds at v.id row))

  all_none : (vs : List Voucher) → row.voucher ≡ None → AllByRecursion (HasHeadroom at lists) vs → AllByRecursion (HasHeadroom at (after_change (PutCart row) lists)) vs
  all_none [] e h = tt
  all_none (v ∷ vs) e h = (room_other v (ap (names v.id) e) h.0, all_none vs e h.1)

  all_above : (n : ℕ) (vs : List Voucher) (id : ℕ) → row.voucher ≡ Some id → id < n → InOrderFrom (λ r. r.id) n vs → AllByRecursion (HasHeadroom at lists) vs → AllByRecursion (HasHeadroom at (after_change (PutCart row) lists)) vs
  all_above n [] id e lt o h = tt
  all_above n (v ∷ vs) id e lt o h =
      let differ : eqb id v.id ≡ false = grind (arith, nat_tests, o.0, lt) in
      (room_other v (ap (names v.id) e ∙ differ) h.0, all_above (v.id + 1) vs id e (omega (arith, o.0)) o.1 h.1)

  flip : (a b : ℕ) → eqb a b ≡ eqb b a
  flip a b = grind (arith, nat_tests)

  all_some : (n : ℕ) (vs : List Voucher) (id : ℕ) → row.voucher ≡ Some id → has_use_by at lists (row_at (λ r. r.id) id vs) ≡ true → InOrderFrom (λ r. r.id) n vs → AllByRecursion (HasHeadroom at lists) vs → AllByRecursion (HasHeadroom at (after_change (PutCart row) lists)) vs
  all_some n [] id e left o h = tt
  all_some n (v ∷ vs) id e left o h = by_id (eqb_tells v.id id) (all_some (v.id + 1) vs id e) (all_above (v.id + 1) vs id e)
    where
      by_id : ((eqb v.id id ≡ true) × (v.id ≡ id)) ⊎ ((eqb v.id id ≡ false) × (v.id ≢ id))
          → (has_use_by at lists (row_at (λ r. r.id) id vs) ≡ true → InOrderFrom (λ r. r.id) (v.id + 1) vs → AllByRecursion (HasHeadroom at lists) vs → AllByRecursion (HasHeadroom at (after_change (PutCart row) lists)) vs)
          → (id < v.id + 1 → InOrderFrom (λ r. r.id) (v.id + 1) vs → AllByRecursion (HasHeadroom at lists) vs → AllByRecursion (HasHeadroom at (after_change (PutCart row) lists)) vs)
          → AllByRecursion (HasHeadroom at (after_change (PutCart row) lists)) (v ∷ vs)
      by_id (inl same) rest above =
          let own : has_use_by at lists (Some v) ≡ true = sym (ap (λ b. has_use_by at lists (if b then Some v else row_at (λ r. r.id) id vs)) same.0) ∙ left in
          (room_own v own, above (omega (arith, same.1)) o.1 h.1)
      by_id (inr other) rest above =
          let left' = sym (ap (λ b. has_use_by at lists (if b then Some v else row_at (λ r. r.id) id vs)) other.0) ∙ left in
          (room_other v (ap (names v.id) e ∙ flip id v.id ∙ other.0) h.0, rest left' o.1 h.1)

  headroom_live : AreInOrder (λ r. r.id) lists.vouchers → has_use at lists row.voucher ≡ true → AllHaveHeadroom at lists → AllHaveHeadroom at (after_change (PutCart row) lists)
  headroom_live o left h = by_name row.voucher refl
    where
      by_name : (name : Option ℕ) → row.voucher ≡ name → AllHaveHeadroom at (after_change (PutCart row) lists)
      by_name None e = all_none lists.vouchers e h
      by_name (Some id) e = all_some 0 lists.vouchers id e (sym (ap (has_use at lists) e) ∙ left) o h

  -- a row that is dead holds no use
  unheld : (v : Voucher) → is_live_cart at row ≡ false → HasHeadroom at lists v → HasHeadroom at (after_change (PutCart row) lists) v
  unheld v dead h = omega (arith, h, held_put v.id, ap (λ b. one (b && names v.id row.voucher)) dead)

  pub headroom_put : AreInOrder (λ r. r.id) lists.vouchers → (not (is_live_cart at row) || has_use at lists row.voucher) ≡ true → AllHaveHeadroom at lists → AllHaveHeadroom at (after_change (PutCart row) lists)
  headroom_put o test h = by_life (is_live_cart at row) refl
    where
      by_life : (live : Bool) → is_live_cart at row ≡ live → AllHaveHeadroom at (after_change (PutCart row) lists)
      by_life false dead = all_weaker (HasHeadroom at lists) (HasHeadroom at (after_change (PutCart row) lists)) (λ v. unheld v dead) lists.vouchers h
      by_life true live = headroom_live o (sym (ap (λ b. not b || has_use at lists row.voucher) live) ∙ test) h

-- a cart position that goes
pub headroom_drop : (at : ℕ) (lists : Lists) (id : ℕ) → AreInOrder (λ r. r.id) lists.carts → AllHaveHeadroom at lists → AllHaveHeadroom at (after_change (DropCart id) lists)
headroom_drop at lists id o h = all_weaker (HasHeadroom at lists) (HasHeadroom at (after_change (DropCart id) lists)) fewer lists.vouchers h
  where
    fewer : (v : Voucher) → HasHeadroom at lists v → HasHeadroom at (after_change (DropCart id) lists) v
    fewer v room = omega (arith, room, sum_by-without_row (λ r. r.id) (λ c. one (holds at v.id c)) 0 id lists.carts o)
