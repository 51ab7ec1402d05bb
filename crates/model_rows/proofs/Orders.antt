-- What a change of an order or of an order position does to the counts over positions, and what vouchers block.
use Rattle.std.proofs.Common.{◌≡◌, ℕ, ◌+◌, ◌-◌, ◌≤◌, Bool, true, false, ◌&&◌, eqb, List, [], ◌∷◌, Option, Some, None, refl, sym, ap, ◌∙◌, subst, count_by, sum_by, arith}
use Rattle.std.specs.Prelude.{if◌then◌else◌}
use Rattle.std.specs.List.{AllByRecursion}
use Rattle.std.proofs.lemmas.Bool.Decides.{nat_tests}
use Rattle.std.proofs.lemmas.List.Sums.{sum_by-cons}
use Rattle.base_tables.specs.Tables.{row_at, sum_at, InOrderFrom, AreInOrder}
use Rattle.base_tables.proofs.Edits.{row_at-with_row, row_at_above, sum_by-with_row}
use Rattle.model_catalogue.specs.declared.rows.Quota.{Quota}
use Rattle.model_rows.specs.declared.rows.Voucher.{Voucher}
use Rattle.model_rows.specs.declared.rows.Order.{Order}
use Rattle.model_rows.specs.declared.rows.OrderPos.{OrderPos}
use Rattle.model_rows.specs.declared.rows.Status.{Status}
use Rattle.model_rows.specs.declared.changes.Change.TheVariants.{PutOrder, PutPosition}
use Rattle.model_rows.specs.Conditions.{is_in_force, blocks, names}
use Rattle.model_rows.specs.Lists.{Lists, order_at}
use Rattle.model_rows.specs.Change.{after_change}
use Rattle.model_rows.specs.Usage.{stands_as, uses, redeemed, blocked_by, blocks_if, is_covered_by}
use Rattle.model_rows.specs.Headroom.{HasHeadroom, AllHaveHeadroom}
use Rattle.model_rows.proofs.Time.{one, sum_by_split, same_sums, gated, eqb_flip}

pub sum_by_swap : {X : Type 0} (f g h k : X → ℕ) (xs : List X) → ((x : X) → f x + g x ≡ h x + k x) → sum_by f xs + sum_by g xs ≡ sum_by h xs + sum_by k xs
sum_by_swap f g h k [] e = omega arith
sum_by_swap f g h k (x ∷ xs) e = omega (arith, e x, sum_by_swap f g h k xs e, sum_by-cons f x xs, sum_by-cons g x xs, sum_by-cons h x xs, sum_by-cons k x xs)

-- counts of positions by their order's status: paid, pending, and those that use a voucher
module _ (test : Status → Bool) (more : OrderPos → Bool) where
  abbrev pub counts : Lists → OrderPos → Bool
  counts lists position = stands_as test (order_at position.order lists) && more position

  abbrev pub of_order : Order → OrderPos → Bool
  of_order order position = eqb order.id position.order

  traded : (of : Bool) (old new : Bool) → one ((if of then new else old)) + one (of && old) ≡ one old + one (of && (if of then new else old))
  traded true old new = omega arith
  traded false old new = omega arith

  stands_if : (b : Bool) (order : Order) (found : Option Order) (m : Bool) → (stands_as test (if b then Some order else found) && m) ≡ (if b then test order.status && m else stands_as test found && m)
  stands_if true order found m = refl
  stands_if false order found m = refl

  -- a changed order changes what its own positions count, and nothing else
  pub order_step : (order : Order) (lists : Lists) → count_by (counts (after_change (PutOrder order) lists)) lists.positions + count_by (λ p. of_order order p && counts lists p) lists.positions ≡ count_by (counts lists) lists.positions + count_by (λ p. of_order order p && counts (after_change (PutOrder order) lists) p) lists.positions
  order_step order lists = sum_by_swap (λ p. one (counts (after_change (PutOrder order) lists) p)) (λ p. one (of_order order p && counts lists p)) (λ p. one (counts lists p)) (λ p. one (of_order order p && counts (after_change (PutOrder order) lists) p)) lists.positions (λ p.
      let e = ap (λ (o : Option Order). stands_as test o && more p) (row_at-with_row (λ r. r.id) p.order order lists.orders) ∙ stands_if (eqb order.id p.order) order (order_at p.order lists) (more p) in
      subst (λ (new : Bool). one new + one (of_order order p && counts lists p) ≡ one (counts lists p) + one (of_order order p && new)) (sym e) (traded (eqb order.id p.order) (counts lists p) (test order.status && more p)))

  -- a position that is put adds its own count, and its old row's is gone
  pub position_step : (position : OrderPos) (lists : Lists) → AreInOrder (λ r. r.id) lists.positions → count_by (counts lists) (after_change (PutPosition position) lists).positions + sum_at (λ p. one (counts lists p)) (row_at (λ r. r.id) position.id lists.positions) ≡ count_by (counts lists) lists.positions + one (counts lists position)
  position_step position lists order = sum_by-with_row (λ r. r.id) (λ p. one (counts lists p)) 0 position lists.positions order

-- with headroom, what is blocked is what vouchers may block, less the uses that are spent
module _ (at : ℕ) (quota : Quota) (lists : Lists) where
  abbrev pub may_take : Voucher → ℕ
  may_take voucher = if blocks at quota voucher then voucher.max_usages else 0

  abbrev with_vouchers : List Voucher → Lists
  with_vouchers vouchers = record lists { vouchers = vouchers }

  -- a position whose voucher's block it uses
  abbrev spends_among : List Voucher → OrderPos → Bool
  spends_among vouchers position = stands_as is_in_force (order_at position.order lists) && is_covered_by (with_vouchers vouchers) at quota position.voucher

  abbrev pub spends : OrderPos → Bool
  spends = spends_among lists.vouchers

  choose : (b : Bool) (voucher : Voucher) (found : Option Voucher) → blocks_if at quota (if b then Some voucher else found) ≡ (if b then blocks at quota voucher else blocks_if at quota found)
  choose true voucher found = refl
  choose false voucher found = refl

  covered_cons : (v : Voucher) (vs : List Voucher) (name : Option ℕ) → is_covered_by (with_vouchers (v ∷ vs)) at quota name ≡ (if names v.id name then blocks at quota v else is_covered_by (with_vouchers vs) at quota name)
  covered_cons v vs None = refl
  covered_cons v vs (Some id) = choose (eqb v.id id) v (row_at (λ r. r.id) id vs) ∙ ap (λ b. if b then blocks at quota v else is_covered_by (with_vouchers vs) at quota (Some id)) (eqb_flip v.id id)

  uncovered : (v : Voucher) (vs : List Voucher) → InOrderFrom (λ r. r.id) (v.id + 1) vs → (name : Option ℕ) → names v.id name ≡ true → is_covered_by (with_vouchers vs) at quota name ≡ false
  uncovered v vs h None e = refl
  uncovered v vs h (Some id) e =
      let same : id ≡ v.id = grind (arith, nat_tests, e) in
      ap (blocks_if at quota) (row_at_above (λ r. r.id) (v.id + 1) id vs (omega arith) h)

  spent_or : (force named now before : Bool) → (named ≡ true → before ≡ false) → one (force && before) + one (now && (named && force)) ≡ one (force && (if named then now else before))
  spent_or true true true before h = rw (h refl) refl
  spent_or true true false before h = rw (h refl) refl
  spent_or true false true before h = omega arith
  spent_or true false false before h = omega arith
  spent_or false true true before h = refl
  spent_or false true false before h = refl
  spent_or false false true before h = refl
  spent_or false false false before h = refl

  spent_cons : (v : Voucher) (vs : List Voucher) → InOrderFrom (λ r. r.id) (v.id + 1) vs → count_by (spends_among vs) lists.positions + (if blocks at quota v then redeemed v.id lists else 0) ≡ count_by (spends_among (v ∷ vs)) lists.positions
  spent_cons v vs h = ap (λ n. count_by (spends_among vs) lists.positions + n) (sym (gated (blocks at quota v) (uses v.id lists) lists.positions))
      ∙ sum_by_split (λ p. one (spends_among vs p)) (λ p. one (blocks at quota v && uses v.id lists p)) (λ p. one (spends_among (v ∷ vs) p)) lists.positions
      (λ p. spent_or (stands_as is_in_force (order_at p.order lists)) (names v.id p.voucher) (blocks at quota v) (is_covered_by (with_vouchers vs) at quota p.voucher) (uncovered v vs h p.voucher)
      ∙ ap (λ b. one (stands_as is_in_force (order_at p.order lists) && b)) (sym (covered_cons v vs p.voucher)))

  blocked_is : (v : Voucher) → blocked_by lists at quota v ≡ (if blocks at quota v then v.max_usages - redeemed v.id lists else 0)
  unfolding blocked_by
  blocked_is v = refl

  linear : (b : Bool) (most spent : ℕ) → spent ≤ most → (if b then most - spent else 0) + (if b then spent else 0) ≡ (if b then most else 0)
  linear true most spent h = omega arith
  linear false most spent h = refl

  none_spends : (name : Option ℕ) → is_covered_by (with_vouchers []) at quota name ≡ false
  none_spends None = refl
  none_spends (Some id) = refl

  and_false : (b : Bool) → (b && false) ≡ false
  and_false true = refl
  and_false false = refl

  blocked_among : (n : ℕ) (vs : List Voucher) → InOrderFrom (λ r. r.id) n vs → AllByRecursion (HasHeadroom at lists) vs → sum_by (blocked_by lists at quota) vs + count_by (spends_among vs) lists.positions ≡ sum_by may_take vs
  blocked_among n [] h room =
      let e : count_by (spends_among []) lists.positions ≡ 0 =
      same_sums (λ p. one (spends_among [] p)) (λ p. one (false && true)) lists.positions (λ p. ap (λ b. one (stands_as is_in_force (order_at p.order lists) && b)) (none_spends p.voucher) ∙ ap one (and_false (stands_as is_in_force (order_at p.order lists)))) ∙ gated false (λ p. true) lists.positions in
      omega (arith, e)
  blocked_among n (v ∷ vs) h room = omega (arith, blocked_among (v.id + 1) vs h.1 room.1, spent_cons v vs h.1, blocked_is v, linear (blocks at quota v) v.max_usages (redeemed v.id lists) (omega (arith, room.0)), sum_by-cons (blocked_by lists at quota) v vs, sum_by-cons may_take v vs)

  pub blocked_linear : AreInOrder (λ r. r.id) lists.vouchers → AllHaveHeadroom at lists → sum_by (blocked_by lists at quota) lists.vouchers + count_by spends lists.positions ≡ sum_by may_take lists.vouchers
  blocked_linear order room = blocked_among 0 lists.vouchers order room
