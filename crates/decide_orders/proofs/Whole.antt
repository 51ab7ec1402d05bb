-- Uses that are tested position by position are tested as a whole.
use Rattle.std.proofs.Common.{◌≡◌, ℕ, ◌+◌, ◌<◌, ◌≤◌, Bool, true, false, ◌&&◌, eqb, cond, List, [], ◌∷◌, Option, Some, None, Result, Ok, Err, refl, sym, ap, ◌∙◌, subst, count_by, arith}
use Rattle.std.specs.Prelude.{nat_le, nat_lt}
use Rattle.std.specs.List.{AllByRecursion, list_all}
use Rattle.std.proofs.lemmas.Bool.Decides.{nat_tests}
use Rattle.base_values.specs.Deciding.{◌>>◌, check}
use Rattle.base_values.specs.declared.draw.Draw.{Draw}
use Rattle.base_tables.specs.Tables.{row_at}
use Rattle.base_tables.proofs.Edits.{row_at-with_row}
use Rattle.model_rows.specs.declared.rows.CartPos.{CartPos}
use Rattle.model_rows.specs.declared.rows.Order.{Order}
use Rattle.model_rows.specs.declared.rows.OrderPos.{OrderPos}
use Rattle.model_rows.specs.declared.rows.Voucher.{Voucher}
use Rattle.model_rows.specs.declared.changes.Change.TheVariants.{PutPosition}
use Rattle.model_rows.specs.Change.{after_change, change_applied, without_carts}
use Rattle.model_rows.specs.Conditions.{holds, is_in_force, names}
use Rattle.model_rows.specs.Consumed.{carts_consumed}
use Rattle.model_rows.specs.Headroom.{HasHeadroom, has_use, has_use_by, held}
use Rattle.model_rows.specs.Lists.{Lists, State, order_at, position_at, voucher_at}
use Rattle.model_rows.specs.Usage.{redeemed, stands_as, uses}
use Rattle.model_rows.proofs.EachRow.{all_weaker, key-row_at, next_absent}
use Rattle.model_rows.proofs.Time.{one}
use Rattle.book_usage.proofs.Redeemed.{redeemed_position}
use Rattle.model_invariant.specs.Ids.{AreNumbered}
use Rattle.model_invariant.specs.Sound.{IsSound}
use Rattle.model_invariant.proofs.Numbered.{numbered_put}
use Rattle.model_commands.specs.Starts.{status_of}
use Rattle.model_commands.specs.declared.orders.NewOrder.{NewOrder}
use Rattle.model_commands.specs.declared.orders.OrderRefusal.{OrderRefusal}
use Rattle.model_commands.specs.declared.orders.OrderRefusal.TheVariants.{Voucher as OfVoucher}
use Rattle.model_commands.specs.declared.orders.Start.{Start}
use Rattle.model_commands.specs.declared.orders.Start.TheVariants as starts
use Rattle.model_commands.specs.declared.vouchers.VoucherRefusal.TheVariants.{NoHeadroom}
use Rattle.decide_orders.specs.Created.{order_row, position_put, rows_for, with_order_row, with_positions}
use Rattle.decide_orders.specs.Steps.{AreCounted, IsReady}
use Rattle.decide_orders.specs.Whole.{are_used_within, put_whole, with_all}
use Rattle.decide_orders.proofs.Created.{IsOwn, are_own}
use Rattle.decide_orders.proofs.Rows.{counted, ready_order, ready_put}

-- ---- a test that passes, and one that refuses

passes : (b : Bool) (refusal : OrderRefusal) (x : Result State OrderRefusal) → b ≡ true → (check b refusal >> x) ≡ x
passes true refusal x e = refl
passes false refusal x e = absurd (cc)

refuses : (b : Bool) (refusal : OrderRefusal) (x : Result State OrderRefusal) → b ≡ false → (check b refusal >> x) ≡ Err refusal
refuses true refusal x e = absurd (cc)
refuses false refusal x e = refl

-- ---- positions that are put leave vouchers and carts, and no voucher is named less often

keep_vouchers : (rows : List OrderPos) (state : State) → (with_all rows state).lists.vouchers ≡ state.lists.vouchers
keep_vouchers [] state = refl
keep_vouchers (row ∷ rows) state = keep_vouchers rows (change_applied (PutPosition row) state)

keep_carts : (rows : List OrderPos) (state : State) → (with_all rows state).lists.carts ≡ state.lists.carts
keep_carts [] state = refl
keep_carts (row ∷ rows) state = keep_carts rows (change_applied (PutPosition row) state)

-- a row that can be put, and as often as it names the voucher that is redeemed
put_once : (v n : ℕ) (row : OrderPos) (lists : Lists) → row.id ≡ n → AreNumbered (λ r. r.id) n lists.positions
    → redeemed v (after_change (PutPosition row) lists) ≡ redeemed v lists + one (uses v lists row)
put_once v n row lists same numbered =
    let absent : position_at row.id lists ≡ None = subst (λ (id : ℕ). position_at id lists ≡ None) (sym same) (next_absent (λ (r : OrderPos). r.id) n lists.positions numbered.below) in
    redeemed_position v row lists numbered.in_order absent

named_more : (v n : ℕ) (rows : List OrderPos) (state : State) → 1 ≤ n → AreCounted n rows → AreNumbered (λ r. r.id) n state.lists.positions
    → redeemed v state.lists ≤ redeemed v (with_all rows state).lists
named_more v n [] state from count numbered = omega arith
named_more v n (row ∷ rows) state from count numbered =
    let put = put_once v n row state.lists count.0 numbered in
    let rest = named_more v (n + 1) rows (change_applied (PutPosition row) state) (omega (arith, from)) count.1 (numbered_put (λ (r : OrderPos). r.id) row n state.lists.positions count.0 from numbered) in
    omega (arith, put, rest)

-- ---- the test of the whole

and_false : (b : Bool) → (b && false) ≡ false
and_false true = refl
and_false false = refl

one_fails : (test : Voucher → Bool) (id : ℕ) (vouchers : List Voucher) (v : Voucher) → row_at (λ r. r.id) id vouchers ≡ Some v → test v ≡ false → list_all test vouchers ≡ false
one_fails test id [] v found fails = absurd (cc)
one_fails test id (r ∷ rs) v found fails = by_id (eqb r.id id) found (λ more. one_fails test id rs v more fails)
  where
    by_id : (b : Bool) → cond b (Some r) (row_at (λ (x : Voucher). x.id) id rs) ≡ Some v → (row_at (λ (x : Voucher). x.id) id rs ≡ Some v → list_all test rs ≡ false) → (test r && list_all test rs) ≡ false
    by_id true found more =
        let same : r ≡ v = cc in
        ap (λ (b : Bool). b && list_all test rs) (ap test same ∙ fails)
    by_id false found more = ap (λ (b : Bool). test r && b) (more found) ∙ and_false (test r)

all_within : (at : ℕ) (lists : Lists) (vouchers : List Voucher) → AllByRecursion (HasHeadroom at lists) vouchers
    → list_all (λ v. nat_le (redeemed v.id lists + held at v.id lists) v.max_usages) vouchers ≡ true
all_within at lists [] h = refl
all_within at lists (v ∷ vs) h =
    let here : nat_le (redeemed v.id lists + held at v.id lists) v.max_usages ≡ true = grind (arith, nat_tests, h.0) in
    ap (λ (b : Bool). b && list_all (λ (x : Voucher). nat_le (redeemed x.id lists + held at x.id lists) x.max_usages) vs) here ∙ all_within at lists vs h.1

-- ---- a position whose voucher has no use left

module _ (row : OrderPos) (rows : List OrderPos) (n : ℕ) (state : State) (from : 1 ≤ n) (count : AreCounted n (row ∷ rows)) (numbered : AreNumbered (λ r. r.id) n state.lists.positions)
    (force : stands_as is_in_force (order_at row.order state.lists) ≡ true) where
  abbrev after : Lists
  after = (with_all (row ∷ rows) state).lists

  abbrev at : ℕ
  at = state.moment

  names_it : (v id : ℕ) → row.voucher ≡ Some id → v ≡ id → one (uses v state.lists row) ≡ 1
  names_it v id named same =
      let name : names v row.voucher ≡ true = ap (names v) named ∙ grind (arith, nat_tests, same) in
      ap (λ (b : Bool). one (b && stands_as is_in_force (order_at row.order state.lists))) name ∙ ap one force

  too_often : (id : ℕ) (v : Voucher) → row.voucher ≡ Some id → voucher_at id state.lists ≡ Some v → nat_lt (redeemed v.id state.lists + held at v.id state.lists) v.max_usages ≡ false
      → are_used_within at after ≡ false
  too_often id v named found none =
      let once = put_once v.id n row state.lists count.0 numbered in
      let uses_one = names_it v.id id named (key-row_at (λ (r : Voucher). r.id) id state.lists.vouchers v found) in
      let rest = named_more v.id (n + 1) rows (change_applied (PutPosition row) state) (omega (arith, from)) count.1 (numbered_put (λ (r : OrderPos). r.id) row n state.lists.positions count.0 from numbered) in
      let same_held : held at v.id after ≡ held at v.id state.lists = ap (λ (carts : List CartPos). count_by (holds at v.id) carts) (keep_carts (row ∷ rows) state) in
      let no_less : v.max_usages ≤ redeemed v.id state.lists + held at v.id state.lists = grind (arith, nat_tests, none) in
      let above : v.max_usages < redeemed v.id after + held at v.id after = omega (arith, once, uses_one, rest, same_held, no_less) in
      let fails : nat_le (redeemed v.id after + held at v.id after) v.max_usages ≡ false = grind (arith, nat_tests, above) in
      let stays : voucher_at id after ≡ Some v = ap (λ (vouchers : List Voucher). row_at (λ (r : Voucher). r.id) id vouchers) (keep_vouchers (row ∷ rows) state) ∙ found in
      one_fails (λ (x : Voucher). nat_le (redeemed x.id after + held at x.id after) x.max_usages) id after.vouchers v stays fails

  by_row : (id : ℕ) (found : Option Voucher) → row.voucher ≡ Some id → voucher_at id state.lists ≡ found → has_use_by at state.lists found ≡ false → are_used_within at after ≡ false
  by_row id None named is none = absurd (cc)
  by_row id (Some v) named is none = too_often id v named is none

  by_name : (voucher : Option ℕ) → row.voucher ≡ voucher → has_use at state.lists voucher ≡ false → are_used_within at after ≡ false
  by_name None named none = absurd (cc)
  by_name (Some id) named none = by_row id (voucher_at id state.lists) named refl none

  overdrawn : has_use at state.lists row.voucher ≡ false → are_used_within at after ≡ false
  overdrawn none = by_name row.voucher refl none

-- ---- one position after another

put_passes : (row : OrderPos) (state : State) → has_use state.moment state.lists row.voucher ≡ true → position_put row state ≡ Ok (change_applied (PutPosition row) state)
unfolding position_put
put_passes row state left = passes (has_use state.moment state.lists row.voucher) (OfVoucher NoHeadroom) (Ok (change_applied (PutPosition row) state)) left

put_refuses : (row : OrderPos) (state : State) → has_use state.moment state.lists row.voucher ≡ false → position_put row state ≡ Err (OfVoucher NoHeadroom)
unfolding position_put
put_refuses row state none = refuses (has_use state.moment state.lists row.voucher) (OfVoucher NoHeadroom) (Ok (change_applied (PutPosition row) state)) none

abbrev AreInForce : Lists → List OrderPos → Type 0
AreInForce lists rows = AllByRecursion (λ p. stands_as is_in_force (order_at p.order lists) ≡ true) rows

each_whole : (rows : List OrderPos) (n : ℕ) (state : State) → AreCounted n rows → AreInForce state.lists rows → IsReady n state → with_positions rows (Ok state) ≡ put_whole rows state
each_whole [] n state count force ready = sym (passes (are_used_within state.moment state.lists) (OfVoucher NoHeadroom) (Ok state) (all_within state.moment state.lists state.lists.vouchers ready.headroom))
each_whole (row ∷ rows) n state count force ready = by_use (has_use state.moment state.lists row.voucher) refl (each_whole rows (n + 1) (change_applied (PutPosition row) state) count.1 force.1)
  where
    next : has_use state.moment state.lists row.voucher ≡ true → IsReady (n + 1) (change_applied (PutPosition row) state)
    next left = subst (λ (m : ℕ). IsReady (m + 1) (change_applied (PutPosition row) state)) count.0 (ready_put row state (subst (λ (m : ℕ). IsReady m state) (sym count.0) ready) left)

    by_use : (b : Bool) → has_use state.moment state.lists row.voucher ≡ b
        → (IsReady (n + 1) (change_applied (PutPosition row) state) → with_positions rows (Ok (change_applied (PutPosition row) state)) ≡ put_whole rows (change_applied (PutPosition row) state))
        → with_positions (row ∷ rows) (Ok state) ≡ put_whole (row ∷ rows) state
    by_use true left more = ap (with_positions rows) (put_passes row state left) ∙ more (next left)
    by_use false none more =
        ap (with_positions rows) (put_refuses row state none)
        ∙ sym (refuses (are_used_within state.moment (with_all (row ∷ rows) state).lists) (OfVoucher NoHeadroom) (Ok (with_all (row ∷ rows) state)) (overdrawn row rows n state ready.from_one count ready.positions force.0 none))

-- ---- an order that is made

starts_in_force : (start : Start) → is_in_force (status_of start) ≡ true
starts_in_force starts.Pending = refl
starts_in_force starts.Paid = refl

module _ (new : NewOrder) (draw : Draw) (state : State) where
  abbrev placed : State
  placed = with_order_row (order_row new state) new.consume_carts state

  order_found : order_at state.next.order placed.lists ≡ Some (order_row new state)
  order_found =
      let e = row_at-with_row (λ (r : Order). r.id) state.next.order (order_row new state) (without_carts (carts_consumed new.consume_carts state.lists) state).lists.orders in
      grind (arith, nat_tests, e)

  in_force : stands_as is_in_force (order_at state.next.order placed.lists) ≡ true
  in_force = ap (stands_as is_in_force) order_found ∙ starts_in_force new.start

  pub tested_whole : (rows : List OrderPos) → IsSound state → rows_for draw state [] state.next.position 1 new.positions ≡ Ok rows → with_positions rows (Ok placed) ≡ put_whole rows placed
  tested_whole rows sound asked =
      let own = are_own draw state sound.ids.vouchers.in_order sound.varied [] state.next.position 1 new.positions rows asked in
      let force = all_weaker (IsOwn state.lists state.next.order) (λ p. stands_as is_in_force (order_at p.order placed.lists) ≡ true)
      (λ p known. ap (λ (id : ℕ). stands_as is_in_force (order_at id placed.lists)) known.0 ∙ in_force) rows own in
      each_whole rows state.next.position placed (counted draw state [] state.next.position 1 new.positions rows asked) force (ready_order (order_row new state) new.consume_carts state refl sound)
