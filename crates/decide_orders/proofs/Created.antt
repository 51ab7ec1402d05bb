-- What is known where an order was made.
use Rattle.std.proofs.Common.{◌≡◌, ℕ, ◌+◌, ◌<◌, ◌≤◌, true, List, [], ◌∷◌, ◌++◌, length, map, Option, Some, None, Result, Ok, Err, refl, sym, ap, ◌∙◌, subst, arith}
use Rattle.std.specs.Prelude.{◌&&◌, is_some}
use Rattle.std.specs.List.{AllByRecursion}
use Rattle.std.proofs.lemmas.Bool.Decides.{nat_tests}
use Rattle.base_values.proofs.Decided.{found_none, gave, gave_below, gave_it, gave_unit, passed}
use Rattle.base_values.specs.Codes.{last_order}
use Rattle.base_tables.specs.Tables.{AreInOrder}
use Rattle.base_values.specs.Draws.{IsDraw}
use Rattle.base_values.specs.declared.draw.Draw.{Draw}
use Rattle.base_tables.proofs.Edits.{row_at-with_row}
use Rattle.model_catalogue.specs.CatalogueLists.{CatalogueLists}
use Rattle.model_rows.specs.declared.rows.NextIds.{NextIds}
use Rattle.model_rows.specs.declared.rows.Order.{Order}
use Rattle.model_rows.specs.declared.rows.OrderPos.{OrderPos}
use Rattle.model_rows.specs.declared.rows.OrderRows.{OrderRows}
use Rattle.model_rows.specs.declared.rows.Own.TheVariants.{Position}
use Rattle.model_rows.specs.declared.changes.Change.TheVariants.{PutOrder, PutPosition}
use Rattle.model_rows.specs.Conditions.{is_in_force}
use Rattle.model_rows.specs.Usage.{stands_as}
use Rattle.model_rows.specs.Budgets.{are_within}
use Rattle.model_rows.specs.Lists.{Lists, State, order_at}
use Rattle.model_rows.specs.Change.{after_change, change_applied, without_carts}
use Rattle.model_rows.specs.Consumed.{carts_consumed}
use Rattle.model_rows.specs.Fits.{is_fit}
use Rattle.model_rows.specs.Full.{takes_order, takes_positions}
use Rattle.model_rows.specs.Headroom.{has_use}
use Rattle.model_rows.specs.Over.{first_over}
use Rattle.model_rows.proofs.EachRow.{all_weaker}
use Rattle.model_invariant.specs.Limits.{IsLimitedOrder, IsLimitedPosition}
use Rattle.model_invariant.specs.Secrets.{has_own_secret}
use Rattle.model_invariant.specs.Sound.{IsSound, IsSoundSoFar}
use Rattle.model_invariant.specs.Varied.{AllVaried, IsProduct}
use Rattle.model_invariant.proofs.Fit.{fit_same}
use Rattle.model_invariant.proofs.Numbered.{Takes, TakesSome, takes_first, takes_others}
use Rattle.model_invariant.proofs.SoundOrders.{sound_order, sound_position, sound_whole, sound_drop_carts}
use Rattle.model_commands.specs.declared.vouchers.VoucherRefusal.TheVariants.{OverBudget, SoldOut}
use Rattle.model_commands.specs.FitRequests.{IsFitOrder}
use Rattle.model_commands.specs.declared.orders.NewOrder.{NewOrder}
use Rattle.model_commands.specs.declared.carts.Asked.{Asked}
use Rattle.model_commands.specs.declared.orders.OrderRefusal.{OrderRefusal}
use Rattle.model_commands.specs.declared.orders.OrderRefusal.TheVariants.{Voucher as OfVoucher}
use Rattle.decide_orders.specs.Sold.{sold_for}
use Rattle.decide_orders.specs.Created.{order_row, position_row, position_for, rows_for, position_put, with_positions, with_ids_used, with_order_row, order_placed, counts_test, order_created}
use Rattle.decide_orders.specs.Steps.{AreCounted}
use Rattle.decide_orders.proofs.Counted.{created_few, are_rows, created_whole}
use Rattle.decide_orders.proofs.Limited.{order_limited, positions_limited}
use Rattle.decide_orders.proofs.Puts.{put_is, carts_keep_catalogue, carts_keep_orders, carts_keep_positions, carts_keep_vouchers}
use Rattle.decide_orders.proofs.SoldLemmas.{sold_fits, sold_is_product}
use Rattle.decide_orders.proofs.Rows.{by_force, counted, puts_next}
use Rattle.decide_orders.proofs.Spending.{made_within}

-- the rows of the order, the tests that it passed, and the box office with it
pub record IsCreated (new : NewOrder) (draw : Draw) (before after : State) (made : OrderRows) : Type 0 where
  pub put : State
  pub is_order : order_row new before ≡ made.order
  pub are_rows : rows_for draw before [] before.next.position 1 new.positions ≡ Ok made.positions
  pub puts : with_positions made.positions (Ok (with_order_row made.order new.consume_carts before)) ≡ Ok put
  pub within : are_within put.lists made.positions ≡ true
  pub not_over : first_over before.lists put.lists before.moment (map (λ p. Position p.id) made.positions) ≡ None
  pub takes : (takes_order before && takes_positions (length made.positions) before) ≡ true
  pub is_after : with_ids_used (length made.positions) put ≡ after

module _ (new : NewOrder) (draw : Draw) (before after : State) (made : OrderRows) where
  abbrev Gives : Result (State × OrderRows) OrderRefusal → Type 0
  Gives result = result ≡ Ok (after, made)

  pub created_is : Gives (order_created new draw before) → IsCreated new draw before after made
  unfolding order_created order_placed
  created_is h =
      let row = order_row new before in
      let (counts, h1) = gave_unit (counts_test new) _ h in
      let (rows, asked, h2) = gave (rows_for draw before [] before.next.position 1 new.positions) _ h1 in
      let (put, puts, h3) = gave (with_positions rows (Ok (with_order_row row new.consume_carts before))) _ h2 in
      let (within, h4) = passed (are_within put.lists rows) (OfVoucher OverBudget) _ h3 in
      let (over, h5) = found_none (λ quota. OfVoucher (SoldOut quota)) (first_over before.lists put.lists before.moment (map (λ p. Position p.id) rows)) _ h4 in
      let (takes, h6) = passed (takes_order before && takes_positions (length rows) before) _ _ h5 in
      let its : OrderRows = record { order = row; positions = rows } in
      let is = gave_it (with_ids_used (length rows) put, its) (after, made) h6 in
      let same = ap (λ (x : State × OrderRows). x.1) is in
      record {
        put = put;
        is_order = ap (λ (r : OrderRows). r.order) same;
        are_rows = subst (λ ps. rows_for draw before [] before.next.position 1 new.positions ≡ Ok ps) (ap (λ (r : OrderRows). r.positions) same) asked;
        puts = subst (λ (r : OrderRows). with_positions r.positions (Ok (with_order_row r.order new.consume_carts before)) ≡ Ok put) same puts;
        within = subst (λ (r : OrderRows). are_within put.lists r.positions ≡ true) same within;
        not_over = subst (λ (r : OrderRows). first_over before.lists put.lists before.moment (map (λ p. Position p.id) r.positions) ≡ None) same over;
        takes = subst (λ (r : OrderRows). (takes_order before && takes_positions (length r.positions) before) ≡ true) same takes;
        is_after = subst (λ (r : OrderRows). with_ids_used (length r.positions) put ≡ after) same (ap (λ (x : State × OrderRows). x.0) is);
      }

  pub created_none_over : Gives (order_created new draw before) → first_over before.lists after.lists before.moment (map (λ p. Position p.id) made.positions) ≡ None
  created_none_over h =
      let m = created_is h in
      subst (λ (s : State). first_over before.lists s.lists before.moment (map (λ p. Position p.id) made.positions) ≡ None) m.is_after m.not_over

-- puts leave the moment
puts_moment : (rows : List OrderPos) (state after : State) → with_positions rows (Ok state) ≡ Ok after → after.moment ≡ state.moment
puts_moment [] state after h = let same : state ≡ after = cc (h) in ap (λ (s : State). s.moment) (sym same)
puts_moment (row ∷ rows) state after h = by_put (position_put row state) refl h (λ made. puts_moment rows made after)
  where
    by_put : (put : Result State OrderRefusal) → position_put row state ≡ put → with_positions rows put ≡ Ok after → ((made : State) → with_positions rows (Ok made) ≡ Ok after → after.moment ≡ made.moment) → after.moment ≡ state.moment
    by_put (Err refusal) e h more = absurd (cc (h))
    by_put (Ok made) e h more = more made h ∙ ap (λ (s : State). s.moment) (sym (put_is row state made e).is)

pub created_moment : (new : NewOrder) (draw : Draw) (before after : State) (made : OrderRows) → order_created new draw before ≡ Ok (after, made) → after.moment ≡ before.moment
created_moment new draw before after made h =
    let m = created_is new draw before after made h in
    ap (λ (s : State). s.moment) (sym m.is_after) ∙ puts_moment made.positions (with_order_row made.order new.consume_carts before) m.put m.puts

-- an order that was put stands
order_stands : (row : Order) (lists : Lists) → is_some (order_at row.id (after_change (PutOrder row) lists)) ≡ true
order_stands row lists =
    let e = row_at-with_row (λ (r : Order). r.id) row.id row lists.orders in
    let found : order_at row.id (after_change (PutOrder row) lists) ≡ Some row = grind (arith, nat_tests, e) in
    ap (λ (o : Option Order). is_some o) found

-- each row is the order's, its voucher is for its product, and its product is one
abbrev pub IsOwn : Lists → ℕ → OrderPos → Type 0
IsOwn lists number p = (p.order ≡ number) × ((is_fit lists p.product p.voucher ≡ true) × IsProduct lists.catalogue p.product)

module _ (draw : Draw) (state : State) (order : AreInOrder (λ r. r.id) state.lists.vouchers) (of_varied : AllVaried state.lists) where
  own_row : (front : List OrderPos) (id number : ℕ) (asked : Asked) (row : OrderPos) → position_for draw state front id number asked ≡ Ok row → IsOwn state.lists state.next.order row
  unfolding position_for
  own_row front id number asked row h =
      let (sold, is, h1) = gave_below OfVoucher (sold_for asked front state) _ h in
      subst (IsOwn state.lists state.next.order) (gave_it (position_row draw state.next.order id number sold) row h1) (refl, (sold_fits asked front state sold order is, sold_is_product asked front state sold of_varied is))

  pub are_own : (front : List OrderPos) (id number : ℕ) (asked : List Asked) (rows : List OrderPos) → rows_for draw state front id number asked ≡ Ok rows → AllByRecursion (IsOwn state.lists state.next.order) rows
  are_own front id number [] rows h = subst (AllByRecursion (IsOwn state.lists state.next.order)) (gave_it [] rows h) tt
  are_own front id number (entry ∷ more) rows h =
      let (row, first, h1) = gave (position_for draw state front id number entry) _ h in
      let (others, rest, h2) = gave (rows_for draw state (front ++ row ∷ []) (id + 1) (number + 1) more) _ h1 in
      subst (AllByRecursion (IsOwn state.lists state.next.order)) (gave_it (row ∷ others) rows h2) (own_row front id number entry row first, are_own (front ++ row ∷ []) (id + 1) (number + 1) more others rest)

-- the order's id is used, and the next position gets this one
abbrev pub numbered : ℕ → State → State
numbered id state = record state { next = record state.next { order = state.next.order + 1; position = id } }

-- a box office stays sound as an order's positions are put
module _ (lists : Lists) (number : ℕ) where
  -- it sells the same, and the order stands
  pub record Goes (id : ℕ) (state : State) : Type 0 where
    pub catalogue : lists.catalogue ≡ state.lists.catalogue
    pub vouchers : lists.vouchers ≡ state.lists.vouchers
    pub stands : is_some (order_at number state.lists) ≡ true
    pub sound : IsSoundSoFar (numbered id state)

  pub goes_on : (id : ℕ) (row : OrderPos) (state : State) → row.id ≡ id → IsOwn lists number row → has_own_secret row ≡ true → has_use state.moment state.lists row.voucher ≡ true → Takes id state.lists.positions → IsLimitedPosition row → Goes id state → Goes (id + 1) (change_applied (PutPosition row) state)
  goes_on id row state e own secret left takes limits g = record {
    catalogue = g.catalogue;
    vouchers = g.vouchers;
    stands = g.stands;
    sound = sound_position (numbered id state) row e takes
        (ap (λ (n : ℕ). is_some (order_at n state.lists)) own.0 ∙ g.stands, secret)
        (fit_same lists state.lists (ap (λ (c : CatalogueLists). c.quotas) g.catalogue) g.vouchers row.product row.voucher own.1.0)
        (subst (λ (c : CatalogueLists). IsProduct c row.product) g.catalogue own.1.1)
        (by_force (stands_as is_in_force (order_at row.order state.lists)) (has_use state.moment state.lists row.voucher) left)
        limits
        g.sound;
  }

  puts_sound : (rows : List OrderPos) (id : ℕ) (state put : State) → TakesSome (length rows) id state.lists.positions → AreCounted id rows → AllByRecursion (IsOwn lists number) rows
      → AllByRecursion (λ p. has_own_secret p ≡ true) rows → AllByRecursion IsLimitedPosition rows → Goes id state → with_positions rows (Ok state) ≡ Ok put → IsSoundSoFar (numbered (id + length rows) put)
  puts_sound [] id state put takes counted own secrets limits g h =
      let same : state ≡ put = cc (h) in
      let end : id ≡ id + 0 = omega arith in
      subst (λ (n : ℕ). IsSoundSoFar (numbered n put)) end (subst (λ (s : State). IsSoundSoFar (numbered id s)) same g.sound)
  puts_sound (row ∷ rows) id state put takes counted own secrets limits g h = by_put (position_put row state) refl h (λ made more on. puts_sound rows (id + 1) made put more counted.1 own.1 secrets.1 limits.1 on)
    where
      by_put : (done : Result State OrderRefusal) → position_put row state ≡ done → with_positions rows done ≡ Ok put → ((made : State) → TakesSome (length rows) (id + 1) made.lists.positions → Goes (id + 1) made → with_positions rows (Ok made) ≡ Ok put → IsSoundSoFar (numbered (id + 1 + length rows) put)) → IsSoundSoFar (numbered (id + length (row ∷ rows)) put)
      by_put (Err refusal) e h more = absurd (cc (h))
      by_put (Ok made) e h more =
          let p = put_is row state made e in
          let end : id + 1 + length rows ≡ id + length (row ∷ rows) = omega arith in
          let others = takes_others (λ (r : OrderPos). r.id) row rows id state.lists.positions takes in
          let first = takes_first (λ (r : OrderPos). r.id) row rows id state.lists.positions takes in
          let goes = goes_on id row state counted.0 own.0 secrets.0 p.left first limits.0 g in
          subst (λ (n : ℕ). IsSoundSoFar (numbered n put)) end
          (more made (subst (λ (s : State). TakesSome (length rows) (id + 1) s.lists.positions) p.is others) (subst (Goes (id + 1)) p.is goes) h)

-- there is a code for one order more, and room for its positions
pub takes_all : (count : ℕ) (state : State) → (takes_order state && takes_positions count state) ≡ true → ((length state.lists.orders < last_order) × (state.next.order ≤ last_order)) × TakesSome count state.next.position state.lists.positions
takes_all count state h = ((grind (arith, nat_tests, h), grind (arith, nat_tests, h)), (grind (arith, nat_tests, h), grind (arith, nat_tests, h)))

-- the order is put, and none of its positions yet
pub begins : (new : NewOrder) (draw : Draw) (before after : State) (made : OrderRows) → IsFitOrder new → IsSound before → IsCreated new draw before after made → Goes before.lists before.next.order before.next.position (with_order_row made.order new.consume_carts before)
begins new draw before after made fit sound m = record {
  catalogue = sym (carts_keep_catalogue ids before.lists);
  vouchers = sym (carts_keep_vouchers ids before.lists);
  stands = subst (λ (n : ℕ). is_some (order_at n (with_order_row made.order new.consume_carts before).lists) ≡ true) id (order_stands made.order (without_carts ids before).lists);
  sound = sound_order (without_carts ids before) made.order id (subst (λ (orders : List Order). (length orders < last_order) × (before.next.order ≤ last_order)) (sym (carts_keep_orders ids before.lists)) (takes_all (length made.positions) before m.takes).0) (subst IsLimitedOrder m.is_order (order_limited new before fit sound)) (sound_drop_carts ids before sound);
}
  where
    ids : List ℕ
    ids = carts_consumed new.consume_carts before.lists

    id : made.order.id ≡ before.next.order
    id = sym (ap (λ (o : Order). o.id) m.is_order)

-- its positions are within the limits
pub created_limited : (new : NewOrder) (draw : Draw) (before after : State) (made : OrderRows) → IsFitOrder new → IsDraw draw → IsSound before → order_created new draw before ≡ Ok (after, made) → IsCreated new draw before after made → AllByRecursion IsLimitedPosition made.positions
created_limited new draw before after made fit sixteen sound h m =
    let few = created_few new draw before (after, made) h in
    positions_limited draw before sixteen sound [] before.next.position 1 new.positions made.positions (omega (arith, few.few)) fit.positions m.are_rows

-- a box office stays sound as an order is made
pub created_sound : (new : NewOrder) (draw : Draw) (before after : State) (made : OrderRows) → IsFitOrder new → IsDraw draw → IsSound before → order_created new draw before ≡ Ok (after, made) → IsSound after
created_sound new draw before after made fit sixteen sound h =
    let m = created_is new draw before after made h in
    let ids = carts_consumed new.consume_carts before.lists in
    let start = before.next.position in
    let state = with_order_row made.order new.consume_carts before in
    let id : made.order.id ≡ before.next.order = sym (ap (λ (o : Order). o.id) m.is_order) in
    let room = takes_all (length made.positions) before m.takes in
    let g = begins new draw before after made fit sound m in
    let takes = subst (λ (positions : List OrderPos). TakesSome (length made.positions) start positions) (sym (carts_keep_positions ids before.lists)) room.1 in
    let next = puts_next made.positions state m.put m.puts in
    let ids_count = counted draw before [] start 1 new.positions made.positions m.are_rows in
    let own = are_own draw before sound.ids.vouchers.in_order sound.varied [] start 1 new.positions made.positions m.are_rows in
    let rows = are_rows draw before [] start 1 new.positions made.positions m.are_rows in
    let limits = created_limited new draw before after made fit sixteen sound h m in
    let all = puts_sound before.lists before.next.order made.positions start state m.put takes ids_count own rows.secrets limits g m.puts in
    let of_it = all_weaker (IsOwn before.lists before.next.order) (λ p. p.order ≡ before.next.order) (λ p known. known.0) made.positions own in
    let whole = created_whole new draw before (after, made) made.order made.positions ids m.put h sound.ids.orders sound.ids.positions sound.ordered id m.are_rows ids_count of_it m.puts in
    let budgets = made_within made.order new.consume_carts before id sound made.positions m.put m.puts m.within in
    let full = sound_whole (numbered (start + length made.positions) m.put) whole budgets all in
    subst IsSound m.is_after (subst (λ (n : ℕ). IsSound (numbered n m.put)) (ap (λ (x : NextIds). x.position + length made.positions) (sym next)) full)
