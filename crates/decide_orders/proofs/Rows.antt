-- The rows of a new order: their ids count on, and each of them can be put.
use Rattle.std.proofs.Common.{◌≡◌, ℕ, ◌+◌, ◌<◌, ◌≤◌, Bool, true, false, List, [], ◌∷◌, ◌++◌, None, Result, Ok, Err, refl, sym, ap, ◌∙◌, subst, arith}
use Rattle.std.specs.Prelude.{◌||◌, ◌&&◌, not}
use Rattle.base_values.proofs.Decided.{gave, gave_below, gave_it}
use Rattle.base_values.specs.declared.draw.Draw.{Draw}
use Rattle.model_rows.specs.declared.rows.Order.{Order}
use Rattle.model_rows.specs.declared.rows.OrderPos.{OrderPos}
use Rattle.model_rows.specs.declared.changes.Change.TheVariants.{PutOrder, PutPosition}
use Rattle.std.proofs.lemmas.Bool.Decides.{nat_tests}
use Rattle.model_rows.specs.Conditions.{is_in_force}
use Rattle.model_rows.specs.Usage.{stands_as}
use Rattle.model_rows.specs.Lists.{State, order_at, position_at}
use Rattle.model_rows.specs.Change.{change_applied, without_carts, after_change}
use Rattle.model_rows.specs.Consumed.{carts_consumed}
use Rattle.model_rows.specs.Full.{takes_order, takes_positions}
use Rattle.model_rows.specs.Headroom.{has_use, AllHaveHeadroom}
use Rattle.model_invariant.specs.Sound.{IsSound}
use Rattle.model_rows.proofs.OrderHeadroom.{headroom_position}
use Rattle.model_rows.proofs.EachRow.{next_absent}
use Rattle.model_invariant.proofs.Numbered.{numbered_put}
use Rattle.model_invariant.proofs.SoundOrders.{new_order_headroom, sound_drop_carts}
use Rattle.model_commands.specs.declared.carts.Asked.{Asked}
use Rattle.model_commands.specs.declared.orders.OrderRefusal.{OrderRefusal}
use Rattle.model_commands.specs.declared.orders.OrderRefusal.TheVariants.{Voucher as OfVoucher}
use Rattle.decide_orders.specs.Sold.{sold_for}
use Rattle.decide_orders.specs.Created.{with_order_row, position_put, position_row, position_for, rows_for, with_positions}
use Rattle.decide_orders.specs.Steps.{IsReady, AreCounted}
use Rattle.decide_orders.proofs.Puts.{put_is}

-- an order of the next id can be put
pub order_headroom : (row : Order) (ids : List ℕ) (state : State) → row.id ≡ state.next.order → IsSound state → AllHaveHeadroom state.moment (after_change (PutOrder row) (without_carts ids state).lists)
order_headroom row ids state e h = new_order_headroom (without_carts ids state) row e (sound_drop_carts ids state h)

-- and then a position of the next id
pub ready_order : (row : Order) (carts : List (List ℕ)) (state : State) → row.id ≡ state.next.order → IsSound state → IsReady state.next.position (with_order_row row carts state)
ready_order row carts state e h =
    let ids = carts_consumed carts state.lists in
    let left = sound_drop_carts ids state h in
    record { from_one = h.range.next_ids.positions.from_one; positions = left.ids.positions; vouchers = left.ids.vouchers.in_order; headroom = order_headroom row ids state e h }

pub by_force : (force left : Bool) → left ≡ true → (not force || left) ≡ true
by_force true left e = e
by_force false left e = refl

-- nothing has the id of a position that can be put
pub ready_absent : (row : OrderPos) (state : State) → IsReady row.id state → position_at row.id state.lists ≡ None
ready_absent row state h = next_absent (λ (r : OrderPos). r.id) row.id state.lists.positions h.positions.below

pub put_headroom : (row : OrderPos) (state : State) → IsReady row.id state → has_use state.moment state.lists row.voucher ≡ true → AllHaveHeadroom state.moment (after_change (PutPosition row) state.lists)
put_headroom row state h left = headroom_position state.moment row state.lists h.positions.in_order h.vouchers (by_force (stands_as is_in_force (order_at row.order state.lists)) (has_use state.moment state.lists row.voucher) left) h.headroom

-- and then the next one can be
pub ready_put : (row : OrderPos) (state : State) → IsReady row.id state → has_use state.moment state.lists row.voucher ≡ true → IsReady (row.id + 1) (change_applied (PutPosition row) state)
ready_put row state h left = record { from_one = omega arith; positions = numbered_put (λ r. r.id) row row.id state.lists.positions refl h.from_one h.positions; vouchers = h.vouchers; headroom = put_headroom row state h left }

pub ready_next : (row : OrderPos) (state after : State) → position_put row state ≡ Ok after → IsReady row.id state → IsReady (row.id + 1) after
ready_next row state after h ready =
    let p = put_is row state after h in
    subst (IsReady (row.id + 1)) p.is (ready_put row state ready p.left)

-- the ids of the rows that are asked for count on
module _ (draw : Draw) (state : State) where
  counted_row : (front : List OrderPos) (id number : ℕ) (asked : Asked) (row : OrderPos) → position_for draw state front id number asked ≡ Ok row → row.id ≡ id
  unfolding position_for
  counted_row front id number asked row h =
      let (sold, is, h1) = gave_below OfVoucher (sold_for asked front state) _ h in
      ap (λ (r : OrderPos). r.id) (sym (gave_it (position_row draw state.next.order id number sold) row h1))

  pub counted : (front : List OrderPos) (id number : ℕ) (asked : List Asked) (rows : List OrderPos) → rows_for draw state front id number asked ≡ Ok rows → AreCounted id rows
  counted front id number [] rows h = subst (AreCounted id) (gave_it [] rows h) tt
  counted front id number (entry ∷ more) rows h =
      let (row, first, h1) = gave (position_for draw state front id number entry) _ h in
      let (others, rest, h2) = gave (rows_for draw state (front ++ row ∷ []) (id + 1) (number + 1) more) _ h1 in
      subst (AreCounted id) (gave_it (row ∷ others) rows h2) (counted_row front id number entry row first, counted (front ++ row ∷ []) (id + 1) (number + 1) more others rest)

-- a put of a position leaves the next ids
put_next : (row : OrderPos) (state after : State) → position_put row state ≡ Ok after → after.next ≡ state.next
put_next row state after h = ap (λ (s : State). s.next) (sym (put_is row state after h).is)

-- and so do puts of several
pub puts_next : (rows : List OrderPos) (state after : State) → with_positions rows (Ok state) ≡ Ok after → after.next ≡ state.next
puts_next [] state after h = let same : state ≡ after = cc (h) in ap (λ (s : State). s.next) (sym same)
puts_next (row ∷ rows) state after h = by_put (position_put row state) refl h (λ made. puts_next rows made after)
  where
    by_put : (put : Result State OrderRefusal) → position_put row state ≡ put → with_positions rows put ≡ Ok after → ((made : State) → with_positions rows (Ok made) ≡ Ok after → after.next ≡ made.next) → after.next ≡ state.next
    by_put (Err refusal) e h more = absurd (cc (h))
    by_put (Ok made) e h more = more made h ∙ put_next row state made e

-- one row more of those that are put
pub counted_more : (id : ℕ) (row : OrderPos) (rows rest : List OrderPos) → rows ≡ row ∷ rest → AreCounted id rows → (row.id ≡ id) × AreCounted (id + 1) rest
counted_more id row rows rest e h = subst (AreCounted id) e h

pub takes_ids : (count : ℕ) (state : State) → (takes_order state && takes_positions count state) ≡ true → (state.next.order < 9007199254740992) × (state.next.position + count ≤ 9007199254740992)
takes_ids count state h = (grind (arith, nat_tests, h), grind (arith, nat_tests, h))
