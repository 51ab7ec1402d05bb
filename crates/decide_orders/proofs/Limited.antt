-- The rows that carts and orders get are within their limits.
use Rattle.std.proofs.Common.{◌≡◌, ℕ, ◌+◌, ◌^◌, ◌<◌, min, List, [], ◌∷◌, ◌++◌, length, decimal, codes, Option, Some, None, Ok, refl, subst, arith}
use Rattle.std.specs.Prelude.{IfSome}
use Rattle.std.specs.List.{AllByRecursion}
use Rattle.hex.specs.Hex.{encode_lower}
use Rattle.base_values.proofs.Decided.{gave, gave_below, gave_it, gave_unit}
use Rattle.base_values.specs.Draws.{IsDraw}
use Rattle.base_values.specs.Moments.{last_moment, IsMoment}
use Rattle.base_values.specs.Texts.{IsText}
use Rattle.base_values.specs.declared.draw.Draw.{Draw}
use Rattle.base_values.proofs.Pieces.{text_of, behind, with_number, hex_piece, secret_text}
use Rattle.model_rows.specs.declared.rows.CartPos.{CartPos}
use Rattle.model_rows.specs.declared.rows.Order.{Order}
use Rattle.model_rows.specs.declared.rows.OrderPos.{OrderPos}
use Rattle.model_rows.specs.declared.rows.Status.{Status}
use Rattle.model_rows.specs.Lists.{State}
use Rattle.model_invariant.specs.Limits.{IsLimitedCart, IsLimitedOrder, IsLimitedPosition}
use Rattle.model_invariant.specs.Sound.{IsSound}
use Rattle.model_commands.specs.FitRequests.{IsFitAsked, IsFitCart, IsFitOrder, IsFitMove}
use Rattle.model_commands.specs.declared.carts.Asked.{Asked}
use Rattle.model_commands.specs.declared.carts.NewCart.{NewCart}
use Rattle.model_commands.specs.declared.orders.Move.{Move}
use Rattle.model_commands.specs.declared.orders.Move.TheVariants as moves
use Rattle.model_commands.specs.declared.orders.NewOrder.{NewOrder}
use Rattle.model_commands.specs.declared.orders.OrderRefusal.TheVariants.{Voucher as OfVoucher}
use Rattle.model_invariant.proofs.Given.{given_or}
use Rattle.decide_orders.specs.CartId.{cart_id_test, made_cart_id, cart_id_of}
use Rattle.decide_orders.specs.Carts.{held_for, cart_row, row_of_sold}
use Rattle.decide_orders.specs.Created.{payment_term, order_row, position_row, position_for, rows_for}
use Rattle.decide_orders.specs.Moves.{end_after, moved_row}
use Rattle.decide_orders.specs.Sold.{sold_for}
use Rattle.decide_orders.proofs.Prices.{sold_money, sold_discount}

-- a cart id that is made is a text
pub made_cart_text : (draw : Draw) (id : ℕ) → IsDraw draw → id < 2 ^ 64 → IsText (made_cart_id draw id)
unfolding made_cart_id
made_cart_text draw id sixteen small =
    let front = with_number 32 (encode_lower draw.bytes) id (hex_piece draw sixteen) small in
    text_of 57 (made_cart_id draw id) (behind 53 4 (encode_lower draw.bytes ++ codes "z" ++ decimal id) (codes "@api") front (record { short = omega arith; plain = refl })) (omega arith)

cart_text : (given : Option (List ℕ)) (draw : Draw) (id : ℕ) → IsDraw draw → id < 2 ^ 64 → IfSome given IsText → IsText (cart_id_of given draw id)
cart_text None draw id sixteen small its = made_cart_text draw id sixteen small
cart_text (Some given) draw id sixteen small its = its

-- an end by default
ends : (at : ℕ) → IsMoment (min at last_moment)
ends at = omega arith

-- a new cart position
module _ (new : NewCart) (draw : Draw) (state : State) (fit : IsFitCart new) (sixteen : IsDraw draw) (sound : IsSound state) (row : CartPos) where
  pub cart_limited : cart_row new draw state ≡ Ok row → IsLimitedCart row
  unfolding cart_row
  cart_limited h =
      let (named, h1) = gave_unit (cart_id_test new.cart_id) _ h in
      let (sold, is, h2) = gave_below OfVoucher (sold_for new.asked [] state) _ h1 in
      subst IsLimitedCart (gave_it (row_of_sold new draw state sold) row h2) (record {
        cart_id = cart_text new.cart_id draw state.next.cart sixteen (omega (arith, sound.range.next_ids.carts.within)) fit.cart_id;
        price = sold_money new.asked fit.asked [] state sound.ids.vouchers.in_order sound.limits sold is;
        made_at = sound.range.moment;
        expires = given_or IsMoment new.expires (min (state.moment + held_for) last_moment) fit.expires (ends (state.moment + held_for));
      })

-- a new order
pub order_limited : (new : NewOrder) (state : State) → IsFitOrder new → IsSound state → IsLimitedOrder (order_row new state)
order_limited new state fit sound = record {
  email = fit.email;
  made_at = sound.range.moment;
  expires = given_or IsMoment new.expires (min (state.moment + payment_term) last_moment) fit.expires (ends (state.moment + payment_term));
}

-- its positions
module _ (draw : Draw) (state : State) (sixteen : IsDraw draw) (sound : IsSound state) where
  limited_row : (front : List OrderPos) (id number : ℕ) (asked : Asked) → IsFitAsked asked → number < 2 ^ 64 → (row : OrderPos) → position_for draw state front id number asked ≡ Ok row → IsLimitedPosition row
  unfolding position_for
  limited_row front id number asked fit small row h =
      let (sold, is, h1) = gave_below OfVoucher (sold_for asked front state) _ h in
      subst IsLimitedPosition (gave_it (position_row draw state.next.order id number sold) row h1) (record {
        price = sold_money asked fit front state sound.ids.vouchers.in_order sound.limits sold is;
        discount = sold_discount asked fit front state sound.ids.vouchers.in_order sound.limits sold is;
        secret = secret_text draw state.next.order number sixteen (omega (arith, sound.range.next_ids.orders.within)) small;
      })

  pub positions_limited : (front : List OrderPos) (id number : ℕ) (asked : List Asked) (rows : List OrderPos) → number + length asked < 2 ^ 64 → AllByRecursion IsFitAsked asked → rows_for draw state front id number asked ≡ Ok rows → AllByRecursion IsLimitedPosition rows
  positions_limited front id number [] rows small fit h = subst (AllByRecursion IsLimitedPosition) (gave_it [] rows h) tt
  positions_limited front id number (entry ∷ more) rows small fit h =
      let (row, first, h1) = gave (position_for draw state front id number entry) _ h in
      let (others, rest, h2) = gave (rows_for draw state (front ++ row ∷ []) (id + 1) (number + 1) more) _ h1 in
      subst (AllByRecursion IsLimitedPosition) (gave_it (row ∷ others) rows h2) (limited_row front id number entry fit.0 (omega (arith, small)) row first, positions_limited (front ++ row ∷ []) (id + 1) (number + 1) more others (omega (arith, small)) fit.1 rest)

-- an order that is moved
end_limited : (change : Move) (old : ℕ) → IsFitMove change → IsMoment old → IsMoment (end_after change old)
end_limited (moves.Extend end) old fit its = fit
end_limited moves.MarkPaid old fit its = its
end_limited moves.MarkPending old fit its = its
end_limited moves.MarkExpired old fit its = its
end_limited moves.MarkCanceled old fit its = its

pub moved_limited : (old : Order) (status : Status) (change : Move) → IsFitMove change → IsLimitedOrder old → IsLimitedOrder (moved_row old status change)
moved_limited old status change fit its = record { email = its.email; made_at = its.made_at; expires = end_limited change old.expires fit its.expires }
