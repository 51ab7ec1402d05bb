-- What is known where a cart position was added.
use Rattle.std.proofs.Common.{◌≡◌, ℕ, true, false, [], ◌∷◌, None, Ok, refl, sym, ap, ◌∙◌, subst}
use Rattle.base_values.proofs.Decided.{found_none, gave, gave_below, gave_it, gave_unit, passed}
use Rattle.base_tables.specs.Tables.{AreInOrder}
use Rattle.base_values.specs.Draws.{IsDraw}
use Rattle.base_values.specs.declared.draw.Draw.{Draw}
use Rattle.model_rows.specs.declared.rows.CartPos.{CartPos}
use Rattle.model_rows.specs.declared.rows.Own.TheVariants.{Cart}
use Rattle.model_rows.specs.declared.changes.Change.TheVariants.{PutCart}
use Rattle.model_rows.specs.Lists.{State}
use Rattle.model_rows.specs.Change.{after_change}
use Rattle.model_rows.specs.Full.{takes_cart}
use Rattle.model_rows.specs.Fits.{is_fit}
use Rattle.model_rows.specs.Numbered.{with_cart}
use Rattle.model_rows.specs.Over.{first_over, ignores}
use Rattle.model_rows.specs.Usage.{spent}
use Rattle.model_invariant.specs.Sound.{IsSound}
use Rattle.model_invariant.specs.Varied.{AllVaried, IsProduct}
use Rattle.model_invariant.proofs.Numbered.{takes_it}
use Rattle.model_invariant.proofs.Sound.{sound_cart}
use Rattle.model_commands.specs.declared.vouchers.VoucherRefusal.TheVariants.{SoldOut}
use Rattle.decide_orders.specs.CartId.{cart_id_test}
use Rattle.model_rows.specs.Takes.{TakesNoMore}
use Rattle.decide_orders.proofs.Takes.{takes_no_more}
use Rattle.model_commands.specs.FitRequests.{IsFitCart}
use Rattle.model_commands.specs.declared.carts.NewCart.{NewCart}
use Rattle.model_commands.specs.declared.orders.OrderRefusal.TheVariants.{Voucher as OfVoucher}
use Rattle.decide_orders.specs.Carts.{position_added, cart_placed, has_use_for, cart_row, row_of_sold}
use Rattle.decide_orders.specs.Sold.{sold_for}
use Rattle.decide_orders.proofs.Limited.{cart_limited}
use Rattle.decide_orders.proofs.SoldLemmas.{sold_fits, sold_is_product}

-- the row has the next id and a product, and names no voucher, or one that stands and is for the product
pub record IsNew (state : State) (row : CartPos) : Type 0 where
  pub id : row.id ≡ state.next.cart
  pub fit : is_fit state.lists row.product row.voucher ≡ true
  pub product : IsProduct state.lists.catalogue row.product

pub row_is_new : (new : NewCart) (draw : Draw) (state : State) → AreInOrder (λ r. r.id) state.lists.vouchers → AllVaried state.lists → (row : CartPos) → cart_row new draw state ≡ Ok row → IsNew state row
unfolding cart_row
row_is_new new draw state order of_varied row h =
    let (named, h1) = gave_unit (cart_id_test new.cart_id) _ h in
    let (sold, is, h2) = gave_below OfVoucher (sold_for new.asked [] state) _ h1 in
    subst (IsNew state) (gave_it (row_of_sold new draw state sold) row h2) (record { id = refl; fit = sold_fits new.asked [] state sold order is; product = sold_is_product new.asked [] state sold of_varied is })

-- the row, the tests that it passed, and the box office with it
pub record IsAdded (new : NewCart) (draw : Draw) (before after : State) (row : CartPos) : Type 0 where
  pub is_row : cart_row new draw before ≡ Ok row
  pub has_use : has_use_for row before ≡ true
  pub not_over : first_over before.lists (after_change (PutCart row) before.lists) before.moment (Cart row.id ∷ []) ≡ None
  pub takes : takes_cart before ≡ true
  pub is_after : with_cart row before ≡ after

module _ (new : NewCart) (draw : Draw) (before after : State) (row : CartPos) where
  pub added_is : position_added new draw before ≡ Ok (after, row) → IsAdded new draw before after row
  unfolding position_added cart_placed
  added_is h =
      let (r, asked, h1) = gave (cart_row new draw before) _ h in
      let (left, h2) = passed (has_use_for r before) _ _ h1 in
      let (over, h3) = found_none (λ quota. OfVoucher (SoldOut quota)) (first_over before.lists (after_change (PutCart r) before.lists) before.moment (Cart r.id ∷ [])) _ h2 in
      let (takes, h4) = passed (takes_cart before) _ _ h3 in
      let same = gave_it (with_cart r before, r) (after, row) h4 in
      let row_is : r ≡ row = ap (λ (x : State × CartPos). x.1) same in
      record {
        is_row = asked ∙ ap (λ (x : CartPos). Ok x) row_is;
        has_use = subst (λ (x : CartPos). has_use_for x before ≡ true) row_is left;
        not_over = subst (λ (x : CartPos). first_over before.lists (after_change (PutCart x) before.lists) before.moment (Cart x.id ∷ []) ≡ None) row_is over;
        takes = takes;
        is_after = ap (λ (x : CartPos). with_cart x before) (sym row_is) ∙ ap (λ (x : State × CartPos). x.0) same;
      }

  pub added_id : IsAdded new draw before after row → row.id ≡ before.next.cart
  unfolding cart_row
  added_id a =
      let (named, h1) = gave_unit (cart_id_test new.cart_id) _ a.is_row in
      let (sold, is, h2) = gave_below OfVoucher (sold_for new.asked [] before) _ h1 in
      ap (λ (r : CartPos). r.id) (sym (gave_it (row_of_sold new draw before sold) row h2))

  -- the request took too much of no quota
  pub added_none_over : position_added new draw before ≡ Ok (after, row) → first_over before.lists after.lists before.moment (Cart row.id ∷ []) ≡ None
  added_none_over h =
      let a = added_is h in
      subst (λ (s : State). first_over before.lists s.lists before.moment (Cart row.id ∷ []) ≡ None) a.is_after a.not_over

  -- and where its voucher doesn't ignore quotas, what is used is within the size or no more than before
  pub added_takes_no_more : position_added new draw before ≡ Ok (after, row) → ignores after.lists row.voucher ≡ false → TakesNoMore before after
  added_takes_no_more h heeds =
      let a = added_is h in
      let heeds' = subst (λ (s : State). ignores s.lists row.voucher ≡ false) (sym a.is_after) heeds in
      subst (λ (s : State). TakesNoMore before s) a.is_after (takes_no_more before row heeds' a.not_over)

  -- it takes nothing of a budget
  pub added_spends : (voucher : ℕ) → position_added new draw before ≡ Ok (after, row) → spent voucher after.lists ≡ spent voucher before.lists
  added_spends voucher h =
      let a = added_is h in
      sym (ap (λ (s : State). spent voucher s.lists) a.is_after)

  pub added_moment : position_added new draw before ≡ Ok (after, row) → after.moment ≡ before.moment
  added_moment h =
      let a = added_is h in
      sym (ap (λ (s : State). s.moment) a.is_after)

  -- the box office stays sound
  pub added_sound : IsFitCart new → IsDraw draw → IsSound before → position_added new draw before ≡ Ok (after, row) → IsSound after
  added_sound fit sixteen sound h =
      let a = added_is h in
      let n = row_is_new new draw before sound.ids.vouchers.in_order sound.varied row a.is_row in
      subst IsSound a.is_after (sound_cart before row n.id (takes_it before.next.cart before.lists.carts a.takes) n.product a.has_use n.fit (cart_limited new draw before fit sixteen sound row a.is_row) sound)
