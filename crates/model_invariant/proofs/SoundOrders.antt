-- What keeps a box office sound: orders, their positions, and the carts that an order takes over.
use Rattle.std.proofs.Common.{◌≡◌, ℕ, ◌<◌, ◌≤◌, length, ◌⊎◌, inl, inr, true, false, List, [], ◌∷◌, Some, None, refl, ap, ◌∙◌}
use Rattle.std.specs.Prelude.{◌||◌, not}
use Rattle.base_values.specs.Codes.{last_order}
use Rattle.model_catalogue.specs.Limits.{most_rows, last_id}
use Rattle.model_rows.specs.declared.rows.Order.{Order}
use Rattle.model_rows.specs.declared.rows.OrderPos.{OrderPos}
use Rattle.model_rows.specs.declared.changes.Change.TheVariants.{PutOrder, PutPosition, DropCart}
use Rattle.model_rows.specs.Conditions.{is_in_force}
use Rattle.model_rows.specs.Lists.{Lists, State, order_at, positions_of}
use Rattle.model_rows.specs.Change.{after_change, change_applied, without_carts}
use Rattle.model_rows.specs.Usage.{stands_as}
use Rattle.model_rows.specs.Headroom.{AllHaveHeadroom, has_use, have_room}
use Rattle.model_rows.specs.Budgets.{AllWithinBudget, are_within}
use Rattle.model_rows.specs.Fits.{is_fit, AllFit}
use Rattle.model_rows.specs.Numbered.{with_order, with_position}
use Rattle.model_invariant.specs.Varied.{IsProduct}
use Rattle.model_invariant.specs.Limits.{IsLimitedOrder, IsLimitedPosition}
use Rattle.model_invariant.specs.Positions.{AllHavePositions}
use Rattle.model_invariant.specs.Sound.{IsSound, IsSoundSoFar}
use Rattle.model_rows.proofs.EachRow.{all-with_row, next_absent}
use Rattle.model_invariant.proofs.Checkins.{door_put_position}
use Rattle.model_invariant.proofs.EachTable.{set_orders, set_positions}
use Rattle.model_invariant.proofs.Numbered.{numbered_put, numbered_changed, few_put, few_changed, Takes, next_put}
use Rattle.model_invariant.proofs.Positions.{IsOfOrder, of_orders_order, of_orders_position, whole_changed}
use Rattle.model_invariant.proofs.Varied.{products_put_order, products_put_position}
use Rattle.model_invariant.proofs.Fit.{carts_stay, positions_stay, fit_same}
use Rattle.model_rows.proofs.OrderHeadroom.{headroom_new_order, headroom_kept_order, headroom_revived_order, headroom_position}
use Rattle.model_rows.proofs.Budgets.{kept_order, tested_order}
use Rattle.model_invariant.proofs.Sound.{sound_drop_cart}

fit_order : (lists : Lists) (row : Order) → AllFit lists → AllFit (after_change (PutOrder row) lists)
fit_order lists row h =
    let stays = fit_same lists (after_change (PutOrder row) lists) refl refl in
    record {
      carts = carts_stay lists (after_change (PutOrder row) lists) stays lists.carts h.carts;
      positions = positions_stay lists (after_change (PutOrder row) lists) stays lists.positions h.positions;
    }

-- nothing names the id of a new order yet
pub new_order_headroom : (state : State) (row : Order) → row.id ≡ state.next.order → IsSound state → AllHaveHeadroom state.moment (after_change (PutOrder row) state.lists)
new_order_headroom state row e h = headroom_new_order row state.lists state.moment absent h.ordered.each.stand h.headroom
  where
    absent : order_at row.id state.lists ≡ None
    absent = ap (λ (n : ℕ). order_at n state.lists) e ∙ next_absent (λ (r : Order). r.id) state.next.order state.lists.orders h.ids.orders.below

-- a new order, which has no positions yet
pub sound_order : (state : State) (row : Order) → row.id ≡ state.next.order → (length state.lists.orders < last_order) × (state.next.order ≤ last_order) → IsLimitedOrder row → IsSound state → IsSoundSoFar (with_order row state)
sound_order state row e takes limits h = record {
  range = record { moment = h.range.moment; next_ids = set_orders h.range.next_ids (next_put last_order state.next.order takes.1 h.range.next_ids.orders) };
  few = set_orders h.few (few_put (λ r. r.id) last_order row state.lists.orders takes.0);
  limits = set_orders h.limits (all-with_row (λ r. r.id) IsLimitedOrder row state.lists.orders limits h.limits.orders);
  ids = set_orders h.ids (numbered_put (λ r. r.id) row state.next.order state.lists.orders e h.range.next_ids.orders.from_one h.ids.orders);
  members = h.members;
  targets = h.targets;
  whole = h.whole;
  varied = h.varied;
  products = products_put_order row state.lists h.products;
  sent = h.sent;
  fit = fit_order state.lists row h.fit;
  codes = h.codes;
  ordered = of_orders_order state.lists row h.ordered.each;
  door = h.door;
  headroom = new_order_headroom state row e h;
  budgets = tt;
}

-- a new position of an order that stands: with a secret of its own, fit, of a product, and with a use left where its order is
-- in force
pub sound_position : (state : State) (row : OrderPos) → row.id ≡ state.next.position → Takes state.next.position state.lists.positions → IsOfOrder state.lists.orders row → is_fit state.lists row.product row.voucher ≡ true
    → IsProduct state.lists.catalogue row.product → (not (stands_as is_in_force (order_at row.order state.lists)) || has_use state.moment state.lists row.voucher) ≡ true → IsLimitedPosition row → IsSoundSoFar state
    → IsSoundSoFar (with_position row state)
sound_position state row e takes of_order fits product left limits h = record {
  range = record { moment = h.range.moment; next_ids = set_positions h.range.next_ids (next_put last_id state.next.position takes.1 h.range.next_ids.positions) };
  few = set_positions h.few (few_put (λ r. r.id) most_rows row state.lists.positions takes.0);
  limits = set_positions h.limits (all-with_row (λ r. r.id) IsLimitedPosition row state.lists.positions limits h.limits.positions);
  ids = set_positions h.ids (numbered_put (λ r. r.id) row state.next.position state.lists.positions e h.range.next_ids.positions.from_one h.ids.positions);
  members = h.members;
  targets = h.targets;
  whole = h.whole;
  varied = h.varied;
  products = products_put_position row state.lists product h.products;
  sent = h.sent;
  fit =
      let stays = fit_same state.lists (after_change (PutPosition row) state.lists) refl refl in
      record {
        carts = carts_stay state.lists (after_change (PutPosition row) state.lists) stays state.lists.carts h.fit.carts;
        positions = all-with_row (λ r. r.id) (λ p. is_fit (after_change (PutPosition row) state.lists) p.product p.voucher ≡ true) row state.lists.positions (stays row.product row.voucher fits) (positions_stay state.lists (after_change (PutPosition row) state.lists) stays state.lists.positions h.fit.positions);
      };
  codes = h.codes;
  ordered = of_orders_position state.lists.orders state.lists.positions row of_order h.ordered;
  door = door_put_position state.lists h.door row;
  headroom = headroom_position state.moment row state.lists h.ids.positions.in_order h.ids.vouchers.in_order left h.headroom;
  budgets = tt;
}

-- once all positions of the new order are put, and what they spend is within budgets
pub sound_whole : (state : State) → AllHavePositions state.lists.orders state.lists.positions → AllWithinBudget state.lists → IsSoundSoFar state → IsSound state
sound_whole state whole budgets h = record {
  range = h.range;
  few = h.few;
  limits = h.limits;
  ids = h.ids;
  members = h.members;
  targets = h.targets;
  whole = h.whole;
  varied = h.varied;
  products = h.products;
  sent = h.sent;
  fit = h.fit;
  codes = h.codes;
  ordered = record { each = h.ordered; whole = whole };
  door = h.door;
  headroom = h.headroom;
  budgets = budgets;
}

-- an order that is changed
module _ (state : State) (row old : Order) (stands : order_at row.id state.lists ≡ Some old) (limits : IsLimitedOrder row) (h : IsSound state) where
  by_headroom : AllHaveHeadroom state.moment (after_change (PutOrder row) state.lists) → AllWithinBudget (after_change (PutOrder row) state.lists) → IsSound (change_applied (PutOrder row) state)
  by_headroom headroom budgets = record {
    range = h.range;
    few = set_orders h.few (few_changed (λ r. r.id) last_order row old state.lists.orders h.ids.orders.in_order stands h.few.orders);
    limits = set_orders h.limits (all-with_row (λ r. r.id) IsLimitedOrder row state.lists.orders limits h.limits.orders);
    ids = set_orders h.ids (numbered_changed (λ r. r.id) row old state.next.order state.lists.orders stands h.ids.orders);
    members = h.members;
    targets = h.targets;
    whole = h.whole;
    varied = h.varied;
    products = products_put_order row state.lists h.products;
    sent = h.sent;
    fit = fit_order state.lists row h.fit;
    codes = h.codes;
    door = h.door;
    ordered = record {
      each = of_orders_order state.lists row h.ordered.each;
      whole = whole_changed row old state.lists.orders state.lists.positions stands h.ordered.whole;
    };
    headroom = headroom;
    budgets = budgets;
  }

  was : stands_as is_in_force (order_at row.id state.lists) ≡ is_in_force old.status
  was = ap (stands_as is_in_force) stands

  -- one that isn't in force afterwards
  pub sound_ended_order : is_in_force row.status ≡ false → IsSound (change_applied (PutOrder row) state)
  sound_ended_order ended = by_headroom (headroom_kept_order row state.lists state.moment (λ force. absurd (cc (ended, force))) h.headroom) (kept_order row state.lists (λ force. absurd (cc (ended, force))) h.budgets)

  -- one that was in force before
  pub sound_kept_order : is_in_force old.status ≡ true → IsSound (change_applied (PutOrder row) state)
  sound_kept_order kept = by_headroom (headroom_kept_order row state.lists state.moment (λ force. was ∙ kept) h.headroom) (kept_order row state.lists (λ force. was ∙ kept) h.budgets)

  -- one that comes back, where the vouchers of its positions have room for them, and budget
  pub sound_revived_order : have_room state.moment (after_change (PutOrder row) state.lists) (positions_of row.id state.lists) ≡ true → are_within (after_change (PutOrder row) state.lists) (positions_of row.id state.lists) ≡ true → IsSound (change_applied (PutOrder row) state)
  sound_revived_order room within = by_headroom (headroom_revived_order row state.lists state.moment h.ids.vouchers.in_order room h.headroom) (tested_order row state.lists h.ids.vouchers.in_order within h.budgets)

  -- any of them
  pub sound_changed_order : (is_in_force row.status ≡ false) ⊎ ((is_in_force old.status ≡ true) ⊎ ((have_room state.moment (after_change (PutOrder row) state.lists) (positions_of row.id state.lists) ≡ true) × (are_within (after_change (PutOrder row) state.lists) (positions_of row.id state.lists) ≡ true))) → IsSound (change_applied (PutOrder row) state)
  sound_changed_order (inl ended) = sound_ended_order ended
  sound_changed_order (inr (inl kept)) = sound_kept_order kept
  sound_changed_order (inr (inr tests)) = sound_revived_order tests.0 tests.1

-- cart positions that go one after another
pub sound_drop_carts : (ids : List ℕ) (state : State) → IsSound state → IsSound (without_carts ids state)
sound_drop_carts [] state h = h
sound_drop_carts (id ∷ ids) state h = sound_drop_carts ids (change_applied (DropCart id) state) (sound_drop_cart state id h)
