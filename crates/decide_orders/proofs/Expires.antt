-- What expiring orders and deleting dead cart positions keeps.
use Rattle.std.proofs.Common.{◌≡◌, ℕ, ◌≤◌, inl, Bool, true, false, ◌&&◌, cond, eqb, List, [], ◌∷◌, filter, map, Option, Some, None, refl, sym, ap, ◌∙◌, subst, arith}
use Rattle.std.specs.Prelude.{nat_lt, if◌then◌else◌}
use Rattle.std.specs.List.{AllByRecursion, list_any}
use Rattle.base_tables.specs.Tables.{AreInOrder}
use Rattle.base_tables.proofs.Edits.{row_at-with_row}
use Rattle.model_catalogue.specs.declared.rows.Quota.{Quota}
use Rattle.model_catalogue.specs.CatalogueLists.{quota_at}
use Rattle.model_rows.specs.declared.rows.Order.{Order}
use Rattle.model_rows.specs.declared.rows.Status.{Status}
use Rattle.model_rows.specs.declared.rows.Status.TheVariants.{Pending, Paid, Expired, Cancelled}
use Rattle.model_rows.specs.declared.changes.Change.TheVariants.{PutOrder, DropCart}
use Rattle.model_rows.specs.Change.{after_change, change_applied, without_carts}
use Rattle.model_rows.specs.Conditions.{is_paid, is_pending}
use Rattle.model_rows.specs.Lists.{Lists, State, order_at, positions_of}
use Rattle.model_rows.specs.Refills.{blocks_again, refills_by, refills}
use Rattle.model_rows.specs.Usage.{stands_as}
use Rattle.model_rows.specs.Takes.{places_used}
use Rattle.model_rows.proofs.EachRow.{all_weaker, all-row_at, key-row_at}
use Rattle.model_rows.proofs.Found.{each_found}
use Rattle.model_rows.proofs.Lowers.{drop_cart_lowers}
use Rattle.model_invariant.specs.Changes.{EachCanBeMade, LeadTo}
use Rattle.model_invariant.specs.Limits.{IsLimitedOrder}
use Rattle.model_invariant.specs.Sound.{IsSound}
use Rattle.model_invariant.proofs.Changes.{carts_lead}
use Rattle.model_invariant.proofs.OrderLowers.{moved_order_lowers}
use Rattle.model_invariant.proofs.SoundOrders.{sound_ended_order, sound_drop_carts}
use Rattle.model_rows.specs.Due.{is_due, due_orders, dead_carts}
use Rattle.decide_orders.specs.Expired.{expired_row, expired_rows, expired_changes, orders_expired, dropped_changes, carts_dropped}
use Rattle.decide_orders.specs.Steps.{put_expired, expired_in, with_orders, expired_at, each_expired}
use Rattle.decide_orders.proofs.Overdue.{expired_at_once, expiry_leads_there, dropped_at_once}

-- the order of a number stands under its own
own_place : (id : ℕ) (state : State) (order : Order) → order_at id state.lists ≡ Some order → order_at order.id state.lists ≡ Some order
own_place id state order e = ap (λ (n : ℕ). order_at n state.lists) (key-row_at (λ (o : Order). o.id) id state.lists.orders order e) ∙ e

one_sound : (id : ℕ) (state : State) → IsSound state → IsSound (expired_at id state)
one_sound id state h = by_found (order_at id state.lists) refl
  where
    by_found : (found : Option Order) → order_at id state.lists ≡ found → IsSound (with_orders (put_expired state.lists.orders found) state)
    by_found None is = h
    by_found (Some order) is =
        let was = all-row_at (λ (o : Order). o.id) IsLimitedOrder id state.lists.orders order is h.limits.orders in
        let limits : IsLimitedOrder (expired_row order) = record { email = was.email; made_at = was.made_at; expires = was.expires } in
        sound_ended_order state (expired_row order) order (own_place id state order is) limits h refl

each_sound : (ids : List ℕ) (state : State) → IsSound state → IsSound (each_expired ids state)
each_sound [] state h = h
each_sound (id ∷ ids) state h = each_sound ids (expired_at id state) (one_sound id state h)

-- the box office stays sound
pub expired_sound : (state : State) → IsSound state → IsSound (orders_expired state)
expired_sound state h = subst IsSound (expired_at_once state h.ids.orders.in_order) (each_sound (due_orders state.moment state.lists) state h)

pub dropped_carts_sound : (state : State) → IsSound state → IsSound (carts_dropped state)
dropped_carts_sound state h = subst IsSound (dropped_at_once state h.ids.carts.in_order) (sound_drop_carts (dead_carts state.moment state.lists) state h)

-- the changes can be made one after another
orders_can : (rows : List Order) (lists : Lists) → EachCanBeMade (map PutOrder rows) lists
orders_can [] lists = tt
orders_can (row ∷ rows) lists = (tt, orders_can rows (after_change (PutOrder row) lists))

pub expired_leads : (state : State) → AreInOrder (λ o. o.id) state.lists.orders → LeadTo (expired_changes state) state.lists (orders_expired state).lists
expired_leads state order = record { can = orders_can (expired_rows state.moment state.lists) state.lists; is = expiry_leads_there state order }

pub dropped_carts_lead : (state : State) → AreInOrder (λ c. c.id) state.lists.carts → LeadTo (dropped_changes state) state.lists (carts_dropped state).lists
dropped_carts_lead state order = subst (λ (s : State). LeadTo (dropped_changes state) state.lists s.lists) (dropped_at_once state order) (carts_lead (dead_carts state.moment state.lists) state.lists)

-- an order that isn't paid takes no place again as it expires, and none of these is paid
abbrev AreUnpaid : List ℕ → Lists → Type 0
AreUnpaid ids lists = AllByRecursion (λ id. stands_as is_paid (order_at id lists) ≡ false) ids

unpaid_refills : (lists : Lists) (at : ℕ) (quota : Quota) (old : Order) → is_paid old.status ≡ false → refills lists at quota old Expired ≡ false
unpaid_refills lists at quota old unpaid = by_status old.status unpaid
  where
    by_status : (s : Status) → is_paid s ≡ false → refills_by s Expired quota.release_after_exit (list_any (blocks_again lists at quota) (positions_of old.id lists)) ≡ false
    by_status Pending e = refl
    by_status Paid e = absurd (cc (e))
    by_status Expired e = refl
    by_status Cancelled e = refl

-- those that are due are pending
due_unpaid : (state : State) → AreInOrder (λ o. o.id) state.lists.orders → AreUnpaid (due_orders state.moment state.lists) state.lists
due_unpaid state order = each state.lists.orders (each_found (λ (o : Order). o.id) 0 state.lists.orders order)
  where
    pending_only : (s : Status) (b : Bool) → (is_pending s && b) ≡ true → is_paid s ≡ false
    pending_only Pending b e = refl
    pending_only Paid b e = absurd (cc (e))
    pending_only Expired b e = refl
    pending_only Cancelled b e = refl

    each : (rows : List Order) → AllByRecursion (λ o. order_at o.id state.lists ≡ Some o) rows → AreUnpaid (map (λ o. o.id) (filter (is_due state.moment) rows)) state.lists
    each [] h = tt
    each (o ∷ rows) h = by_due (is_due state.moment o) refl (each rows h.1)
      where
        by_due : (b : Bool) → is_due state.moment o ≡ b → AreUnpaid (map (λ o. o.id) (filter (is_due state.moment) rows)) state.lists → AreUnpaid (map (λ o. o.id) (cond b (o ∷ filter (is_due state.moment) rows) (filter (is_due state.moment) rows))) state.lists
        by_due true due more = (ap (stands_as is_paid) h.0 ∙ pending_only o.status (nat_lt o.expires state.moment) due, more)
        by_due false due more = more

-- and another order that expires makes none of them paid
still_unpaid : (id : ℕ) (state : State) (other : ℕ) → stands_as is_paid (order_at other state.lists) ≡ false → stands_as is_paid (order_at other (expired_at id state).lists) ≡ false
still_unpaid id state other h = by_found (order_at id state.lists)
  where
    by_found : (found : Option Order) → stands_as is_paid (order_at other (with_orders (put_expired state.lists.orders found) state).lists) ≡ false
    by_found None = h
    by_found (Some order) = ap (stands_as is_paid) (row_at-with_row (λ o. o.id) other (expired_row order) state.lists.orders) ∙ by_own (eqb order.id other)
      where
        by_own : (b : Bool) → stands_as is_paid (if b then Some (expired_row order) else order_at other state.lists) ≡ false
        by_own true = refl
        by_own false = h

-- and no quota that stands is used more than before
module _ (quota : Quota) where
  one_lowers : (id : ℕ) (state : State) → quota_at quota.id state.lists.catalogue ≡ Some quota → stands_as is_paid (order_at id state.lists) ≡ false → IsSound state → places_used (expired_at id state) quota ≤ places_used state quota
  one_lowers id state stands unpaid h = by_found (order_at id state.lists) refl
    where
      by_found : (found : Option Order) → order_at id state.lists ≡ found → places_used (with_orders (put_expired state.lists.orders found) state) quota ≤ places_used state quota
      by_found None is = omega arith
      by_found (Some order) is =
          let its : is_paid order.status ≡ false = sym (ap (stands_as is_paid) is) ∙ unpaid in
          moved_order_lowers state (expired_row order) order quota (own_place id state order is) stands (inl refl) (unpaid_refills state.lists state.moment quota order its) h

  each_lowers : (ids : List ℕ) (state : State) → quota_at quota.id state.lists.catalogue ≡ Some quota → AreUnpaid ids state.lists → IsSound state → places_used (each_expired ids state) quota ≤ places_used state quota
  each_lowers [] state stands unpaid h = omega arith
  each_lowers (id ∷ ids) state stands unpaid h = omega (arith, one_lowers id state stands unpaid.0 h, each_lowers ids (expired_at id state) stands (all_weaker (λ other. stands_as is_paid (order_at other state.lists) ≡ false) (λ other. stands_as is_paid (order_at other (expired_at id state).lists) ≡ false) (still_unpaid id state) ids unpaid.1) (one_sound id state h))

  pub expired_lowers : (state : State) → quota_at quota.id state.lists.catalogue ≡ Some quota → IsSound state → places_used (orders_expired state) quota ≤ places_used state quota
  expired_lowers state stands h = subst (λ (s : State). places_used s quota ≤ places_used state quota) (expired_at_once state h.ids.orders.in_order) (each_lowers (due_orders state.moment state.lists) state stands (due_unpaid state h.ids.orders.in_order) h)

  drops_lower : (ids : List ℕ) (state : State) → places_used (without_carts ids state) quota ≤ places_used state quota
  drops_lower [] state = omega arith
  drops_lower (id ∷ ids) state = omega (arith, drop_cart_lowers state.lists state.moment id quota, drops_lower ids (change_applied (DropCart id) state))

  pub dropped_carts_lower : (state : State) → AreInOrder (λ c. c.id) state.lists.carts → places_used (carts_dropped state) quota ≤ places_used state quota
  dropped_carts_lower state order = subst (λ (s : State). places_used s quota ≤ places_used state quota) (dropped_at_once state order) (drops_lower (dead_carts state.moment state.lists) state)
