-- What is known where a cart position was deleted.
use Rattle.std.proofs.Common.{◌≡◌, ℕ, ◌≤◌, Option, Some, None, Ok, sym, ap, subst}
use Rattle.base_values.proofs.Decided.{found, gave_it}
use Rattle.model_catalogue.specs.declared.rows.Quota.{Quota}
use Rattle.model_rows.specs.declared.changes.Change.TheVariants.{DropCart}
use Rattle.model_rows.specs.Lists.{State, cart_at}
use Rattle.model_rows.specs.Change.{change_applied}
use Rattle.model_invariant.specs.Sound.{IsSound}
use Rattle.model_rows.specs.Takes.{places_used}
use Rattle.model_rows.proofs.Lowers.{drop_cart_lowers}
use Rattle.model_invariant.proofs.Sound.{sound_drop_cart}
use Rattle.decide_orders.specs.Dropped.{position_dropped}

module _ (id : ℕ) (before after : State) where
  pub dropped_is : position_dropped id before ≡ Ok after → change_applied (DropCart id) before ≡ after
  unfolding position_dropped
  dropped_is h =
      let (cart, stood, h1) = found (cart_at id before.lists) _ _ h in
      gave_it (change_applied (DropCart id) before) after h1

  pub dropped_moment : position_dropped id before ≡ Ok after → after.moment ≡ before.moment
  dropped_moment h = sym (ap (λ (s : State). s.moment) (dropped_is h))

  -- no quota is used more than before
  pub dropped_lowers : (quota : Quota) → position_dropped id before ≡ Ok after → places_used after quota ≤ places_used before quota
  dropped_lowers quota h = subst (λ (s : State). places_used s quota ≤ places_used before quota) (dropped_is h) (drop_cart_lowers before.lists before.moment id quota)

  -- the box office stays sound
  pub dropped_sound : IsSound before → position_dropped id before ≡ Ok after → IsSound after
  dropped_sound sound h = subst IsSound (dropped_is h) (sound_drop_cart before id sound)
