-- What is known where somebody joined.
use Rattle.std.proofs.Common.{◌≡◌, ℕ, ◌+◌, Bool, true, false, Option, None, Result, Ok, Err, refl, sym, ap, ◌∙◌, subst}
use Rattle.base_values.proofs.Decided.{gave_below, gave_it, passed, unrefused}
use Rattle.model_catalogue.specs.declared.rows.Product.{Product}
use Rattle.model_catalogue.specs.declared.rows.Quota.{Quota}
use Rattle.model_catalogue.specs.CatalogueLists.{product_of, is_active}
use Rattle.model_rows.specs.declared.rows.Waiting.{Waiting}
use Rattle.model_rows.specs.Full.{takes_waiting}
use Rattle.model_rows.specs.Lists.{State}
use Rattle.model_rows.specs.Numbered.{with_waiting}
use Rattle.model_rows.specs.Takes.{places_used}
use Rattle.model_invariant.specs.Limits.{IsLimitedWaiting}
use Rattle.model_invariant.specs.Sound.{IsSound}
use Rattle.model_invariant.proofs.Numbered.{takes_it}
use Rattle.model_invariant.proofs.Products.{product_is}
use Rattle.model_invariant.proofs.SoundWaiting.{sound_waiting}
use Rattle.model_commands.specs.FitRequests.{IsFitWaiting}
use Rattle.model_commands.specs.declared.waiting.NewWaiting.{NewWaiting}
use Rattle.model_commands.specs.declared.waiting.WaitingRefusal.{WaitingRefusal}
use Rattle.model_commands.specs.declared.waiting.WaitingRefusal.TheVariants.{Catalogue}
use Rattle.model_rows.specs.Waits.{is_waiting}
use Rattle.decide_waiting.specs.Joined.{waiting_row, entry_joined}
use Rattle.decide_waiting.specs.Places.{is_open}
use Rattle.decide_waiting.specs.Sending.{place_in}
use Rattle.decide_waiting.proofs.WaitingUsage.{put_new}

-- the product, the tests that it passed, the row, and the box office with it
pub record IsJoined (new : NewWaiting) (before after : State) (row : Waiting) : Type 0 where
  pub product : Product
  pub asked : product_of new.item new.variation before.lists.catalogue ≡ Ok product
  pub active : is_active product before.lists.catalogue ≡ true
  pub once : is_waiting new.email product before.lists ≡ false
  pub closed : is_open before product ≡ false
  pub takes : takes_waiting before ≡ true
  pub is_row : waiting_row new before product ≡ row
  pub is_after : with_waiting row before ≡ after

module _ (new : NewWaiting) (before after : State) (row : Waiting) where
  abbrev Gives : Result (State × Waiting) WaitingRefusal → Type 0
  Gives result = result ≡ Ok (after, row)

  pub joined_is : Gives (entry_joined new before) → IsJoined new before after row
  unfolding entry_joined
  joined_is h =
      let (product, asked, h1) = gave_below Catalogue (product_of new.item new.variation before.lists.catalogue) _ h in
      let (active, h2) = passed (is_active product before.lists.catalogue) _ _ h1 in
      let (once, h3) = unrefused (is_waiting new.email product before.lists) _ _ h2 in
      let (closed, h4) = unrefused (is_open before product) _ _ h3 in
      let (takes, h5) = passed (takes_waiting before) _ _ h4 in
      let same = gave_it (with_waiting (waiting_row new before product) before, waiting_row new before product) (after, row) h5 in
      let is_row = ap (λ (x : State × Waiting). x.1) same in
      record {
        product = product;
        asked = asked;
        active = active;
        once = once;
        closed = closed;
        takes = takes;
        is_row = is_row;
        is_after = ap (λ (r : Waiting). with_waiting r before) (sym is_row) ∙ ap (λ (x : State × Waiting). x.0) same;
      }

  pub joined_id : IsJoined new before after row → row.id ≡ before.next.waiting
  joined_id j = sym (ap (λ (r : Waiting). r.id) j.is_row)

  pub joined_moment : Gives (entry_joined new before) → after.moment ≡ before.moment
  joined_moment h = sym (ap (λ (s : State). s.moment) (joined_is h).is_after)

  -- one more waits
  pub joined_takes_one : (quota : Quota) → IsSound before → Gives (entry_joined new before) → places_used after quota ≡ places_used before quota + place_in quota row.product
  joined_takes_one quota sound h =
      let j = joined_is h in
      let waits : row.voucher ≡ None = sym (ap (λ (r : Waiting). r.voucher) j.is_row) in
      subst (λ (s : State). places_used s quota ≡ places_used before quota + place_in quota row.product) j.is_after (put_new before row (joined_id j) waits quota sound)

  -- the box office stays sound
  pub joined_sound : IsFitWaiting new → IsSound before → Gives (entry_joined new before) → IsSound after
  joined_sound fit sound h =
      let j = joined_is h in
      let limits : IsLimitedWaiting (waiting_row new before j.product) = record { email = fit.email; priority = fit.priority; created = sound.range.moment } in
      let product = product_is before.lists.catalogue sound.varied j.product new.item new.variation j.asked in
      subst IsSound j.is_after (subst (λ (r : Waiting). IsSound (with_waiting r before)) j.is_row (sound_waiting before (waiting_row new before j.product) refl (takes_it before.next.waiting before.lists.waiting j.takes) product refl limits sound))
