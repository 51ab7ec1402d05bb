-- What is known where an entry was changed, and where one left.
use Rattle.std.proofs.Common.{◌≡◌, ℕ, ◌≤◌, Bool, true, false, Option, Some, None, Result, Ok, Err, refl, sym, ap, ◌∙◌, subst}
use Rattle.base_values.proofs.Decided.{found, gave_it, passed}
use Rattle.model_catalogue.specs.declared.rows.Product.{Product}
use Rattle.model_catalogue.specs.declared.rows.Quota.{Quota}
use Rattle.model_rows.specs.declared.rows.Waiting.{Waiting}
use Rattle.model_rows.specs.declared.changes.Change.TheVariants.{PutWaiting, DropWaiting}
use Rattle.model_rows.specs.Change.{change_applied}
use Rattle.model_rows.specs.Lists.{State, waiting_at}
use Rattle.model_rows.specs.Takes.{places_used}
use Rattle.model_rows.specs.Usage.{has_none}
use Rattle.model_rows.proofs.EachRow.{all-row_at, key-row_at}
use Rattle.base_values.specs.Counts.{IsPriority}
use Rattle.model_invariant.specs.Limits.{IsLimitedWaiting}
use Rattle.model_invariant.specs.Sent.{voucher_stands}
use Rattle.model_invariant.specs.Sound.{IsSound}
use Rattle.model_invariant.specs.Varied.{IsProduct}
use Rattle.model_invariant.proofs.SoundWaiting.{sound_changed_waiting, sound_drop_waiting}
use Rattle.model_commands.specs.FitRequests.{IsFitWaitingPatch}
use Rattle.model_commands.specs.declared.waiting.WaitingPatch.{WaitingPatch}
use Rattle.model_commands.specs.declared.waiting.WaitingRefusal.{WaitingRefusal}
use Rattle.model_invariant.proofs.Given.{given_or}
use Rattle.decide_waiting.specs.Changed.{changed_entry, entry_changed}
use Rattle.decide_waiting.specs.Left.{entry_left}
use Rattle.decide_waiting.proofs.WaitingUsage.{put_alike, drop_lowers}

-- the entry of an id stands under its own
pub own_place : (id : ℕ) (state : State) (old : Waiting) → waiting_at id state.lists ≡ Some old → waiting_at old.id state.lists ≡ Some old
own_place id state old e = ap (λ (n : ℕ). waiting_at n state.lists) (key-row_at (λ (r : Waiting). r.id) id state.lists.waiting old e) ∙ e

-- the entry as it waited, and as it is afterwards
pub record IsChanged (id : ℕ) (patch : WaitingPatch) (before after : State) (row : Waiting) : Type 0 where
  pub old : Waiting
  pub stood : waiting_at id before.lists ≡ Some old
  pub waits : has_none old.voucher ≡ true
  pub is_row : changed_entry patch old ≡ row
  pub is_after : change_applied (PutWaiting row) before ≡ after

module _ (id : ℕ) (patch : WaitingPatch) (before after : State) (row : Waiting) where
  abbrev Gives : Result (State × Waiting) WaitingRefusal → Type 0
  Gives result = result ≡ Ok (after, row)

  pub changed_is : Gives (entry_changed id patch before) → IsChanged id patch before after row
  unfolding entry_changed
  changed_is h =
      let (old, stood, h1) = found (waiting_at id before.lists) _ _ h in
      let (waits, h2) = passed (has_none old.voucher) _ _ h1 in
      let same = gave_it (change_applied (PutWaiting (changed_entry patch old)) before, changed_entry patch old) (after, row) h2 in
      let is_row = ap (λ (x : State × Waiting). x.1) same in
      record {
        old = old;
        stood = stood;
        waits = waits;
        is_row = is_row;
        is_after = ap (λ (r : Waiting). change_applied (PutWaiting r) before) (sym is_row) ∙ ap (λ (x : State × Waiting). x.0) same;
      }

  pub changed_moment : Gives (entry_changed id patch before) → after.moment ≡ before.moment
  changed_moment h = sym (ap (λ (s : State). s.moment) (changed_is h).is_after)

  -- it stood under the id that it has
  pub changed_stood : (c : IsChanged id patch before after row) → waiting_at row.id before.lists ≡ Some c.old
  changed_stood c = ap (λ (r : Waiting). waiting_at r.id before.lists) (sym c.is_row) ∙ own_place id before c.old c.stood

  pub changed_keeps_used : (quota : Quota) → IsSound before → Gives (entry_changed id patch before) → places_used after quota ≡ places_used before quota
  changed_keeps_used quota sound h =
      let c = changed_is h in
      let voucher : row.voucher ≡ c.old.voucher = sym (ap (λ (r : Waiting). r.voucher) c.is_row) in
      let product : row.product ≡ c.old.product = sym (ap (λ (r : Waiting). r.product) c.is_row) in
      subst (λ (s : State). places_used s quota ≡ places_used before quota) c.is_after (put_alike before row c.old (changed_stood c) voucher product quota sound)

  pub changed_sound : IsFitWaitingPatch patch → IsSound before → Gives (entry_changed id patch before) → IsSound after
  changed_sound fit sound h =
      let c = changed_is h in
      let product = all-row_at (λ (r : Waiting). r.id) (λ w. IsProduct before.lists.catalogue w.product) id before.lists.waiting c.old c.stood sound.products.waiting in
      let voucher = all-row_at (λ (r : Waiting). r.id) (λ w. voucher_stands before.lists.vouchers w.voucher ≡ true) id before.lists.waiting c.old c.stood sound.sent in
      let was = all-row_at (λ (r : Waiting). r.id) IsLimitedWaiting id before.lists.waiting c.old c.stood sound.limits.waiting in
      let limits : IsLimitedWaiting (changed_entry patch c.old) = record { email = was.email; priority = given_or IsPriority patch.priority c.old.priority fit.priority was.priority; created = was.created } in
      subst IsSound c.is_after (subst (λ (r : Waiting). IsSound (change_applied (PutWaiting r) before)) c.is_row (sound_changed_waiting before (changed_entry patch c.old) c.old (own_place id before c.old c.stood) product voucher limits sound))

-- the entry waited, and the box office is without it
pub record IsLeft (id : ℕ) (before after : State) : Type 0 where
  pub old : Waiting
  pub stood : waiting_at id before.lists ≡ Some old
  pub waits : has_none old.voucher ≡ true
  pub is_after : change_applied (DropWaiting id) before ≡ after

module _ (id : ℕ) (before after : State) where
  abbrev Leaves : Result State WaitingRefusal → Type 0
  Leaves result = result ≡ Ok after

  pub left_is : Leaves (entry_left id before) → IsLeft id before after
  unfolding entry_left
  left_is h =
      let (old, stood, h1) = found (waiting_at id before.lists) _ _ h in
      let (waits, h2) = passed (has_none old.voucher) _ _ h1 in
      record { old = old; stood = stood; waits = waits; is_after = gave_it (change_applied (DropWaiting id) before) after h2 }

  pub left_moment : Leaves (entry_left id before) → after.moment ≡ before.moment
  left_moment h = sym (ap (λ (s : State). s.moment) (left_is h).is_after)

  pub left_lowers : (quota : Quota) → IsSound before → Leaves (entry_left id before) → places_used after quota ≤ places_used before quota
  left_lowers quota sound h = subst (λ (s : State). places_used s quota ≤ places_used before quota) (left_is h).is_after (drop_lowers before id quota sound)

  pub left_sound : IsSound before → Leaves (entry_left id before) → IsSound after
  left_sound sound h = subst IsSound (left_is h).is_after (sound_drop_waiting before id sound)
