-- What is known where a check-in list was added.
use Rattle.std.proofs.Common.{◌≡◌, ℕ, Bool, true, false, List, [], ◌∷◌, Result, Ok, refl, sym, ap, ◌∙◌, subst}
use Rattle.std.specs.Prelude.{◌&&◌, is_some}
use Rattle.std.specs.List.{list_all, AllByRecursion}
use Rattle.base_values.proofs.Decided.{gave_it, passed}
use Rattle.base_tables.proofs.RisingLemmas.{rising_in_order}
use Rattle.model_catalogue.specs.declared.rows.Quota.{Quota}
use Rattle.model_catalogue.specs.CatalogueLists.{CatalogueLists, item_at}
use Rattle.model_rows.specs.declared.rows.CheckinList.{CheckinList}
use Rattle.model_rows.specs.declared.changes.Change.TheVariants.{PutCheckinList}
use Rattle.model_rows.specs.Lists.{State}
use Rattle.model_rows.specs.Full.{takes_checkin_list}
use Rattle.model_rows.specs.Numbered.{with_checkin_list}
use Rattle.model_rows.specs.Takes.{places_used}
use Rattle.model_rows.specs.Total.{total}
use Rattle.model_rows.proofs.Lowers.{checkin_list_apart}
use Rattle.model_invariant.specs.Checkins.{has_item, HasItems}
use Rattle.model_invariant.specs.Changes.{LeadTo}
use Rattle.model_invariant.specs.Limits.{IsLimitedCheckinList}
use Rattle.model_invariant.specs.Sound.{IsSound}
use Rattle.model_invariant.proofs.Changes.{leads_one}
use Rattle.model_invariant.proofs.Numbered.{takes_it}
use Rattle.model_commands.specs.FitRequests.{IsFitCheckinList}
use Rattle.model_commands.specs.declared.doors.NewCheckinList.{NewCheckinList}
use Rattle.model_commands.specs.declared.doors.DoorRefusal.{DoorRefusal}
use Rattle.decide_door.specs.ListAdded.{list_row, items_stand, list_added}
use Rattle.model_invariant.proofs.SoundDoors.{sound_checkin_list}

-- an item of each of these ids stands
stand_each : (lists : CatalogueLists) (ids : List ℕ) → list_all (λ id. is_some (item_at id lists)) ids ≡ true → AllByRecursion (λ id. has_item lists.items id ≡ true) ids
stand_each lists [] h = tt
stand_each lists (id ∷ ids) h = by_first (is_some (item_at id lists)) refl h (stand_each lists ids)
  where
    by_first : (b : Bool) → is_some (item_at id lists) ≡ b → (b && list_all (λ n. is_some (item_at n lists)) ids) ≡ true → (list_all (λ n. is_some (item_at n lists)) ids ≡ true → AllByRecursion (λ n. has_item lists.items n ≡ true) ids) → AllByRecursion (λ n. has_item lists.items n ≡ true) (id ∷ ids)
    by_first true e h more = (e, more h)
    by_first false e h more = absurd (cc (h))

-- its items stand, the table took it, and the box office is the one with it
pub record IsAdded (new : NewCheckinList) (before after : State) (row : CheckinList) : Type 0 where
  pub is_row : list_row new before.next.list ≡ row
  pub stand : items_stand row.limit_products before.lists.catalogue ≡ true
  pub takes : takes_checkin_list before ≡ true
  pub is_after : with_checkin_list row before ≡ after

module _ (new : NewCheckinList) (before after : State) (row : CheckinList) where
  abbrev Gives : Result (State × CheckinList) DoorRefusal → Type 0
  Gives result = result ≡ Ok (after, row)

  abbrev asked : CheckinList
  asked = list_row new before.next.list

  pub added_is : Gives (list_added new before) → IsAdded new before after row
  unfolding list_added
  added_is h =
      let (stand, h1) = passed (items_stand asked.limit_products before.lists.catalogue) _ _ h in
      let (takes, h2) = passed (takes_checkin_list before) _ _ h1 in
      let same = gave_it (with_checkin_list asked before, asked) (after, row) h2 in
      let is_row : asked ≡ row = ap (λ (x : State × CheckinList). x.1) same in
      record {
        is_row = is_row;
        stand = subst (λ (r : CheckinList). items_stand r.limit_products before.lists.catalogue ≡ true) is_row stand;
        takes = takes;
        is_after = ap (λ (r : CheckinList). with_checkin_list r before) (sym is_row) ∙ ap (λ (x : State × CheckinList). x.0) same;
      }

  pub added_id : Gives (list_added new before) → row.id ≡ before.next.list
  added_id h = sym (ap (λ (r : CheckinList). r.id) (added_is h).is_row)

  pub added_moment : Gives (list_added new before) → after.moment ≡ before.moment
  added_moment h = sym (ap (λ (s : State). s.moment) (added_is h).is_after)

  -- its items rise and stand
  pub added_items : Gives (list_added new before) → HasItems before.lists.catalogue.items row
  unfolding items_stand
  added_items h =
      let a = added_is h in
      let rise = rising_in_order new.limit_products in
      subst (HasItems before.lists.catalogue.items) a.is_row (record {
        rise = rise;
        stand = stand_each before.lists.catalogue asked.limit_products (subst (λ (r : CheckinList). list_all (λ id. is_some (item_at id before.lists.catalogue)) r.limit_products ≡ true) (sym a.is_row) a.stand);
      })

  -- no quota is used otherwise
  pub added_used : (quota : Quota) → Gives (list_added new before) → places_used after quota ≡ places_used before quota
  added_used quota h = ap (λ (s : State). places_used s quota) (sym (added_is h).is_after) ∙ ap total (checkin_list_apart row before.lists before.moment quota)

  -- the box office stays sound
  pub added_sound : IsFitCheckinList new → IsSound before → Gives (list_added new before) → IsSound after
  added_sound fit sound h =
      let a = added_is h in
      let limits : IsLimitedCheckinList row = subst IsLimitedCheckinList a.is_row (record { name = fit.name }) in
      subst IsSound a.is_after (sound_checkin_list before row (added_id h) (takes_it before.next.list before.lists.checkin_lists a.takes) (added_items h) limits sound)

  -- its change can be made at once, and leads there
  pub added_leads : IsFitCheckinList new → IsSound before → Gives (list_added new before) → LeadTo (PutCheckinList row ∷ []) before.lists after.lists
  added_leads fit sound h = leads_one (PutCheckinList row) before after (ap (λ (s : State). s.lists) (added_is h).is_after) (added_sound fit sound h)
