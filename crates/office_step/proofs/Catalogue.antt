-- What is known of commands on the catalogue.
use Rattle.std.proofs.Common.{◌≡◌, ℕ, ◌+◌, ◌≤◌, Bool, true, false, List, [], ◌∷◌, Ok, refl, sym, ap, ◌∙◌, subst}
use Rattle.std.specs.Prelude.{◌&&◌, length, IfSome}
use Rattle.std.specs.List.{AllByRecursion}
use Rattle.base_values.specs.Counts.{IsSize}
use Rattle.base_values.specs.Money.{IsMoney}
use Rattle.base_values.specs.Texts.{IsText}
use Rattle.model_catalogue.specs.declared.rows.Item.{Item}
use Rattle.model_catalogue.specs.declared.rows.ItemRows.{ItemRows}
use Rattle.model_catalogue.specs.declared.rows.PricedVariation.{PricedVariation}
use Rattle.model_catalogue.specs.declared.rows.Quota.{Quota}
use Rattle.model_catalogue.specs.declared.requests.ItemPatch.{ItemPatch}
use Rattle.model_catalogue.specs.declared.requests.NewItem.{NewItem}
use Rattle.model_catalogue.specs.declared.requests.NewQuota.{NewQuota}
use Rattle.model_catalogue.specs.declared.requests.NewVariation.{NewVariation}
use Rattle.model_catalogue.specs.declared.requests.QuotaPatch.{QuotaPatch}
use Rattle.model_catalogue.specs.FitRequests.{IsFitItem, IsFitItemPatch, IsFitVariation, IsFitQuota, IsFitQuotaPatch}
use Rattle.model_catalogue.specs.CatalogueLists.{CatalogueLists, item_at, quota_at}
use Rattle.model_catalogue.specs.Limits.{last_id, takes_row, takes_rows}
use Rattle.model_catalogue.specs.ItemAdded.{variation_rows, item_rows, item_added}
use Rattle.model_catalogue.specs.ItemChanged.{patched_item, item_changed}
use Rattle.model_catalogue.specs.VariationAdded.{variation_added}
use Rattle.model_catalogue.specs.QuotaAdded.{quota_added}
use Rattle.model_catalogue.specs.Resized.{patched_quota, quota_resized}
use Rattle.model_catalogue.proofs.Added.{taken_id_small, taken_ids_small, variation_rows-length, item_added_is, item_changed_is, variation_added_is, quota_added_is, resized_is}
use Rattle.model_rows.specs.declared.changes.Change.TheVariants.{PutItem, PutQuota}
use Rattle.model_rows.specs.Change.{change_applied}
use Rattle.model_rows.specs.Lists.{State}
use Rattle.model_rows.specs.Numbered.{with_item, with_variation, with_quota}
use Rattle.model_invariant.specs.Limits.{IsLimitedItem, IsLimitedVariation, IsLimitedQuota}
use Rattle.model_invariant.specs.Sound.{IsSound}
use Rattle.model_invariant.specs.Varied.{sold_as, is_sold_as, is_of_varied}
use Rattle.model_rows.proofs.EachRow.{all-row_at, key-row_at}
use Rattle.model_invariant.proofs.Sound.{sound_item, variation_rows_count, sound_changed_item, sound_variation, sound_quota, sound_resized}
use Rattle.model_invariant.proofs.Numbered.{TakesSome, takes_it, takes_them}
use Rattle.model_invariant.proofs.Varied.{made_of_it}
use Rattle.model_invariant.proofs.Given.{given_or}
use Rattle.office_step.proofs.Members.{added_members}

and_first : (a b : Bool) → (a && b) ≡ true → a ≡ true
and_first true b h = refl
and_first false b h = absurd (cc)

and_second : (a b : Bool) → (a && b) ≡ true → b ≡ true
and_second true b h = h
and_second false b h = absurd (cc)

-- the ids of new rows are in range
module _ (new : NewItem) (id first : ℕ) (lists : CatalogueLists) (rows : ItemRows) where
  pub item_id_small : item_added new id first lists ≡ Ok rows → id ≤ last_id
  item_id_small h =
      let a = item_added_is new id first lists rows h in
      taken_id_small id lists.items (and_first (takes_row id lists.items) (takes_rows (length new.variations) first lists.variations) a.has_room)

  pub variation_ids_small : item_added new id first lists ≡ Ok rows → first + length rows.variations ≤ last_id + 1
  variation_ids_small h =
      let a = item_added_is new id first lists rows h in
      let count : length new.variations ≡ length rows.variations = sym (variation_rows-length new.variations id first) ∙ ap (λ (r : ItemRows). length r.variations) a.is_rows in
      let small = taken_ids_small (length new.variations) first lists.variations (and_second (takes_row id lists.items) (takes_rows (length new.variations) first lists.variations) a.has_room) in
      subst (λ (n : ℕ). first + n ≤ last_id + 1) count small

pub variation_id_small : (item : ℕ) (new : NewVariation) (id : ℕ) (lists : CatalogueLists) (made : PricedVariation) → variation_added item new id lists ≡ Ok made → id ≤ last_id
variation_id_small item new id lists made h = taken_id_small id lists.variations (variation_added_is item new id lists made h).has_room

pub quota_id_small : (new : NewQuota) (id : ℕ) (lists : CatalogueLists) (row : Quota) → quota_added new id lists ≡ Ok row → id ≤ last_id
quota_id_small new id lists row h = taken_id_small id lists.quotas (quota_added_is new id lists row h).has_room

-- the rows of new variations are within their limits
rows_limited : (new : List NewVariation) (item first : ℕ) → AllByRecursion IsFitVariation new → AllByRecursion IsLimitedVariation (variation_rows new item first)
rows_limited [] item first fit = tt
rows_limited (variation ∷ variations) item first fit = (record { name = fit.0.name; price = fit.0.price }, rows_limited variations item (first + 1) fit.1)

-- each of them leads from sound to sound
pub item_sound : (new : NewItem) (state : State) (rows : ItemRows) → item_added new state.next.item state.next.variation state.lists.catalogue ≡ Ok rows → IsFitItem new → IsSound state → IsSound (with_item rows state)
item_sound new state rows h fit sound =
    let a = item_added_is new state.next.item state.next.variation state.lists.catalogue rows h in
    let made = item_rows new state.next.item state.next.variation in
    let one = takes_it state.next.item state.lists.catalogue.items (and_first (takes_row state.next.item state.lists.catalogue.items) (takes_rows (length new.variations) state.next.variation state.lists.catalogue.variations) a.has_room) in
    let some = takes_them (length new.variations) state.next.variation state.lists.catalogue.variations (and_second (takes_row state.next.item state.lists.catalogue.items) (takes_rows (length new.variations) state.next.variation state.lists.catalogue.variations) a.has_room) in
    let all = subst (λ (n : ℕ). TakesSome n state.next.variation state.lists.catalogue.variations) (sym (variation_rows-length new.variations state.next.item state.next.variation)) some in
    subst (λ (r : ItemRows). IsSound (with_item r state)) a.is_rows (sound_item state made refl one all (variation_rows_count new.variations state.next.item state.next.variation) (made_of_it new.variations state.next.item state.next.variation) (record { name = fit.name; price = fit.price }) (rows_limited new.variations state.next.item state.next.variation fit.variations) sound)

pub item_change_sound : (id : ℕ) (patch : ItemPatch) (state : State) (row : Item) → item_changed id patch state.lists.catalogue ≡ Ok row → IsFitItemPatch patch → IsSound state → IsSound (change_applied (PutItem row) state)
item_change_sound id patch state row h fit sound =
    let c = item_changed_is id patch state.lists.catalogue row h in
    let own : row.id ≡ id = sym (ap (λ (r : Item). r.id) c.is_row) ∙ key-row_at (λ (r : Item). r.id) id state.lists.catalogue.items c.old c.stood in
    let was = all-row_at (λ (r : Item). r.id) IsLimitedItem id state.lists.catalogue.items c.old c.stood sound.limits.items in
    let limits : IsLimitedItem (patched_item patch c.old) = record { name = given_or IsText patch.name c.old.name fit.name was.name; price = given_or IsMoney patch.default_price c.old.default_price fit.price was.price } in
    sound_changed_item state row c.old (ap (λ (n : ℕ). item_at n state.lists.catalogue) own ∙ c.stood) (sym (ap (λ (r : Item). r.varied) c.is_row)) (subst IsLimitedItem c.is_row limits) sound

pub variation_sound : (item : ℕ) (new : NewVariation) (state : State) (made : PricedVariation) → variation_added item new state.next.variation state.lists.catalogue ≡ Ok made → IsFitVariation new → IsSound state → IsSound (with_variation made.row state)
variation_sound item new state made h fit sound =
    let a = variation_added_is item new state.next.variation state.lists.catalogue made h in
    let own : made.row.item ≡ item = sym (ap (λ (m : PricedVariation). m.row.item) a.is_made) ∙ key-row_at (λ (r : Item). r.id) item state.lists.catalogue.items a.of a.stood in
    let of_varied : is_of_varied state.lists.catalogue.items made.row ≡ true = ap (λ (n : ℕ). is_sold_as (λ varied. varied) n state.lists.catalogue.items) own ∙ (ap (sold_as (λ varied. varied)) a.stood ∙ a.varied) in
    sound_variation state made.row (sym (ap (λ (m : PricedVariation). m.row.id) a.is_made)) (takes_it state.next.variation state.lists.catalogue.variations a.has_room) of_varied (subst (λ (m : PricedVariation). IsLimitedVariation m.row) a.is_made (record { name = fit.name; price = fit.price })) sound

pub quota_sound : (new : NewQuota) (state : State) (row : Quota) → quota_added new state.next.quota state.lists.catalogue ≡ Ok row → IsFitQuota new → IsSound state → IsSound (with_quota row state)
quota_sound new state row h fit sound =
    let a = quota_added_is new state.next.quota state.lists.catalogue row h in
    sound_quota state row (sym (ap (λ (r : Quota). r.id) a.is_row)) (takes_it state.next.quota state.lists.catalogue.quotas a.has_room) (added_members new state.next.quota state.lists.catalogue row h) (subst IsLimitedQuota a.is_row (record { name = fit.name; size = fit.size })) sound

pub resize_sound : (id : ℕ) (patch : QuotaPatch) (state : State) (row : Quota) → quota_resized id patch state.lists.catalogue ≡ Ok row → IsFitQuotaPatch patch → IsSound state → IsSound (change_applied (PutQuota row) state)
resize_sound id patch state row h fit sound =
    let c = resized_is id patch state.lists.catalogue row h in
    let own : row.id ≡ id = sym (ap (λ (r : Quota). r.id) c.is_row) ∙ key-row_at (λ (r : Quota). r.id) id state.lists.catalogue.quotas c.old c.stood in
    let was = all-row_at (λ (r : Quota). r.id) IsLimitedQuota id state.lists.catalogue.quotas c.old c.stood sound.limits.quotas in
    let limits : IsLimitedQuota (patched_quota patch c.old) = record { name = was.name; size = given_or (λ size. IfSome size IsSize) patch.size c.old.size fit.size was.size } in
    sound_resized state row c.old (ap (λ (n : ℕ). quota_at n state.lists.catalogue) own ∙ c.stood) (sym (ap (λ (r : Quota). r.items) c.is_row)) (sym (ap (λ (r : Quota). r.variations) c.is_row)) (subst IsLimitedQuota c.is_row limits) sound
