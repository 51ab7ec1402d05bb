-- What is known where a row of the catalogue was added or changed.
use Rattle.std.proofs.Common.{◌≡◌, ℕ, ◌+◌, ◌≤◌, Bool, true, false, List, [], ◌∷◌, Some, Ok, suc, refl, ap, arith}
use Rattle.std.specs.Prelude.{◌&&◌, length, nat_lt, nat_le}
use Rattle.std.proofs.lemmas.Bool.Decides.{nat_tests}
use Rattle.base_values.proofs.Decided.{gave_it, gave_unit, found, passed}
use Rattle.model_catalogue.specs.declared.rows.Item.{Item}
use Rattle.model_catalogue.specs.declared.rows.ItemRows.{ItemRows}
use Rattle.model_catalogue.specs.declared.rows.PricedVariation.{PricedVariation}
use Rattle.model_catalogue.specs.declared.rows.Quota.{Quota}
use Rattle.model_catalogue.specs.declared.requests.ItemPatch.{ItemPatch}
use Rattle.model_catalogue.specs.declared.requests.NewItem.{NewItem}
use Rattle.model_catalogue.specs.declared.requests.NewQuota.{NewQuota}
use Rattle.model_catalogue.specs.declared.requests.NewVariation.{NewVariation}
use Rattle.model_catalogue.specs.declared.requests.QuotaPatch.{QuotaPatch}
use Rattle.model_catalogue.specs.CatalogueLists.{CatalogueLists, item_at, quota_at}
use Rattle.model_catalogue.specs.Limits.{takes_row, takes_rows, most_rows, last_id}
use Rattle.model_catalogue.specs.ItemAdded.{variation_rows, item_rows, item_added}
use Rattle.model_catalogue.specs.ItemChanged.{patched_item, item_changed}
use Rattle.model_catalogue.specs.VariationAdded.{variation_row, priced_variation, variation_added}
use Rattle.model_catalogue.specs.Resized.{patched_quota, quota_resized}
use Rattle.model_catalogue.specs.QuotaAdded.{quota_row, quota_added, quota_test, items_stand, variations_stand, variations_fit, items_fit}

-- a row that a table takes has an id in range
pub taken_id_small : {T : Type 0} (id : ℕ) (rows : List T) → takes_row id rows ≡ true → id ≤ last_id
taken_id_small id rows h = by_tests (nat_lt (length rows) most_rows) (nat_le id last_id) refl h
  where
    by_tests : (few small : Bool) → nat_le id last_id ≡ small → (few && small) ≡ true → id ≤ last_id
    by_tests true true is h = grind (arith, nat_tests)
    by_tests true false is h = absurd (cc)
    by_tests false true is h = absurd (cc)
    by_tests false false is h = absurd (cc)

-- the new rows, and the room for them
pub record IsItemAdded (new : NewItem) (id first : ℕ) (lists : CatalogueLists) (rows : ItemRows) : Type 0 where
  pub has_room : (takes_row id lists.items && takes_rows (length new.variations) first lists.variations) ≡ true
  pub is_rows : item_rows new id first ≡ rows

module _ (new : NewItem) (id first : ℕ) (lists : CatalogueLists) (rows : ItemRows) where
  pub item_added_is : item_added new id first lists ≡ Ok rows → IsItemAdded new id first lists rows
  unfolding item_added
  item_added_is h =
      let (room, h1) = passed _ _ _ h in
      record { has_room = room; is_rows = gave_it (item_rows new id first) rows h1 }

-- the tests that it passed
pub record IsQuotaAdded (new : NewQuota) (id : ℕ) (lists : CatalogueLists) (row : Quota) : Type 0 where
  pub items : items_stand (quota_row new id) lists ≡ true
  pub variations : variations_stand (quota_row new id) lists ≡ true
  pub fit : (variations_fit (quota_row new id) lists && items_fit (quota_row new id) lists) ≡ true
  pub has_room : takes_row id lists.quotas ≡ true
  pub is_row : quota_row new id ≡ row

module _ (new : NewQuota) (id : ℕ) (lists : CatalogueLists) (row : Quota) where
  pub quota_added_is : quota_added new id lists ≡ Ok row → IsQuotaAdded new id lists row
  unfolding quota_added quota_test
  quota_added_is h =
      let (tested, h1) = gave_unit (quota_test (quota_row new id) lists) (Ok (quota_row new id)) h in
      let (items, t1) = passed _ _ _ tested in
      let (variations, t2) = passed _ _ _ t1 in
      let (fit, t3) = passed _ _ _ t2 in
      let (room, t4) = passed _ _ _ t3 in
      record { items = items; variations = variations; fit = fit; has_room = room; is_row = gave_it (quota_row new id) row h1 }

-- ids that a table takes are in range
pub taken_ids_small : {T : Type 0} (count id : ℕ) (rows : List T) → takes_rows count id rows ≡ true → id + count ≤ last_id + 1
taken_ids_small count id rows h = by_tests (nat_le (length rows + count) most_rows) (nat_le (id + count) (last_id + 1)) refl h
  where
    by_tests : (few small : Bool) → nat_le (id + count) (last_id + 1) ≡ small → (few && small) ≡ true → id + count ≤ last_id + 1
    by_tests true true is h = grind (arith, nat_tests)
    by_tests true false is h = absurd (cc)
    by_tests false true is h = absurd (cc)
    by_tests false false is h = absurd (cc)

-- each new variation has a row
pub variation_rows-length : (new : List NewVariation) (item first : ℕ) → length (variation_rows new item first) ≡ length new
variation_rows-length [] item first = refl
variation_rows-length (v ∷ vs) item first = ap suc (variation_rows-length vs item (first + 1))

-- the item as it was, and as it is
pub record IsItemChanged (id : ℕ) (patch : ItemPatch) (lists : CatalogueLists) (row : Item) : Type 0 where
  pub old : Item
  pub stood : item_at id lists ≡ Some old
  pub is_row : patched_item patch old ≡ row

pub item_changed_is : (id : ℕ) (patch : ItemPatch) (lists : CatalogueLists) (row : Item) → item_changed id patch lists ≡ Ok row → IsItemChanged id patch lists row
item_changed_is id patch lists row h =
    let (old, stood, h1) = found _ _ _ h in
    record { old = old; stood = stood; is_row = gave_it (patched_item patch old) row h1 }

-- the quota as it was, and as it is
pub record IsResized (id : ℕ) (patch : QuotaPatch) (lists : CatalogueLists) (row : Quota) : Type 0 where
  pub old : Quota
  pub stood : quota_at id lists ≡ Some old
  pub is_row : patched_quota patch old ≡ row

pub resized_is : (id : ℕ) (patch : QuotaPatch) (lists : CatalogueLists) (row : Quota) → quota_resized id patch lists ≡ Ok row → IsResized id patch lists row
resized_is id patch lists row h =
    let (old, stood, h1) = found _ _ _ h in
    record { old = old; stood = stood; is_row = gave_it (patched_quota patch old) row h1 }

-- the item, which is sold by variation, the room for one more, and its row
pub record IsVariationAdded (item : ℕ) (new : NewVariation) (id : ℕ) (lists : CatalogueLists) (made : PricedVariation) : Type 0 where
  pub of : Item
  pub stood : item_at item lists ≡ Some of
  pub varied : of.varied ≡ true
  pub has_room : takes_row id lists.variations ≡ true
  pub is_made : priced_variation of (variation_row new of.id id) ≡ made

pub variation_added_is : (item : ℕ) (new : NewVariation) (id : ℕ) (lists : CatalogueLists) (made : PricedVariation) → variation_added item new id lists ≡ Ok made → IsVariationAdded item new id lists made
unfolding variation_added
variation_added_is item new id lists made h =
    let (of, stood, h1) = found _ _ _ h in
    let (varied, h2) = passed _ _ _ h1 in
    let (room, h3) = passed _ _ _ h2 in
    record { of = of; stood = stood; varied = varied; has_room = room; is_made = gave_it (priced_variation of (variation_row new of.id id)) made h3 }
