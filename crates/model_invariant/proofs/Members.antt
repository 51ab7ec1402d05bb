-- What keeps the members of quotas standing and fit together.
use Rattle.std.proofs.Common.{◌≡◌, ℕ, ◌≢◌, ◌⊎◌, inl, inr, Bool, true, false, not, eqb, cond, List, [], ◌∷◌, Option, Some, None, refl, sym, ap, ◌∙◌, subst}
use Rattle.std.specs.Prelude.{◌||◌, is_some}
use Rattle.std.specs.List.{list_all, cons_option}
use Rattle.std.proofs.lemmas.Bool.Decides.{eqb_tells}
use Rattle.base_tables.specs.Tables.{has, with_row, AreInOrder}
use Rattle.base_tables.proofs.Edits.{row_at-with_row}
use Rattle.model_catalogue.specs.declared.rows.Item.{Item}
use Rattle.model_catalogue.specs.declared.rows.Quota.{Quota}
use Rattle.model_catalogue.specs.declared.rows.Variation.{Variation}
use Rattle.model_catalogue.specs.CatalogueLists.{CatalogueLists, item_at, variation_at, quota_at}
use Rattle.model_catalogue.specs.QuotaAdded.{is_of_one, item_of, items_of, is_offered, items_stand, variations_stand, variations_fit, items_fit}
use Rattle.model_invariant.specs.Members.{HasMembers, AllHaveMembers}
use Rattle.model_invariant.specs.Varied.{sold_as, is_sold_as}
use Rattle.model_rows.proofs.EachRow.{all_weaker, all-with_row, all-row_at, key-row_at}
use Rattle.model_invariant.proofs.Stays.{passes_still, none_before, all_pass_still, first_passes, others_pass}

-- an item is put that is sold as the one in its place was
module _ (row : Item) (catalogue : CatalogueLists) (as_before : (test : Bool → Bool) → is_sold_as test row.id catalogue.items ≡ true → test row.varied ≡ true) where
  abbrev with_it : CatalogueLists
  with_it = record catalogue { items = with_row (λ r. r.id) row catalogue.items }

  offered_as : (its : List ℕ) (id : ℕ) (found : Option Item) → item_at id catalogue ≡ found → is_offered its found ≡ true → sold_as (λ varied. not varied || has id its) found ≡ true
  offered_as its id None e h = absurd (cc (h))
  offered_as its id (Some item) e h = subst (λ (n : ℕ). (not item.varied || has n its) ≡ true) (key-row_at (λ (r : Item). r.id) id catalogue.items item e) h

  offered_still : (its : List ℕ) (id : ℕ) → is_offered its (item_at id catalogue) ≡ true → is_offered its (item_at id with_it) ≡ true
  offered_still its id h = passes_still (λ (r : Item). r.id) (is_offered its) row catalogue.items (λ was. as_before (λ varied. not varied || has row.id its) (offered_as its row.id (item_at row.id catalogue) refl was)) id h

  stands_still : (id : ℕ) → is_some (item_at id catalogue) ≡ true → is_some (item_at id with_it) ≡ true
  stands_still id h = passes_still (λ (r : Item). r.id) is_some row catalogue.items (λ stood. refl) id h

  member_put_item : (quota : Quota) → HasMembers catalogue quota → HasMembers with_it quota
  unfolding items_stand variations_stand variations_fit items_fit
  member_put_item quota h = record {
    items_rise = h.items_rise;
    variations_rise = h.variations_rise;
    items = all_pass_still (λ id. is_some (item_at id catalogue)) (λ id. is_some (item_at id with_it)) stands_still quota.items h.items;
    variations = h.variations;
    of_items = h.of_items;
    offered = all_pass_still (λ id. is_offered (items_of quota.variations catalogue) (item_at id catalogue)) (λ id. is_offered (items_of quota.variations catalogue) (item_at id with_it)) (offered_still (items_of quota.variations catalogue)) quota.items h.offered;
  }

  pub members_put_item : AllHaveMembers catalogue → AllHaveMembers with_it
  members_put_item h = all_weaker (HasMembers catalogue) (HasMembers with_it) member_put_item catalogue.quotas h

-- a variation of a new id is put
module _ (row : Variation) (catalogue : CatalogueLists) (absent : variation_at row.id catalogue ≡ None) where
  abbrev with_one : CatalogueLists
  with_one = record catalogue { variations = with_row (λ r. r.id) row catalogue.variations }

  -- one that stands is found as before
  same_found : (id : ℕ) → is_some (variation_at id catalogue) ≡ true → variation_at id with_one ≡ variation_at id catalogue
  same_found id stands = row_at-with_row (λ r. r.id) id row catalogue.variations ∙ by_id (eqb_tells row.id id)
    where
      by_id : ((eqb row.id id ≡ true) × (row.id ≡ id)) ⊎ ((eqb row.id id ≡ false) × (row.id ≢ id)) → cond (eqb row.id id) (Some row) (variation_at id catalogue) ≡ variation_at id catalogue
      by_id (inl same) =
          let none : variation_at id catalogue ≡ None = subst (λ (n : ℕ). variation_at n catalogue ≡ None) same.1 absent in
          let never : false ≡ true = sym (ap (λ (found : Option Variation). is_some found) none) ∙ stands in
          absurd (cc (never))
      by_id (inr other) = rw other.0 refl

  passes_on : (test : Option Variation → Bool) → test None ≡ false → (id : ℕ) → test (variation_at id catalogue) ≡ true → test (variation_at id with_one) ≡ true
  passes_on test fails id h = passes_still (λ (r : Variation). r.id) test row catalogue.variations (none_before (λ (r : Variation). r.id) test row catalogue.variations absent fails) id h

  -- variations that stand are of the items that they were of
  same_items : (ids : List ℕ) → list_all (λ id. is_some (variation_at id catalogue)) ids ≡ true → items_of ids with_one ≡ items_of ids catalogue
  same_items [] h = refl
  same_items (id ∷ ids) h =
      ap (λ (found : Option Variation). cons_option (item_of found) (items_of ids with_one)) (same_found id (first_passes (λ n. is_some (variation_at n catalogue)) id ids h))
      ∙ ap (λ (rest : List ℕ). cons_option (item_of (variation_at id catalogue)) rest) (same_items ids (others_pass (λ n. is_some (variation_at n catalogue)) id ids h))

  member_put_variation : (quota : Quota) → HasMembers catalogue quota → HasMembers with_one quota
  unfolding items_stand variations_stand variations_fit items_fit
  member_put_variation quota h = record {
    items_rise = h.items_rise;
    variations_rise = h.variations_rise;
    items = h.items;
    variations = all_pass_still (λ id. is_some (variation_at id catalogue)) (λ id. is_some (variation_at id with_one)) (passes_on is_some refl) quota.variations h.variations;
    of_items = all_pass_still (λ id. is_of_one quota.items (variation_at id catalogue)) (λ id. is_of_one quota.items (variation_at id with_one)) (passes_on (is_of_one quota.items) refl) quota.variations h.of_items;
    offered = subst (λ (its : List ℕ). list_all (λ id. is_offered its (item_at id catalogue)) quota.items ≡ true) (sym (same_items quota.variations h.variations)) h.offered;
  }

  pub members_put_variation : AllHaveMembers catalogue → AllHaveMembers with_one
  members_put_variation h = all_weaker (HasMembers catalogue) (HasMembers with_one) member_put_variation catalogue.quotas h

-- a quota is put
module _ (row : Quota) (catalogue : CatalogueLists) where
  abbrev with_quota : CatalogueLists
  with_quota = record catalogue { quotas = with_row (λ r. r.id) row catalogue.quotas }

  -- the others have what they had
  member_put_quota : (quota : Quota) → HasMembers catalogue quota → HasMembers with_quota quota
  unfolding items_stand variations_stand variations_fit items_fit
  member_put_quota quota h = record { items_rise = h.items_rise; variations_rise = h.variations_rise; items = h.items; variations = h.variations; of_items = h.of_items; offered = h.offered }

  pub members_put_quota : HasMembers catalogue row → AllHaveMembers catalogue → AllHaveMembers with_quota
  members_put_quota its h = all-with_row (λ (r : Quota). r.id) (HasMembers with_quota) row catalogue.quotas (member_put_quota row its) (all_weaker (HasMembers catalogue) (HasMembers with_quota) member_put_quota catalogue.quotas h)

-- members are those of the ids that are listed
same_members : (catalogue : CatalogueLists) (row old : Quota) → old.items ≡ row.items → old.variations ≡ row.variations → HasMembers catalogue old → HasMembers catalogue row
unfolding items_stand variations_stand variations_fit items_fit
same_members catalogue row old items variations h = record {
  items_rise = subst (λ (ids : List ℕ). AreInOrder (λ n. n) ids) items h.items_rise;
  variations_rise = subst (λ (ids : List ℕ). AreInOrder (λ n. n) ids) variations h.variations_rise;
  items = subst (λ (ids : List ℕ). list_all (λ id. is_some (item_at id catalogue)) ids ≡ true) items h.items;
  variations = subst (λ (ids : List ℕ). list_all (λ id. is_some (variation_at id catalogue)) ids ≡ true) variations h.variations;
  of_items = subst (λ (ids : List ℕ). list_all (λ id. is_of_one row.items (variation_at id catalogue)) ids ≡ true) variations (subst (λ (ids : List ℕ). list_all (λ id. is_of_one ids (variation_at id catalogue)) old.variations ≡ true) items h.of_items);
  offered = subst (λ (ids : List ℕ). list_all (λ id. is_offered (items_of row.variations catalogue) (item_at id catalogue)) ids ≡ true) items (subst (λ (ids : List ℕ). list_all (λ id. is_offered (items_of ids catalogue) (item_at id catalogue)) old.items ≡ true) variations h.offered);
}

-- and a quota in whose place one stood that listed the same has them
pub members_kept : (catalogue : CatalogueLists) (row old : Quota) → quota_at row.id catalogue ≡ Some old → row.items ≡ old.items → row.variations ≡ old.variations → AllHaveMembers catalogue → HasMembers catalogue row
members_kept catalogue row old e items variations h = same_members catalogue row old (sym items) (sym variations) (all-row_at (λ (r : Quota). r.id) (HasMembers catalogue) row.id catalogue.quotas old e h)
