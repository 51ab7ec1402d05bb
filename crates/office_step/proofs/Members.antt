-- The members of a quota that was added stand and fit together.
use Rattle.std.proofs.Common.{◌≡◌, ℕ, Bool, true, false, Ok, refl, subst}
use Rattle.std.specs.Prelude.{◌&&◌}
use Rattle.base_tables.proofs.RisingLemmas.{rising_in_order}
use Rattle.model_catalogue.specs.declared.rows.Quota.{Quota}
use Rattle.model_catalogue.specs.declared.requests.NewQuota.{NewQuota}
use Rattle.model_catalogue.specs.CatalogueLists.{CatalogueLists}
use Rattle.model_catalogue.specs.QuotaAdded.{quota_row, variations_fit, items_fit, quota_added}
use Rattle.model_catalogue.proofs.Added.{quota_added_is}
use Rattle.model_invariant.specs.Members.{HasMembers}

both : (a b : Bool) → (a && b) ≡ true → (a ≡ true) × (b ≡ true)
both true true h = (refl, refl)
both true false h = absurd (cc)
both false true h = absurd (cc)
both false false h = absurd (cc)

pub added_members : (new : NewQuota) (id : ℕ) (lists : CatalogueLists) (row : Quota) → quota_added new id lists ≡ Ok row → HasMembers lists row
added_members new id lists row h =
    let a = quota_added_is new id lists row h in
    let fit = both (variations_fit (quota_row new id) lists) (items_fit (quota_row new id) lists) a.fit in
    subst (HasMembers lists) a.is_row (record {
      items_rise = rising_in_order new.items;
      variations_rise = rising_in_order new.variations;
      items = a.items;
      variations = a.variations;
      of_items = fit.0;
      offered = fit.1;
    })
