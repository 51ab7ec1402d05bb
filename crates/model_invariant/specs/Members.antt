-- The members of quotas.
use Rattle.std.specs.Prelude.{◌≡◌, true}
use Rattle.std.specs.List.{AllByRecursion}
use Rattle.base_tables.specs.Tables.{AreInOrder}
use Rattle.model_catalogue.specs.declared.rows.Quota.{Quota}
use Rattle.model_catalogue.specs.CatalogueLists.{CatalogueLists}
use Rattle.model_catalogue.specs.QuotaAdded.{items_stand, variations_stand, variations_fit, items_fit}

-- a quota's members are rows in order of id, and its items and variations fit together
pub record HasMembers (catalogue : CatalogueLists) (quota : Quota) : Type 0 where
  -- its items rise, and so do its variations
  pub items_rise : AreInOrder (λ n. n) quota.items
  pub variations_rise : AreInOrder (λ n. n) quota.variations
  -- all of them stand
  pub items : items_stand quota catalogue ≡ true
  pub variations : variations_stand quota catalogue ≡ true
  -- each variation's item is listed
  pub of_items : variations_fit quota catalogue ≡ true
  -- each listed item that is sold by variations has one of them listed
  pub offered : items_fit quota catalogue ≡ true

-- this holds of each quota
abbrev pub AllHaveMembers : CatalogueLists → Type 0
AllHaveMembers catalogue = AllByRecursion (HasMembers catalogue) catalogue.quotas
