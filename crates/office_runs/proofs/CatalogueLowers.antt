-- No command on the catalogue uses more of a quota than before.
use Rattle.std.proofs.Common.{◌≡◌, ℕ, ◌≤◌, ap, ◌∙◌, arith}
use Rattle.model_catalogue.specs.declared.rows.Item.{Item}
use Rattle.model_catalogue.specs.declared.rows.ItemRows.{ItemRows}
use Rattle.model_catalogue.specs.declared.rows.Quota.{Quota}
use Rattle.model_catalogue.specs.declared.rows.Variation.{Variation}
use Rattle.model_catalogue.specs.CatalogueLists.{CatalogueLists}
use Rattle.model_rows.specs.declared.changes.Change.TheVariants.{PutItem, PutVariation, PutQuota}
use Rattle.model_rows.specs.Change.{after_change, change_applied}
use Rattle.model_rows.specs.Lists.{State}
use Rattle.model_rows.specs.Numbered.{with_item, with_variation, with_quota}
use Rattle.model_rows.specs.Takes.{places_used}
use Rattle.model_rows.specs.Total.{total}
use Rattle.model_rows.specs.Usage.{usage_of}
use Rattle.model_rows.proofs.Lowers.{catalogue_apart, put_variations_apart}

pub as_before : (a b : ℕ) → a ≡ b → a ≤ b
as_before a b e = omega (arith, e)

module _ (state : State) (quota : Quota) where
  catalogue_lowers : (catalogue : CatalogueLists) → total (usage_of (record state.lists { catalogue = catalogue }) state.moment quota) ≤ places_used state quota
  catalogue_lowers catalogue = as_before (total (usage_of (record state.lists { catalogue = catalogue }) state.moment quota)) (places_used state quota) (ap total (catalogue_apart state.lists catalogue state.moment quota))

  pub item_lowers : (rows : ItemRows) → places_used (with_item rows state) quota ≤ places_used state quota
  item_lowers rows =
      let lists = after_change (PutItem rows.item) state.lists in
      as_before (places_used (with_item rows state) quota) (places_used state quota) (ap total (put_variations_apart rows.variations lists state.moment quota ∙ catalogue_apart state.lists lists.catalogue state.moment quota))

  pub item_change_lowers : (row : Item) → places_used (change_applied (PutItem row) state) quota ≤ places_used state quota
  item_change_lowers row = catalogue_lowers (after_change (PutItem row) state.lists).catalogue

  pub variation_lowers : (row : Variation) → places_used (with_variation row state) quota ≤ places_used state quota
  variation_lowers row = catalogue_lowers (after_change (PutVariation row) state.lists).catalogue

  pub quota_lowers : (row : Quota) → places_used (with_quota row state) quota ≤ places_used state quota
  quota_lowers row = catalogue_lowers (after_change (PutQuota row) state.lists).catalogue

  pub resize_lowers : (row : Quota) → places_used (change_applied (PutQuota row) state) quota ≤ places_used state quota
  resize_lowers row = catalogue_lowers (after_change (PutQuota row) state.lists).catalogue
