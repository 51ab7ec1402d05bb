-- What keeps that what vouchers name stands.
use Rattle.std.proofs.Common.{◌≡◌, ℕ, true, List, Option, Some, None, refl}
use Rattle.std.specs.Prelude.{is_some}
use Rattle.std.specs.List.{AllByRecursion}
use Rattle.base_tables.specs.Tables.{with_row}
use Rattle.model_catalogue.specs.declared.rows.Item.{Item}
use Rattle.model_catalogue.specs.declared.rows.Quota.{Quota}
use Rattle.model_catalogue.specs.declared.rows.Variation.{Variation}
use Rattle.model_catalogue.specs.CatalogueLists.{CatalogueLists, variation_at}
use Rattle.model_rows.specs.declared.rows.Voucher.{Voucher}
use Rattle.model_invariant.specs.Targets.{item_stands, variation_by, variation_stands, quota_stands, HasTarget}
use Rattle.model_rows.proofs.EachRow.{all_weaker}
use Rattle.model_invariant.proofs.Stays.{passes_still, none_before}

-- an item is put
module _ (row : Item) (catalogue : CatalogueLists) where
  abbrev with_it : CatalogueLists
  with_it = record catalogue { items = with_row (λ r. r.id) row catalogue.items }

  item_still : (name : Option ℕ) → item_stands catalogue name ≡ true → item_stands with_it name ≡ true
  item_still None h = h
  item_still (Some id) h = passes_still (λ (r : Item). r.id) is_some row catalogue.items (λ stood. refl) id h

  pub targets_put_item : (rows : List Voucher) → AllByRecursion (HasTarget catalogue) rows → AllByRecursion (HasTarget with_it) rows
  targets_put_item rows h = all_weaker (HasTarget catalogue) (HasTarget with_it) (λ v t. record { item = item_still v.item t.item; variation = t.variation; quota = t.quota; one = t.one }) rows h

-- a variation of a new id is
module _ (row : Variation) (catalogue : CatalogueLists) (absent : variation_at row.id catalogue ≡ None) where
  abbrev with_one : CatalogueLists
  with_one = record catalogue { variations = with_row (λ r. r.id) row catalogue.variations }

  pub variation_still : (item name : Option ℕ) → variation_stands catalogue item name ≡ true → variation_stands with_one item name ≡ true
  variation_still item None h = h
  variation_still item (Some id) h = passes_still (λ (r : Variation). r.id) (variation_by item) row catalogue.variations (none_before (λ (r : Variation). r.id) (variation_by item) row catalogue.variations absent refl) id h

  pub targets_put_variation : (rows : List Voucher) → AllByRecursion (HasTarget catalogue) rows → AllByRecursion (HasTarget with_one) rows
  targets_put_variation rows h = all_weaker (HasTarget catalogue) (HasTarget with_one) (λ v t. record { item = t.item; variation = variation_still v.item v.variation t.variation; quota = t.quota; one = t.one }) rows h

-- a quota is
module _ (row : Quota) (catalogue : CatalogueLists) where
  abbrev with_quota : CatalogueLists
  with_quota = record catalogue { quotas = with_row (λ r. r.id) row catalogue.quotas }

  quota_still : (name : Option ℕ) → quota_stands catalogue name ≡ true → quota_stands with_quota name ≡ true
  quota_still None h = h
  quota_still (Some id) h = passes_still (λ (r : Quota). r.id) is_some row catalogue.quotas (λ stood. refl) id h

  pub targets_put_quota : (rows : List Voucher) → AllByRecursion (HasTarget catalogue) rows → AllByRecursion (HasTarget with_quota) rows
  targets_put_quota rows h = all_weaker (HasTarget catalogue) (HasTarget with_quota) (λ v t. record { item = t.item; variation = t.variation; quota = quota_still v.quota t.quota; one = t.one }) rows h
