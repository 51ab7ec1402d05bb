-- The tables of members hold rows that have an owner.
use Rattle.std.proofs.Common.{refl}
use Rattle.file_rows.specs.declared.rows.ListItem.{ListItem}
use Rattle.file_rows.specs.declared.rows.QuotaItem.{QuotaItem}
use Rattle.file_rows.specs.declared.rows.QuotaVariation.{QuotaVariation}
use Rattle.file_rows.specs.Owned.{AreOwned}
use Rattle.file_rows.specs.Rows.{list_item_row, quota_item_row, quota_variation_row}

pub quota_items_are : AreOwned 4 quota_item_row (λ (w : QuotaItem). w.quota) (λ t. t.quota_items)
quota_items_are = record { holds = λ db t h. h.1.1.1.1.0; begins = λ r. refl; owned = λ w. refl }

pub quota_variations_are : AreOwned 6 quota_variation_row (λ (w : QuotaVariation). w.quota) (λ t. t.quota_variations)
quota_variations_are = record { holds = λ db t h. h.1.1.1.1.1.0; begins = λ r. refl; owned = λ w. refl }

pub list_items_are : AreOwned 17 list_item_row (λ (w : ListItem). w.list) (λ t. t.list_items)
list_items_are = record { holds = λ db t h. h.1.1.1.1.1.1.1.1.1.1.1.1.0; begins = λ r. refl; owned = λ w. refl }
