-- What vouchers name.
use Rattle.std.specs.Prelude.{◌≡◌, ℕ, Bool, true, false, ◌&&◌, ◌||◌, not, ◌==◌, Option, Some, None}
use Rattle.std.specs.Option.{is_some}
use Rattle.std.specs.List.{AllByRecursion}
use Rattle.model_catalogue.specs.declared.rows.Variation.{Variation}
use Rattle.model_catalogue.specs.CatalogueLists.{CatalogueLists, item_at, variation_at, quota_at}
use Rattle.model_rows.specs.declared.rows.Voucher.{Voucher}
use Rattle.model_rows.specs.Lists.{Lists}

-- the item that is named stands
abbrev pub item_stands : CatalogueLists → Option ℕ → Bool
item_stands catalogue None = true
item_stands catalogue (Some id) = is_some (item_at id catalogue)

-- of the item that is named beside it, if one is
abbrev pub is_of_item : Option ℕ → Variation → Bool
is_of_item None variation = true
is_of_item (Some item) variation = variation.item == item

-- the variation is there, and is of the item that is named beside it, if one is
abbrev pub variation_by : Option ℕ → Option Variation → Bool
variation_by item None = false
variation_by item (Some variation) = is_of_item item variation

-- the variation that is named stands, and is of the item that is named
abbrev pub variation_stands : CatalogueLists → Option ℕ → Option ℕ → Bool
variation_stands catalogue item None = true
variation_stands catalogue item (Some id) = variation_by item (variation_at id catalogue)

-- the quota that is named stands
abbrev pub quota_stands : CatalogueLists → Option ℕ → Bool
quota_stands catalogue None = true
quota_stands catalogue (Some id) = is_some (quota_at id catalogue)

-- not an item and a quota both, and no variation without its item
abbrev pub has_one_target : Voucher → Bool
has_one_target row = not (is_some row.item && is_some row.quota) && (is_some row.item || not (is_some row.variation))

-- what a voucher names is there: an item, or a variation with its item, or a quota, or nothing
pub record HasTarget (catalogue : CatalogueLists) (voucher : Voucher) : Type 0 where
  -- the item, the variation (which is of the item named beside it) and the quota that it names stand
  pub item : item_stands catalogue voucher.item ≡ true
  pub variation : variation_stands catalogue voucher.item voucher.variation ≡ true
  pub quota : quota_stands catalogue voucher.quota ≡ true
  -- the voucher names no quota beside an item, and no variation without an item
  pub one : has_one_target voucher ≡ true

-- this holds of each voucher
abbrev pub AllHaveTargets : Lists → Type 0
AllHaveTargets lists = AllByRecursion (HasTarget lists.catalogue) lists.vouchers
