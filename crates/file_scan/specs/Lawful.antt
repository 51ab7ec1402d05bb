-- Tables that a shop has written.
use Rattle.std.specs.Prelude.{◌≡◌, ℕ, [], ◌∷◌, All}
use Rattle.file_schema.specs.Tables.{this_version}
use Rattle.file_rows.specs.declared.rows.ShopRow.{ShopRow}
use Rattle.file_rows.specs.Tables.{Tables}
use Rattle.file_rows.specs.Fit.{IsFitShop, IsFitItem, IsFitVariation, IsFitQuota, IsFitVoucher, IsFitBudget, IsFitCart, IsFitOrder, IsFitPosition, IsFitDiscount, IsFitWaiting, IsFitList, IsFitCheckin, IsFitToken, IsFitKept}
use Rattle.file_scan.specs.Causes.{HasNextIds}
use Rattle.file_scan.specs.declared.error.OpenError.{OpenError}
use Rattle.file_scan.specs.declared.error.OpenError.TheVariants.{Memory, NotAShop, Version, Damaged, Store}

-- all values are within their limits, and there is one shop, of this version; the tables that aren't named have no limits
pub record AreFitAt (own : ℕ) (t : Tables) : Type 0 where
  pub shop : ShopRow
  pub alone : t.shop ≡ shop ∷ []
  pub first : shop.version ≡ own
  pub shop_fits : IsFitShop shop
  pub ids : HasNextIds shop
  pub items : All IsFitItem t.items
  pub variations : All IsFitVariation t.variations
  pub quotas : All IsFitQuota t.quotas
  pub vouchers : All IsFitVoucher t.vouchers
  pub carts : All IsFitCart t.carts
  pub orders : All IsFitOrder t.orders
  pub positions : All IsFitPosition t.positions
  pub waiting : All IsFitWaiting t.waiting
  pub checkin_lists : All IsFitList t.checkin_lists
  pub checkins : All IsFitCheckin t.checkins
  pub tokens : All IsFitToken t.tokens
  pub kept : All IsFitKept t.kept
  pub budgets : All IsFitBudget t.budgets
  pub discounts : All IsFitDiscount t.discounts

-- of this program's version
abbrev pub AreFit : Tables → Type 0
AreFit t = AreFitAt this_version t

-- memory was refused or the store failed, and nothing is wrong with the file
abbrev pub IsOfMachine : OpenError → Type 0
IsOfMachine Memory = Unit {0}
IsOfMachine NotAShop = ⊥
IsOfMachine (Version version) = ⊥
IsOfMachine (Damaged rule) = ⊥
IsOfMachine Store = Unit {0}
