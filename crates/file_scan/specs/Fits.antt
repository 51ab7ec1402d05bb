-- What is true of all rows of a file once they were read: each value is within its limits.
use Rattle.std.specs.Prelude.{All}
use Rattle.file_rows.specs.Fit.{IsFitShop, IsFitItem, IsFitVariation, IsFitQuota, IsFitVoucher, IsFitBudget, IsFitCart, IsFitOrder, IsFitPosition, IsFitDiscount, IsFitWaiting, IsFitList, IsFitCheckin, IsFitToken, IsFitKept}
use Rattle.file_scan.specs.declared.file.FileTables.{FileTables}
use Rattle.file_rows.specs.declared.table_rows.CatalogueRows.{CatalogueRows}
use Rattle.file_rows.specs.declared.table_rows.SaleRows.{SaleRows}
use Rattle.file_rows.specs.declared.table_rows.DoorRows.{DoorRows}
use Rattle.file_rows.specs.declared.table_rows.OtherRows.{OtherRows}
use Rattle.file_rows.specs.declared.table_rows.TableRows.{TableRows}
use Rattle.file_scan.specs.Causes.{HasNextIds}

-- the values of items, variations and quotas are within their limits
pub record IsFitCatalogue (rows : CatalogueRows) : Type 0 where
  pub items : All IsFitItem rows.items.items
  pub variations : All IsFitVariation rows.variations.items
  pub quotas : All IsFitQuota rows.quotas.items

-- the values of vouchers, cart positions, orders, order positions and the waiting list are within their limits, and so are budgets and discounts
pub record AreFitSales (rows : SaleRows) : Type 0 where
  pub vouchers : All IsFitVoucher rows.vouchers.items
  pub carts : All IsFitCart rows.carts.items
  pub orders : All IsFitOrder rows.orders.items
  pub positions : All IsFitPosition rows.positions.items
  pub waiting : All IsFitWaiting rows.waiting.items
  pub budgets : All IsFitBudget rows.budgets.items
  pub discounts : All IsFitDiscount rows.discounts.items

-- the values of check-in lists and check-ins are within their limits
pub record AreFitDoors (rows : DoorRows) : Type 0 where
  pub checkin_lists : All IsFitList rows.checkin_lists.items
  pub checkins : All IsFitCheckin rows.checkins.items

-- the values of tokens and kept answers are within their limits
pub record AreFitOthers (rows : OtherRows) : Type 0 where
  pub tokens : All IsFitToken rows.tokens.items
  pub kept : All IsFitKept rows.kept.items

-- the values of all tables beside the shop's own are within their limits
pub record AreFitTables (rows : TableRows) : Type 0 where
  pub catalogue : IsFitCatalogue rows.catalogue
  pub sales : AreFitSales rows.sales
  pub doors : AreFitDoors rows.doors
  pub others : AreFitOthers rows.others

-- the values of all tables are within their limits, and the shop's next ids are in range
pub record IsFitFile (file : FileTables) : Type 0 where
  pub shop : IsFitShop file.shop
  pub ids : HasNextIds file.shop
  pub tables : AreFitTables file.tables
