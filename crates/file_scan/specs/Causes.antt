-- Why a file isn't opened, and what holds of one whose rows were all read.
use Rattle.std.specs.Prelude.{◌≡◌, ◌≢◌, ◌≤◌, ◌⊎◌, ℕ, ℤ, pos, List, [], ◌∷◌, map, Ok}
use Rattle.sqlite_value.specs.declared.value.Value.TheVariants.{Int}
use Rattle.sqlite_value.specs.Order.{Row, column}
use Rattle.sqlite_trees.specs.Tree.{Trees}
use Rattle.sqlite_schema.specs.declared.schema.Schema.{Schema}
use Rattle.sqlite_resolve.specs.declared.compiled.Compiled.{Compiled}
use Rattle.sqlite.specs.Clock.{timed}
use Rattle.sqlite.specs.Effect.{Database, Reads}
use Rattle.sqlite.specs.Listing.{understood, reads_listing, IsSourceOf}
use Rattle.file_schema.specs.Tables.{schema, this_version}
use Rattle.file_schema.specs.Parts.{row_shown}
use Rattle.model_catalogue.specs.Limits.{last_id}
use Rattle.model_invariant.specs.Range.{IsNextId, AllNextIds}
use Rattle.file_rows.specs.declared.rows.ShopRow.{ShopRow}
use Rattle.file_rows.specs.Rows.{shop_row, item_row, variation_row, quota_row, quota_item_row, quota_variation_row, voucher_row, cart_row, order_row, position_row, waiting_row, list_row, list_item_row, checkin_row, count_row, token_row, kept_row, release_row, exit_row, budget_row, spent_row, discount_row}
use Rattle.file_rows.specs.Fit.{IsFitShop, IsFitItem, IsFitVariation, IsFitQuota, IsFitVoucher, IsFitBudget, IsFitCart, IsFitOrder, IsFitPosition, IsFitDiscount, IsFitWaiting, IsFitList, IsFitCheckin, IsFitToken, IsFitKept}
use Rattle.file_reads.specs.Damage.{HasMeaning, HasNoMeaning, IsDamaged}
use Rattle.file_reads.specs.Since.{IsSince}
use Rattle.file_reads.specs.Texts.{shop_text, items_text, variations_text, quotas_text, quota_items_text, quota_variations_text, vouchers_text, carts_text, orders_text, positions_text, waiting_text, checkin_lists_text, list_items_text, checkins_text, counts_text, tokens_text, kept_text, releases_text, exits_text, budgets_text, spents_text, discounts_text}
use Rattle.model_damage.specs.declared.rule.Rule.TheVariants as rule
use Rattle.file_scan.specs.declared.error.OpenError.{OpenError}
use Rattle.file_scan.specs.declared.error.OpenError.TheVariants.{Memory, NotAShop, Version, Damaged, Store}

-- ---- the file lacks one of these tables, or one of its columns

-- a table of the catalogue, or a column of it, isn't there: items, variations, quotas or members of quotas
abbrev pub LacksCatalogue : Schema → Type 0
LacksCatalogue s = HasNoMeaning s items_text ⊎ (HasNoMeaning s variations_text ⊎ (HasNoMeaning s quotas_text ⊎ (HasNoMeaning s quota_items_text ⊎ HasNoMeaning s quota_variations_text)))

-- a table of the sales, or a column of it, isn't there: vouchers, carts, orders, their positions or the waiting list
abbrev pub LacksSales : Schema → Type 0
LacksSales s = HasNoMeaning s vouchers_text ⊎ (HasNoMeaning s carts_text ⊎ (HasNoMeaning s orders_text ⊎ (HasNoMeaning s positions_text ⊎ HasNoMeaning s waiting_text)))

-- a table of the doors, or a column of it, isn't there: check-in lists, their items or check-ins
abbrev pub LacksDoors : Schema → Type 0
LacksDoors s = HasNoMeaning s checkin_lists_text ⊎ (HasNoMeaning s list_items_text ⊎ HasNoMeaning s checkins_text)

-- a table of the others, or a column of it, isn't there: counts, tokens or kept answers
abbrev pub LacksOthers : Schema → Type 0
LacksOthers s = HasNoMeaning s counts_text ⊎ (HasNoMeaning s tokens_text ⊎ HasNoMeaning s kept_text)

-- a table of the first version, beside the shop's own
abbrev pub LacksVersion1 : Schema → Type 0
LacksVersion1 s = LacksCatalogue s ⊎ (LacksSales s ⊎ (LacksDoors s ⊎ LacksOthers s))

-- a table of the second version
abbrev pub LacksVersion2 : Schema → Type 0
LacksVersion2 s = HasNoMeaning s releases_text ⊎ HasNoMeaning s exits_text

-- a table of the third version, the sums of money: budgets, what is spent of vouchers, discounts
abbrev pub LacksVersion3 : Schema → Type 0
LacksVersion3 s = HasNoMeaning s budgets_text ⊎ (HasNoMeaning s spents_text ⊎ HasNoMeaning s discounts_text)

-- a table that this version has, beside the shop's own
abbrev pub LacksTable : ℕ → Schema → Type 0
LacksTable own s = LacksVersion1 s ⊎ (((2 ≤ own) × LacksVersion2 s) ⊎ ((3 ≤ own) × LacksVersion3 s))

-- ---- the file has all of these tables with their columns

-- the tables of the catalogue are there with their columns: items, variations, quotas and members of quotas
abbrev pub HasCatalogue : Schema → Type 0
HasCatalogue s = HasMeaning s items_text × (HasMeaning s variations_text × (HasMeaning s quotas_text × (HasMeaning s quota_items_text × HasMeaning s quota_variations_text)))

-- the tables of the sales are there with their columns: vouchers, carts, orders, their positions and the waiting list
abbrev pub HasSales : Schema → Type 0
HasSales s = HasMeaning s vouchers_text × (HasMeaning s carts_text × (HasMeaning s orders_text × (HasMeaning s positions_text × HasMeaning s waiting_text)))

-- the tables of the doors are there with their columns: check-in lists, their items and check-ins
abbrev pub HasDoors : Schema → Type 0
HasDoors s = HasMeaning s checkin_lists_text × (HasMeaning s list_items_text × HasMeaning s checkins_text)

-- the other tables are there with their columns: counts, tokens and kept answers
abbrev pub HasOthers : Schema → Type 0
HasOthers s = HasMeaning s counts_text × (HasMeaning s tokens_text × HasMeaning s kept_text)

-- all tables of the first version beside the shop's own
abbrev pub HasVersion1 : Schema → Type 0
HasVersion1 s = HasCatalogue s × (HasSales s × (HasDoors s × HasOthers s))

-- all tables that the second version brought
abbrev pub HasVersion2 : Schema → Type 0
HasVersion2 s = HasMeaning s releases_text × HasMeaning s exits_text

-- all tables that the third version brought
abbrev pub HasVersion3 : Schema → Type 0
HasVersion3 s = HasMeaning s budgets_text × (HasMeaning s spents_text × HasMeaning s discounts_text)

-- all tables that this version has, beside the shop's own
abbrev pub HasTables : ℕ → Schema → Type 0
HasTables own s = HasVersion1 s × ((2 ≤ own → HasVersion2 s) × (3 ≤ own → HasVersion3 s))

-- ---- a row of one of these tables is that of no value within its limits

-- the rows that the table of this tree shows
abbrev pub rows_at : Trees → ℕ → List Row
rows_at trees tree = map (row_shown schema tree) (trees tree)

-- a row of items, variations or quotas is of no value within its limits, or one of members of quotas is of no link
abbrev pub IsDamagedCatalogue : Trees → Type 0
IsDamagedCatalogue db = IsDamaged item_row IsFitItem (rows_at db 1) ⊎ (IsDamaged variation_row IsFitVariation (rows_at db 2) ⊎ (IsDamaged quota_row IsFitQuota (rows_at db 3) ⊎ (IsDamaged quota_item_row (λ w. Unit {0}) (rows_at db 4) ⊎ IsDamaged quota_variation_row (λ w. Unit {0}) (rows_at db 6))))

-- a row of vouchers, cart positions, orders, order positions or the waiting list is of no value within its limits
abbrev pub AreDamagedSales : Trees → Type 0
AreDamagedSales db = IsDamaged voucher_row IsFitVoucher (rows_at db 8) ⊎ (IsDamaged cart_row IsFitCart (rows_at db 10) ⊎ (IsDamaged order_row IsFitOrder (rows_at db 11) ⊎ (IsDamaged position_row IsFitPosition (rows_at db 12) ⊎ IsDamaged waiting_row IsFitWaiting (rows_at db 15))))

-- a row of check-in lists or check-ins is of no value within its limits, or one of a list's items is of no link
abbrev pub AreDamagedDoors : Trees → Type 0
AreDamagedDoors db = IsDamaged list_row IsFitList (rows_at db 16) ⊎ (IsDamaged list_item_row (λ w. Unit {0}) (rows_at db 17) ⊎ IsDamaged checkin_row IsFitCheckin (rows_at db 19))

-- a row of tokens or kept answers is of no value within its limits, or one of counts is of no numbers
abbrev pub AreDamagedOthers : Trees → Type 0
AreDamagedOthers db = IsDamaged count_row (λ w. Unit {0}) (rows_at db 21) ⊎ (IsDamaged token_row IsFitToken (rows_at db 22) ⊎ IsDamaged kept_row IsFitKept (rows_at db 24))

-- a table of the first version, beside the shop's own
abbrev pub HasVersion1Damage : Trees → Type 0
HasVersion1Damage db = IsDamagedCatalogue db ⊎ (AreDamagedSales db ⊎ (AreDamagedDoors db ⊎ AreDamagedOthers db))

-- a table of the second version
abbrev pub AreVersion2Damaged : Trees → Type 0
AreVersion2Damaged db = IsDamaged release_row (λ w. Unit {0}) (rows_at db 27) ⊎ IsDamaged exit_row (λ w. Unit {0}) (rows_at db 28)

-- a table of the third version: a row of budgets or of discounts is of no value within its limits, or one of what is spent is of no numbers
abbrev pub AreVersion3Damaged : Trees → Type 0
AreVersion3Damaged db = IsDamaged budget_row IsFitBudget (rows_at db 29) ⊎ (IsDamaged spent_row (λ w. Unit {0}) (rows_at db 30) ⊎ IsDamaged discount_row IsFitDiscount (rows_at db 31))

-- a table that this version has, beside the shop's own
abbrev pub HasDamage : ℕ → Trees → Type 0
HasDamage own db = HasVersion1Damage db ⊎ (((2 ≤ own) × AreVersion2Damaged db) ⊎ ((3 ≤ own) × AreVersion3Damaged db))

-- ---- all values are within their limits; the tables that aren't named have none

-- each next id is in range, that of the tokens too
pub record HasNextIds (shop : ShopRow) : Type 0 where
  pub ids : AllNextIds shop.next
  pub token : IsNextId last_id shop.next_token

-- ---- why a file isn't opened

-- a SELECT without parameters shows these rows of what a file holds
abbrev pub ShowsBy : List ℕ → Database → List Row → Type 0
ShowsBy sql db rows = (c : Compiled) × (understood db.schema sql ≡ Ok c) × (source : Database) × IsSourceOf (reads_listing db.schema sql) db source × (now : ℕ) × Reads c.command source (timed [] c.formats now) rows

-- there is one row, whose version is this number, and not the one that is asked for
abbrev pub HasOtherVersion : ℕ → ℤ → List Row → Type 0
HasOtherVersion own version rows = (row : Row) × (rows ≡ row ∷ []) × (column row 1 ≡ Int version) × (version ≢ pos own)

-- the rows aren't a single row with a version other than the one that is asked for
abbrev pub HasNoOtherVersion : ℕ → List Row → Type 0
HasNoOtherVersion own rows = (version : ℤ) → HasOtherVersion own version rows → ⊥

-- there is one row, which is that of a shop of this version within its limits, whose next ids are in range
abbrev pub IsOneShop : ℕ → List Row → Type 0
IsOneShop own rows = (shop : ShopRow) × IsFitShop shop × HasNextIds shop × (shop.version ≡ own) × (rows ≡ shop_row shop ∷ [])

-- the file has the table `shop`, and of the rows that are shown of it this holds
abbrev pub OfTheShop : Database → (List Row → Type 0) → Type 0
OfTheShop db holds = (rows : List Row) × ShowsBy shop_text db rows × holds rows

-- None of 60, 61 and 62 by the first two rules has its cause where a file of this version is asked for: no table lacks, there is one shop of
-- the version within its limits, and so is each value of the other tables, where these are declared as those of the version, or a later one of ours.
pub record IsReadableAs (own : ℕ) (db : Database) : Type 0 where
  pub shop : OfTheShop db (IsOneShop own)
  pub tables : HasTables own db.schema
  pub values : IsSince own db.schema → HasDamage own db.trees → ⊥

-- a file of this program's version
abbrev pub IsReadable : Database → Type 0
IsReadable db = IsReadableAs this_version db

-- Why each refusal is told where a file of this version is asked for, which also says that none before it was to be told: 60 for the table
-- `shop`, 61, 60 for another table, 62.1, 62.2. Of rows in tables that are declared in another way than ours nothing is said. That memory is
-- refused or the store fails has no cause in the file.
abbrev pub IsCauseAs : ℕ → Database → OpenError → Type 0
IsCauseAs own db Memory = Unit {0}
IsCauseAs own db NotAShop = HasNoMeaning db.schema shop_text ⊎ OfTheShop db (λ rows. HasNoOtherVersion own rows × LacksTable own db.schema)
IsCauseAs own db (Version version) = OfTheShop db (HasOtherVersion own version)
IsCauseAs own db (Damaged rule.Shop) = OfTheShop db (λ rows. HasNoOtherVersion own rows × HasTables own db.schema × (¬ IsOneShop own rows))
IsCauseAs own db (Damaged rule.Limits) = OfTheShop db (λ rows. IsOneShop own rows × HasTables own db.schema × (IsSince own db.schema → HasDamage own db.trees))
IsCauseAs own db (Damaged _) = ⊥
IsCauseAs own db Store = Unit {0}

-- why a file isn't opened where this program's version is asked for
abbrev pub IsCause : Database → OpenError → Type 0
IsCause db error = IsCauseAs this_version db error
