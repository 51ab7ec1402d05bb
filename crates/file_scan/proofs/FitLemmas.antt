-- Tables whose values are within their limits have no cause to be refused.
use Rattle.std.proofs.Common.{◌≡◌, ◌≢◌, ◌⊎◌, ◌≤◌, ℕ, zero, suc, inl, inr, ℤ, pos, List, [], ◌∷◌, Option, Some, Result, Ok, Err, IfOk, IfSome, OnOk, map, refl, sym, ap, subst, ◌∙◌, arith}
use Rattle.std.specs.List.{All}
use Rattle.std.proofs.lemmas.List.Elements.{All-nil, All-cons}
use Rattle.std.specs.Prelude.{take}
use Rattle.std.specs.List.Sorted.{IsPermutation}
use Rattle.std.proofs.lemmas.List.Sorted.{IsPermutation-sym, IsPermutation-trans}
use Rattle.sqlite_value.specs.Order.{Row}
use Rattle.sqlite_trees.specs.Tree.{Trees}
use Rattle.sqlite_schema.specs.declared.schema.Schema.{Schema}
use Rattle.sqlite.specs.Effect.{Database}
use Rattle.sqlite.proofs.Callers.{one_permutation}
use Rattle.file_schema.specs.Described.{select_text}
use Rattle.file_schema.specs.Descriptions.{quota_items, vouchers, order_positions}
use Rattle.file_schema.specs.Tables.{schema, this_version}
use Rattle.file_schema.specs.Versions.{schema_of_version}
use Rattle.file_schema.specs.Parts.{HoldParts}
use Rattle.file_rows.specs.declared.rows.ShopRow.{ShopRow}
use Rattle.file_rows.specs.Rows.{shop_row, item_row, variation_row, quota_row, quota_item_row, quota_variation_row, voucher_row, cart_row, order_row, position_row, waiting_row, list_row, list_item_row, checkin_row, count_row, token_row, kept_row, release_row, exit_row, budget_row, spent_row, discount_row}
use Rattle.file_rows.specs.Fit.{IsFitItem, IsFitVariation, IsFitQuota, IsFitVoucher, IsFitBudget, IsFitCart, IsFitOrder, IsFitPosition, IsFitDiscount, IsFitWaiting, IsFitList, IsFitCheckin, IsFitToken, IsFitKept}
use Rattle.file_rows.specs.Tables.{Tables, Holds, HoldsAt, parts}
use Rattle.file_reads.specs.Since.{IsSince}
use Rattle.file_reads.proofs.Causes.{lacks_none, undamaged}
use Rattle.file_reads.proofs.SinceLemmas.{since_one, since_this, since_before}
use Rattle.file_reads.proofs.ShopLemmas as of_shop
use Rattle.file_reads.proofs.ItemsLemmas as of_items
use Rattle.file_reads.proofs.VariationsLemmas as of_variations
use Rattle.file_reads.proofs.QuotasLemmas as of_quotas
use Rattle.file_reads.proofs.QuotaVariationsLemmas as of_quota_variations
use Rattle.file_reads.proofs.CartsLemmas as of_carts
use Rattle.file_reads.proofs.OrdersLemmas as of_orders
use Rattle.file_reads.proofs.WaitingLemmas as of_waiting
use Rattle.file_reads.proofs.CheckinListsLemmas as of_checkin_lists
use Rattle.file_reads.proofs.ListItemsLemmas as of_list_items
use Rattle.file_reads.proofs.CheckinsLemmas as of_checkins
use Rattle.file_reads.proofs.CountsLemmas as of_counts
use Rattle.file_reads.proofs.TokensLemmas as of_tokens
use Rattle.file_reads.proofs.KeptLemmas as of_kept
use Rattle.file_reads.proofs.ReleasesLemmas as of_releases
use Rattle.file_reads.proofs.ExitsLemmas as of_exits
use Rattle.file_reads.proofs.BudgetsLemmas as of_budgets
use Rattle.file_reads.proofs.SpentsLemmas as of_spents
use Rattle.file_reads.proofs.DiscountsLemmas as of_discounts
use Rattle.file_reads.proofs.SelectLemmas.{quota_items_selected, vouchers_selected, order_positions_selected}
use Rattle.file_scan.specs.declared.error.OpenError.{OpenError}
use Rattle.file_scan.specs.declared.error.OpenError.TheVariants.{Memory, NotAShop, Version, Damaged, Store}
use Rattle.model_damage.specs.declared.rule.Rule.TheVariants as rule
use Rattle.file_scan.specs.declared.file.FileTables.{FileTables}
use Rattle.file_rows.specs.declared.table_rows.TableRows.{TableRows}
use Rattle.file_scan.specs.Read.{HoldsVersion1, HoldsVersion2, HoldsVersion3, HoldsRows, tables_of}
use Rattle.file_scan.specs.Causes.{rows_at, LacksCatalogue, LacksSales, LacksDoors, LacksOthers, LacksVersion2, LacksVersion3, LacksTable, IsDamagedCatalogue, AreDamagedSales, AreDamagedDoors, AreDamagedOthers, AreVersion2Damaged, AreVersion3Damaged, HasTables, HasDamage, IsReadable, IsReadableAs, ShowsBy, OfTheShop, HasNoOtherVersion, IsOneShop, IsCause}
use Rattle.file_scan.specs.Fits.{IsFitFile}
use Rattle.file_scan.specs.Lawful.{AreFit, AreFitAt, IsOfMachine}
use Rattle.file_scan.proofs.CauseLemmas.{shows_rows, one_is_ours, version_told}
use Rattle.file_scan.proofs.ReadLemmas.{one_shown, was_some}

-- what has no limits is within them
all_free : {T : Type 0} (xs : List T) → All (λ w. Unit {0}) xs
all_free [] = All-nil (λ w. Unit {0})
all_free (x ∷ xs) = All-cons (λ w. Unit {0}) x xs tt (all_free xs)

-- the trees show the rows of the tables of the first version
abbrev pub HoldsOfVersion1 : Trees → Tables → Type 0
HoldsOfVersion1 db t = HoldParts schema db (take 17 (parts t))

-- and those of the second
abbrev pub HoldsOfVersion2 : Trees → Tables → Type 0
HoldsOfVersion2 db t = HoldsVersion2 db t.releases t.exits

-- and those of the third
abbrev pub HoldsOfVersion3 : Trees → Tables → Type 0
HoldsOfVersion3 db t = HoldsVersion3 db t.budgets t.spents t.discounts

-- those of the first are the same tables in each version
first_of : (db : Trees) (t : Tables) → Holds db t → HoldsOfVersion1 db t
first_of db t h =
    let sales = h.1.1.1.1.1.1 in
    let doors = sales.1.1.1.1.1 in
    let others = doors.1.1.1 in
    (h.0, (h.1.0, (h.1.1.0, (h.1.1.1.0, (h.1.1.1.1.0, (h.1.1.1.1.1.0, (sales.0, (sales.1.0, (sales.1.1.0, (sales.1.1.1.0, (sales.1.1.1.1.0, (doors.0, (doors.1.0, (doors.1.1.0, (others.0, (others.1.0, (others.1.1.0, tt)))))))))))))))))

version2_of : (db : Trees) (t : Tables) → Holds db t → HoldsOfVersion2 db t
version2_of db t h = record { releases = h.1.1.1.1.1.1.1.1.1.1.1.1.1.1.1.1.1.0; exits = h.1.1.1.1.1.1.1.1.1.1.1.1.1.1.1.1.1.1.0 }

version3_of : (db : Trees) (t : Tables) → Holds db t → HoldsOfVersion3 db t
version3_of db t h = record { budgets = h.1.1.1.1.1.1.1.1.1.1.1.1.1.1.1.1.1.1.1.0; spents = h.1.1.1.1.1.1.1.1.1.1.1.1.1.1.1.1.1.1.1.1.0; discounts = h.1.1.1.1.1.1.1.1.1.1.1.1.1.1.1.1.1.1.1.1.1.0 }

-- those of the second are the first tables in the third
second_of : (db : Trees) (t : Tables) → HoldsOfVersion1 db t → HoldsOfVersion2 db t → HoldParts schema db (take 19 (parts t))
second_of db t h k =
    let sales = h.1.1.1.1.1.1 in
    let doors = sales.1.1.1.1.1 in
    let others = doors.1.1.1 in
    (h.0, (h.1.0, (h.1.1.0, (h.1.1.1.0, (h.1.1.1.1.0, (h.1.1.1.1.1.0, (sales.0, (sales.1.0, (sales.1.1.0, (sales.1.1.1.0, (sales.1.1.1.1.0, (doors.0, (doors.1.0, (doors.1.1.0, (others.0, (others.1.0, (others.1.1.0, (k.releases, (k.exits, tt)))))))))))))))))))

all_of : (db : Trees) (t : Tables) → HoldsOfVersion1 db t → HoldsOfVersion2 db t → HoldsOfVersion3 db t → Holds db t
all_of db t h k m =
    let sales = h.1.1.1.1.1.1 in
    let doors = sales.1.1.1.1.1 in
    let others = doors.1.1.1 in
    (h.0, (h.1.0, (h.1.1.0, (h.1.1.1.0, (h.1.1.1.1.0, (h.1.1.1.1.1.0, (sales.0, (sales.1.0, (sales.1.1.0, (sales.1.1.1.0, (sales.1.1.1.1.0, (doors.0, (doors.1.0, (doors.1.1.0, (others.0, (others.1.0, (others.1.1.0, (k.releases, (k.exits, (m.budgets, (m.spents, (m.discounts, tt))))))))))))))))))))))

whole_catalogue : {own : ℕ} (t : Tables) (db : Trees) → HoldsOfVersion1 db t → AreFitAt own t → IsDamagedCatalogue db → ⊥
whole_catalogue t db held fit (inl bad) = undamaged item_row IsFitItem t.items (rows_at db 1) fit.items held.1.0 bad
whole_catalogue t db held fit (inr (inl bad)) = undamaged variation_row IsFitVariation t.variations (rows_at db 2) fit.variations held.1.1.0 bad
whole_catalogue t db held fit (inr (inr (inl bad))) = undamaged quota_row IsFitQuota t.quotas (rows_at db 3) fit.quotas held.1.1.1.0 bad
whole_catalogue t db held fit (inr (inr (inr (inl bad)))) = undamaged quota_item_row (λ w. Unit {0}) t.quota_items (rows_at db 4) (all_free t.quota_items) held.1.1.1.1.0 bad
whole_catalogue t db held fit (inr (inr (inr (inr bad)))) = undamaged quota_variation_row (λ w. Unit {0}) t.quota_variations (rows_at db 6) (all_free t.quota_variations) held.1.1.1.1.1.0 bad

whole_sales : {own : ℕ} (t : Tables) (db : Trees) → HoldsOfVersion1 db t → AreFitAt own t → AreDamagedSales db → ⊥
whole_sales t db held fit (inl bad) = undamaged voucher_row IsFitVoucher t.vouchers (rows_at db 8) fit.vouchers held.1.1.1.1.1.1.0 bad
whole_sales t db held fit (inr (inl bad)) = undamaged cart_row IsFitCart t.carts (rows_at db 10) fit.carts held.1.1.1.1.1.1.1.0 bad
whole_sales t db held fit (inr (inr (inl bad))) = undamaged order_row IsFitOrder t.orders (rows_at db 11) fit.orders held.1.1.1.1.1.1.1.1.0 bad
whole_sales t db held fit (inr (inr (inr (inl bad)))) = undamaged position_row IsFitPosition t.positions (rows_at db 12) fit.positions held.1.1.1.1.1.1.1.1.1.0 bad
whole_sales t db held fit (inr (inr (inr (inr bad)))) = undamaged waiting_row IsFitWaiting t.waiting (rows_at db 15) fit.waiting held.1.1.1.1.1.1.1.1.1.1.0 bad

whole_doors : {own : ℕ} (t : Tables) (db : Trees) → HoldsOfVersion1 db t → AreFitAt own t → AreDamagedDoors db → ⊥
whole_doors t db held fit (inl bad) = undamaged list_row IsFitList t.checkin_lists (rows_at db 16) fit.checkin_lists held.1.1.1.1.1.1.1.1.1.1.1.0 bad
whole_doors t db held fit (inr (inl bad)) = undamaged list_item_row (λ w. Unit {0}) t.list_items (rows_at db 17) (all_free t.list_items) held.1.1.1.1.1.1.1.1.1.1.1.1.0 bad
whole_doors t db held fit (inr (inr bad)) = undamaged checkin_row IsFitCheckin t.checkins (rows_at db 19) fit.checkins held.1.1.1.1.1.1.1.1.1.1.1.1.1.0 bad

whole_others : {own : ℕ} (t : Tables) (db : Trees) → HoldsOfVersion1 db t → AreFitAt own t → AreDamagedOthers db → ⊥
whole_others t db held fit (inl bad) = undamaged count_row (λ w. Unit {0}) t.counts (rows_at db 21) (all_free t.counts) held.1.1.1.1.1.1.1.1.1.1.1.1.1.1.0 bad
whole_others t db held fit (inr (inl bad)) = undamaged token_row IsFitToken t.tokens (rows_at db 22) fit.tokens held.1.1.1.1.1.1.1.1.1.1.1.1.1.1.1.0 bad
whole_others t db held fit (inr (inr bad)) = undamaged kept_row IsFitKept t.kept (rows_at db 24) fit.kept held.1.1.1.1.1.1.1.1.1.1.1.1.1.1.1.1.0 bad

whole_version2 : (t : Tables) (db : Trees) → HoldsOfVersion2 db t → AreVersion2Damaged db → ⊥
whole_version2 t db held (inl bad) = undamaged release_row (λ w. Unit {0}) t.releases (rows_at db 27) (all_free t.releases) held.releases bad
whole_version2 t db held (inr bad) = undamaged exit_row (λ w. Unit {0}) t.exits (rows_at db 28) (all_free t.exits) held.exits bad

whole_version3 : {own : ℕ} (t : Tables) (db : Trees) → HoldsOfVersion3 db t → AreFitAt own t → AreVersion3Damaged db → ⊥
whole_version3 t db held fit (inl bad) = undamaged budget_row IsFitBudget t.budgets (rows_at db 29) fit.budgets held.budgets bad
whole_version3 t db held fit (inr (inl bad)) = undamaged spent_row (λ w. Unit {0}) t.spents (rows_at db 30) (all_free t.spents) held.spents bad
whole_version3 t db held fit (inr (inr bad)) = undamaged discount_row IsFitDiscount t.discounts (rows_at db 31) fit.discounts held.discounts bad

pub undamaged_tables : {own : ℕ} (t : Tables) (db : Trees) → HoldsOfVersion1 db t → (2 ≤ own → HoldsOfVersion2 db t) → (3 ≤ own → HoldsOfVersion3 db t) → AreFitAt own t → HasDamage own db → ⊥
undamaged_tables t db held version2 version3 fit (inl (inl bad)) = whole_catalogue t db held fit bad
undamaged_tables t db held version2 version3 fit (inl (inr (inl bad))) = whole_sales t db held fit bad
undamaged_tables t db held version2 version3 fit (inl (inr (inr (inl bad)))) = whole_doors t db held fit bad
undamaged_tables t db held version2 version3 fit (inl (inr (inr (inr bad)))) = whole_others t db held fit bad
undamaged_tables t db held version2 version3 fit (inr (inl bad)) = whole_version2 t db (version2 bad.0) bad.1
undamaged_tables t db held version2 version3 fit (inr (inr bad)) = whole_version3 t db (version3 bad.0) fit bad.1

-- ---- our tables lack none

has_catalogue : (s : Schema) → IsSince 1 s → LacksCatalogue s → ⊥
has_catalogue s known (inl none) = lacks_none of_items.select_text _ [] (of_items.select_since s known) s refl none
has_catalogue s known (inr (inl none)) = lacks_none of_variations.select_text _ [] (of_variations.select_since s known) s refl none
has_catalogue s known (inr (inr (inl none))) = lacks_none of_quotas.select_text _ [] (of_quotas.select_since s known) s refl none
has_catalogue s known (inr (inr (inr (inl none)))) = lacks_none (select_text quota_items) _ [] (quota_items_selected.select s known) s refl none
has_catalogue s known (inr (inr (inr (inr none)))) = lacks_none of_quota_variations.select_text _ [] (of_quota_variations.select_since s known) s refl none

has_sales : (s : Schema) → IsSince 1 s → LacksSales s → ⊥
has_sales s known (inl none) = lacks_none (select_text vouchers) _ [] (vouchers_selected.select s known) s refl none
has_sales s known (inr (inl none)) = lacks_none of_carts.select_text _ [] (of_carts.select_since s known) s refl none
has_sales s known (inr (inr (inl none))) = lacks_none of_orders.select_text _ [] (of_orders.select_since s known) s refl none
has_sales s known (inr (inr (inr (inl none)))) = lacks_none (select_text order_positions) _ [] (order_positions_selected.select s known) s refl none
has_sales s known (inr (inr (inr (inr none)))) = lacks_none of_waiting.select_text _ [] (of_waiting.select_since s known) s refl none

has_doors : (s : Schema) → IsSince 1 s → LacksDoors s → ⊥
has_doors s known (inl none) = lacks_none of_checkin_lists.select_text _ [] (of_checkin_lists.select_since s known) s refl none
has_doors s known (inr (inl none)) = lacks_none of_list_items.select_text _ [] (of_list_items.select_since s known) s refl none
has_doors s known (inr (inr none)) = lacks_none of_checkins.select_text _ [] (of_checkins.select_since s known) s refl none

has_others : (s : Schema) → IsSince 1 s → LacksOthers s → ⊥
has_others s known (inl none) = lacks_none of_counts.select_text _ [] (of_counts.select_since s known) s refl none
has_others s known (inr (inl none)) = lacks_none of_tokens.select_text _ [] (of_tokens.select_since s known) s refl none
has_others s known (inr (inr none)) = lacks_none of_kept.select_text _ [] (of_kept.select_since s known) s refl none

has_version2 : (s : Schema) → IsSince 2 s → LacksVersion2 s → ⊥
has_version2 s known (inl none) = lacks_none of_releases.select_text _ [] (of_releases.select_since s known) s refl none
has_version2 s known (inr none) = lacks_none of_exits.select_text _ [] (of_exits.select_since s known) s refl none

has_version3 : (s : Schema) → IsSince 3 s → LacksVersion3 s → ⊥
has_version3 s known (inl none) = lacks_none of_budgets.select_text _ [] (of_budgets.select_since s known) s refl none
has_version3 s known (inr (inl none)) = lacks_none of_spents.select_text _ [] (of_spents.select_since s known) s refl none
has_version3 s known (inr (inr none)) = lacks_none of_discounts.select_text _ [] (of_discounts.select_since s known) s refl none

-- of a version those that it has
pub has_tables : (own : ℕ) → 1 ≤ own → (s : Schema) → IsSince own s → LacksTable own s → ⊥
has_tables own first s known (inl (inl none)) = has_catalogue s (since_before 1 own first s known) none
has_tables own first s known (inl (inr (inl none))) = has_sales s (since_before 1 own first s known) none
has_tables own first s known (inl (inr (inr (inl none)))) = has_doors s (since_before 1 own first s known) none
has_tables own first s known (inl (inr (inr (inr none)))) = has_others s (since_before 1 own first s known) none
has_tables own first s known (inr (inl none)) = has_version2 s (since_before 2 own none.0 s known) none.1
has_tables own first s known (inr (inr none)) = has_version3 s (since_before 3 own none.0 s known) none.1

-- ---- the shop's row

-- the row that is shown is the one that tables hold
alone : (t : Tables) (db : Database) → db.schema ≡ schema → Holds db.trees t → (shop : ShopRow) → t.shop ≡ shop ∷ [] → (rows : List Row) → ShowsBy of_shop.select_text db rows → rows ≡ shop_row shop ∷ []
alone t db known held shop one rows shows =
    one_shown t.shop shop rows (IsPermutation-trans _ _ _ held.0 (IsPermutation-sym _ _ (shows_rows of_shop.select_text 0 of_shop.select_is db known rows shows))) one

shop_stands : (t : Tables) (db : Database) → db.schema ≡ schema → Holds db.trees t → AreFit t → (rows : List Row) → ShowsBy of_shop.select_text db rows → IsOneShop this_version rows
shop_stands t db known held fit rows shows = (fit.shop, fit.shop_fits, fit.ids, fit.first, alone t db known held fit.shop fit.alone rows shows)

-- where one shop was shown, no other rows are
shown_again : (db : Database) → db.schema ≡ schema → OfTheShop db (IsOneShop this_version) → (rows : List Row) → ShowsBy of_shop.select_text db rows → IsOneShop this_version rows
shown_again db known (all, shows, (shop, fit, ids, first, is)) rows again =
    let one = subst (λ l. IsPermutation l (rows_at db.trees 0)) is (shows_rows of_shop.select_text 0 of_shop.select_is db known all shows) in
    (shop, fit, ids, first, one_permutation (shop_row shop) rows (IsPermutation-trans _ _ _ one (IsPermutation-sym _ _ (shows_rows of_shop.select_text 0 of_shop.select_is db known rows again))))

-- a version that is told is that of the shop's row
pub tells : (t : Tables) (db : Database) → db.schema ≡ schema → Holds db.trees t → (shop : ShopRow) → t.shop ≡ shop ∷ [] → (version : ℤ) → IsCause db (Version version) → (pos shop.version ≡ version) × (version ≢ pos this_version)
tells t db known held shop one version (rows, shows, (row, single, told, other)) =
    let is = alone t db known held shop one rows shows in
    let same : row ≡ shop_row shop = cc in
    (version_told shop row version same told, other)

-- ---- no cause

module _ (db : Database) (known : db.schema ≡ schema) where
  -- such a file is refused for want of memory, or because the store fails
  clear : (of : (rows : List Row) → ShowsBy of_shop.select_text db rows → IsOneShop this_version rows) → (HasDamage this_version db.trees → ⊥) → (e : OpenError) → IsCause db e → IsOfMachine e
  clear of whole Memory h = tt
  clear of whole NotAShop (inl none) = lacks_none of_shop.select_text _ [] of_shop.select_is db.schema known none
  clear of whole NotAShop (inr h) = has_tables this_version (omega arith) db.schema (since_this this_version (omega arith) db.schema known) h.2.1
  clear of whole (Version version) h = one_is_ours this_version h.0 (of h.0 h.1) version h.2
  clear of whole (Damaged rule.Shop) h = h.2.2 (of h.0 h.1)
  clear of whole (Damaged rule.Limits) h = whole (h.2.2 (since_this this_version (omega arith) db.schema known))
  clear of whole (Damaged rule.Ids) h = h
  clear of whole (Damaged rule.Names) h = h
  clear of whole (Damaged rule.Positions) h = h
  clear of whole (Damaged rule.Headroom) h = h
  clear of whole (Damaged rule.Counters) h = h
  clear of whole (Damaged rule.Budgets) h = h
  clear of whole Store h = tt

  pub of_machine : (t : Tables) → Holds db.trees t → AreFit t → (e : OpenError) → IsCause db e → IsOfMachine e
  of_machine t held fit = clear (shop_stands t db known held fit) (undamaged_tables t db.trees (first_of db.trees t held) (λ later. version2_of db.trees t held) (λ later. version3_of db.trees t held) fit)

  pub of_readable : IsReadable db → (e : OpenError) → IsCause db e → IsOfMachine e
  of_readable r = clear (shown_again db known r.shop) (r.values (since_this this_version (omega arith) db.schema known))

-- ---- a file of another version

-- of the tables of a version the first one shows the shop's row
shop_at : (from : ℕ) (db : Trees) (t : Tables) (shop : ShopRow) → HoldsAt from db t → t.shop ≡ shop ∷ [] → IsSince 1 (schema_of_version from) × IsPermutation (map shop_row t.shop) (rows_at db 0)
shop_at zero db t shop h one = absurd (let none : map shop_row t.shop ≡ [] = h.none.0 in let some = ap (map shop_row) (sym one) ∙ none in cc)
shop_at (suc zero) db t shop h one = (record { version = 1; from = omega arith; known = omega arith; is = refl }, h.shown.0)
shop_at (suc (suc zero)) db t shop h one = (record { version = 2; from = omega arith; known = omega arith; is = refl }, h.shown.0)
shop_at (suc (suc (suc from))) db t shop h one = (since_one schema refl, h.shown.0)

module _ (from : ℕ) (t : Tables) (db : Database) (known : db.schema ≡ schema_of_version from) (held : HoldsAt from db.trees t) (shop : ShopRow) (one : t.shop ≡ shop ∷ []) (other : shop.version ≢ this_version) where
  since : IsSince 1 db.schema
  since = subst (IsSince 1) (sym known) (shop_at from db.trees t shop held one).0

  its_row : (rows : List Row) → ShowsBy of_shop.select_text db rows → rows ≡ shop_row shop ∷ []
  its_row rows shows =
      one_shown t.shop shop rows (IsPermutation-trans _ _ _ (shop_at from db.trees t shop held one).1 (IsPermutation-sym _ _ (shows_rows of_shop.select_text 0 (of_shop.select_since db.schema since) db refl rows shows))) one

  is_other : (rows : List Row) → ShowsBy of_shop.select_text db rows → HasNoOtherVersion this_version rows → ⊥
  is_other rows shows none = none (pos shop.version) (shop_row shop, its_row rows shows, refl, λ is. other (let same : shop.version ≡ this_version = cc in same))

  is_none : (rows : List Row) → ShowsBy of_shop.select_text db rows → IsOneShop this_version rows → ⊥
  is_none rows shows here = is_other rows shows (one_is_ours this_version rows here)

  -- it is refused with its version, or for want of memory or because the store fails
  pub told_as : (e : OpenError) → IsCause db e → (e ≡ Version (pos shop.version)) ⊎ IsOfMachine e
  told_as Memory h = inr tt
  told_as NotAShop (inl none) = absurd (lacks_none of_shop.select_text _ [] (of_shop.select_since db.schema since) db.schema refl none)
  told_as NotAShop (inr h) = absurd (is_other h.0 h.1 h.2.0)
  told_as (Version version) (rows, shows, (row, single, told, differs)) =
      let is = its_row rows shows in
      let same : row ≡ shop_row shop = cc in
      inl (ap Version (sym (version_told shop row version same told)))
  told_as (Damaged rule.Shop) h = absurd (is_other h.0 h.1 h.2.0)
  told_as (Damaged rule.Limits) h = absurd (is_none h.0 h.1 h.2.0)
  told_as (Damaged rule.Ids) h = absurd h
  told_as (Damaged rule.Names) h = absurd h
  told_as (Damaged rule.Positions) h = absurd h
  told_as (Damaged rule.Headroom) h = absurd h
  told_as (Damaged rule.Counters) h = absurd h
  told_as (Damaged rule.Budgets) h = absurd h
  told_as Store h = inr tt

  pub unreadable : IsReadable db → ⊥
  unreadable r = is_none r.shop.0 r.shop.1 r.shop.2

-- ---- a file that was read

-- as a file of this version
pub held_at : (own : ℕ) → 1 ≤ own → own ≤ this_version → (db : Trees) (file : FileTables) → HoldsOfVersion1 db (tables_of file) → HoldsRows own db file.tables → HoldsAt own db (tables_of file)
held_at zero first last db file h rows = absurd (omega (arith, first))
held_at (suc zero) first last db file h rows =
    let version2 = rows.no_version2 (omega arith) in
    let version3 = rows.no_version3 (omega arith) in
    record { shown = h; none = (ap (map release_row) version2.releases, (ap (map exit_row) version2.exits, (ap (map budget_row) version3.budgets, (ap (map spent_row) version3.spents, (ap (map discount_row) version3.discounts, tt))))) }
held_at (suc (suc zero)) first last db file h rows =
    let version3 = rows.no_version3 (omega arith) in
    record { shown = second_of db (tables_of file) h (rows.version2 (omega arith)); none = (ap (map budget_row) version3.budgets, (ap (map spent_row) version3.spents, (ap (map discount_row) version3.discounts, tt))) }
held_at (suc (suc (suc zero))) first last db file h rows = record { shown = all_of db (tables_of file) h (rows.version2 (omega arith)) (rows.version3 (omega arith)); none = tt }
held_at (suc (suc (suc (suc own)))) first last db file h rows = absurd (omega (arith, last))

pub fit_read : {own : ℕ} (file : FileTables) → file.shop.version ≡ own → IsFitFile file → AreFitAt own (tables_of file)
fit_read file first fit = record {
  shop = file.shop;
  alone = refl;
  first = first;
  shop_fits = fit.shop;
  ids = fit.ids;
  items = fit.tables.catalogue.items;
  variations = fit.tables.catalogue.variations;
  quotas = fit.tables.catalogue.quotas;
  vouchers = fit.tables.sales.vouchers;
  carts = fit.tables.sales.carts;
  orders = fit.tables.sales.orders;
  positions = fit.tables.sales.positions;
  waiting = fit.tables.sales.waiting;
  checkin_lists = fit.tables.doors.checkin_lists;
  checkins = fit.tables.doors.checkins;
  tokens = fit.tables.others.tokens;
  kept = fit.tables.others.kept;
  budgets = fit.tables.sales.budgets;
  discounts = fit.tables.sales.discounts;
}

-- the trees hold what was read
pub read_holds : (db : Database) (rows : List Row) (file : FileTables) → IsSince 1 db.schema → ShowsBy of_shop.select_text db rows → rows ≡ shop_row file.shop ∷ [] → HoldsVersion1 db.trees file.tables → HoldsOfVersion1 db.trees (tables_of file)
read_holds db rows file known shows is held =
    let shop = subst (λ l. IsPermutation l (rows_at db.trees 0)) is (shows_rows of_shop.select_text 0 (of_shop.select_since db.schema known) db refl rows shows) in
    let a = held.catalogue in
    let b = held.sales in
    let d = held.doors in
    let e = held.others in
    (shop, (a.items, (a.variations, (a.quotas, (a.quota_items, (a.quota_variations, (b.vouchers, (b.carts, (b.orders, (b.positions, (b.waiting, (d.checkin_lists, (d.list_items, (d.checkins, (e.counts, (e.tokens, (e.kept, tt)))))))))))))))))

pub readable : (own : ℕ) → 1 ≤ own → (db : Database) (rows : List Row) (o : Option TableRows) (r : Result FileTables OpenError) → ShowsBy of_shop.select_text db rows → IfOk r (λ file. rows ≡ shop_row file.shop ∷ []) → IfOk r (λ file. file.shop.version ≡ own) → IfOk r (λ file. o ≡ Some file.tables)
    → IfOk r IsFitFile → HasTables own db.schema → (IsSince own db.schema → IfSome o (HoldsRows own db.trees)) → OnOk r (IsReadableAs own db)
readable own from db rows o (Ok file) shows is first some fit has held = record {
  shop = (rows, shows, (file.shop, fit.shop, fit.ids, first, is));
  tables = has;
  values = λ known.
      let rows_in = was_some o file.tables (HoldsRows own db.trees) some (held known) in
      undamaged_tables (tables_of file) db.trees (read_holds db rows file (since_before 1 own from db.schema known) shows is rows_in.first) rows_in.version2 rows_in.version3 (fit_read file first fit);
}
readable own from db rows o (Err e) shows is first some fit has held = tt
