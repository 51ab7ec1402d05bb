-- The version that the shop's row of a file tells.
use Rattle.std.proofs.Common.{◌≡◌, ℕ, zero, suc, pos, List, [], ◌∷◌, map, refl, sym, ap, subst, ◌∙◌, arith}
use Rattle.std.specs.List.Sorted.{IsPermutation}
use Rattle.std.proofs.lemmas.List.Sorted.{IsPermutation-sym, IsPermutation-trans}
use Rattle.sqlite_value.specs.Order.{Row}
use Rattle.sqlite_trees.specs.Tree.{Trees}
use Rattle.sqlite.specs.Effect.{Database}
use Rattle.file_schema.specs.Tables.{schema}
use Rattle.file_schema.specs.Versions.{schema_of_version}
use Rattle.file_rows.specs.declared.rows.ShopRow.{ShopRow}
use Rattle.file_rows.specs.Rows.{shop_row}
use Rattle.file_rows.specs.Tables.{Tables, HoldsAt}
use Rattle.file_reads.specs.Since.{IsSince}
use Rattle.file_reads.specs.Texts.{shop_text}
use Rattle.file_reads.proofs.ShopLemmas as of_shop
use Rattle.file_reads.proofs.SinceLemmas.{since_one}
use Rattle.file_scan.specs.declared.error.OpenError.TheVariants.{Version}
use Rattle.file_scan.specs.Causes.{IsCause, IsReadableAs, ShowsBy, rows_at}
use Rattle.file_scan.proofs.CauseLemmas.{shows_rows, version_told}
use Rattle.file_scan.proofs.ReadLemmas.{one_shown}
use Rattle.file_open.specs.Migrated.{IsOfVersion}

-- the first table of each version shows the shop's row
pub shop_at : (version : ℕ) (db : Trees) (t : Tables) (shop : ShopRow) → HoldsAt version db t → t.shop ≡ shop ∷ [] → IsSince 1 (schema_of_version version) × IsPermutation (map shop_row t.shop) (rows_at db 0)
shop_at zero db t shop h one = absurd (let none : map shop_row t.shop ≡ [] = h.none.0 in let some = ap (map shop_row) (sym one) ∙ none in cc)
shop_at (suc zero) db t shop h one = (record { version = 1; from = omega arith; known = omega arith; is = refl }, h.shown.0)
shop_at (suc (suc zero)) db t shop h one = (record { version = 2; from = omega arith; known = omega arith; is = refl }, h.shown.0)
shop_at (suc (suc (suc version))) db t shop h one = (since_one schema refl, h.shown.0)

module _ (version : ℕ) (db : Database) (of : IsOfVersion version db) where
  since : IsSince 1 db.schema
  since = subst (IsSince 1) (sym of.known) (shop_at version db.trees of.tables of.shop of.held of.alone).0

  -- it is the row that is shown
  pub its_row : (rows : List Row) → ShowsBy shop_text db rows → rows ≡ shop_row of.shop ∷ []
  its_row rows shows =
      one_shown of.tables.shop of.shop rows (IsPermutation-trans _ _ _ (shop_at version db.trees of.tables of.shop of.held of.alone).1 (IsPermutation-sym _ _ (shows_rows shop_text 0 (of_shop.select_since db.schema since) db refl rows shows))) of.alone

  -- another version than this program's that the file tells is that one
  pub told_version : (told : ℕ) → IsCause db (Version (pos told)) → version ≡ told
  told_version told (rows, shows, (row, single, column, other)) =
      let is = its_row rows shows in
      let same : row ≡ shop_row of.shop = cc in
      let both = version_told of.shop row (pos told) same column in
      let found : of.shop.version ≡ told = cc in
      sym of.version_is ∙ found

  -- where all can be read as that of a version, it is that
  pub read_version : (own : ℕ) → IsReadableAs own db → version ≡ own
  read_version own readable =
      let rows = readable.shop.0 in
      let shop = readable.shop.2.0 in
      let shown : rows ≡ shop_row shop ∷ [] = readable.shop.2.4 in
      let is = its_row rows readable.shop.1 in
      let same : shop_row shop ≡ shop_row of.shop = cc in
      let both = version_told of.shop (shop_row shop) (pos shop.version) same refl in
      let found : of.shop.version ≡ shop.version = cc in
      sym of.version_is ∙ found ∙ readable.shop.2.3
