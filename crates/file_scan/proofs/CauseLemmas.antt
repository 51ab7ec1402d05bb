-- Why a file isn't opened: one cause for another.
use Rattle.std.proofs.Common.{◌≡◌, ◌⊎◌, inl, inr, ℕ, ℤ, pos, List, [], map, sym, subst, subst₂, ap, ◌∙◌}
use Rattle.std.specs.List.Sorted.{IsPermutation}
use Rattle.sqlite_value.specs.declared.value.Value.TheVariants.{Int}
use Rattle.sqlite_value.specs.Order.{Row, column}
use Rattle.sqlite_schema.specs.declared.schema.Schema.{Schema}
use Rattle.sqlite.specs.Effect.{Database, Reads}
use Rattle.sqlite.specs.Clock.{timed}
use Rattle.sqlite.specs.Listing.{understood, reads_listing, IsSourceOf}
use Rattle.sqlite.specs.State.{State, Shown, ShowsRows}
use Rattle.sqlite.proofs.Callers.{IsPlain, command_of}
use Rattle.file_schema.specs.Tables.{schema}
use Rattle.file_schema.specs.Parts.{row_shown}
use Rattle.file_schema.specs.declared.error.RowError.{RowError}
use Rattle.file_schema.specs.declared.error.RowError.TheVariants.{Memory, Foreign, Damaged, Store}
use Rattle.file_rows.specs.declared.rows.ShopRow.{ShopRow}
use Rattle.file_rows.specs.Rows.{shop_row}
use Rattle.file_reads.specs.Damage.{IsFor, IsForReading}
use Rattle.file_reads.specs.Select.{IsSelectIn}
use Rattle.file_reads.proofs.Loads.{command_is, shows_all}
use Rattle.file_scan.specs.Causes.{ShowsBy, HasNoOtherVersion, IsOneShop}

-- ---- one table

-- a query shows what a SELECT shows of what stood
pub shown_by : (sql : List ℕ) (old new : State) (rows : List Row) → IsForReading old.now.schema sql → Shown sql [] old new rows → ShowsBy sql old.now rows
unfolding Shown
shown_by sql old new rows reads h =
    let it = subst (ShowsRows old new sql h.0 (timed [] h.0.formats h.1.now) rows) (reads h.0 h.1.is) h.2 in
    (h.0, h.1.is, it.0, it.1, h.1.now, it.2)

-- of our tables these are the rows of the tree
pub shows_rows : {s : Schema} (sql : List ℕ) (tree : ℕ) → IsSelectIn s sql tree [] → (db : Database) → db.schema ≡ s → (rows : List Row) → ShowsBy sql db rows → IsPermutation rows (map (row_shown schema tree) (db.trees tree))
shows_rows sql tree is db has rows h =
    let known = sym h.1 ∙ ap (λ k. understood k sql) has in
    let bare = subst IsPlain (sym known) is.asks.1 in
    let source : h.2 ≡ db = subst (λ b. IsSourceOf b db h.2) (ap (λ k. reads_listing k sql) has ∙ is.unlisted) h.3 in
    let plainly_read : Reads h.0.command h.2 [] rows = rw bare.1 at h.5 in
    let read = subst₂ (λ k d. Reads k d [] rows) (ap command_of known ∙ command_is sql tree [] is) source plainly_read in
    shows_all sql tree is db rows read

-- ---- one table and then others

-- of the first, or of the others
pub of_first : (F G K D E : Type 0) (e : RowError) → IsFor F (K → D) e → IsFor (F ⊎ G) (K → D ⊎ E) e
of_first F G K D E Memory h = tt
of_first F G K D E Foreign h = inl h
of_first F G K D E Damaged h = λ k. inl (h k)
of_first F G K D E Store h = tt

pub of_second : (F G K D E : Type 0) (e : RowError) → IsFor G (K → E) e → IsFor (F ⊎ G) (K → D ⊎ E) e
of_second F G K D E Memory h = tt
of_second F G K D E Foreign h = inr h
of_second F G K D E Damaged h = λ k. inr (h k)
of_second F G K D E Store h = tt

-- ---- the version

pub version_told : (shop : ShopRow) (row : Row) (version : ℤ) → row ≡ shop_row shop → column row 1 ≡ Int version → pos shop.version ≡ version
version_told shop row version is told = let both = sym (ap (λ (r : Row). column r 1) is) ∙ told in cc

-- the shop's row has this version
pub one_is_ours : (own : ℕ) (rows : List Row) → IsOneShop own rows → HasNoOtherVersion own rows
one_is_ours own rows (shop, fit, ids, first, is) version (row, one, told, other) =
    let same : row ≡ shop_row shop = cc in
    other (sym (version_told shop row version same told) ∙ ap pos first)
