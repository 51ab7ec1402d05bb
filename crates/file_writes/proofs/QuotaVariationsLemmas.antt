-- The statements on `quota_variations`.
use Rattle.std.proofs.Common.{◌≡◌, List, [], ◌∷◌, ℕ, codes, drop, map, refl}
use Rattle.sqlite_value.specs.Order.{Row}
use Rattle.sqlite_sql.specs.Term.{col}
use Rattle.sqlite_schema.specs.declared.command.Command.TheVariants.{Delete}
use Rattle.sqlite_rules.specs.Cast.{cast_row}
use Rattle.sqlite_tied.specs.Compute.{everything}
use Rattle.sqlite.specs.Listing.{understood}
use Rattle.file_schema.specs.Tables.{schema, quota_variations_table}
use Rattle.file_schema.specs.Plain.{IsPlainTable}
use Rattle.file_schema.specs.Shapes.{AsksFor, insert_rowid, update_rowid, delete_keyed, over, plainly, by_owner}
use Rattle.file_schema.proofs.Parts.{all_numbered, rows_without}
use Rattle.file_schema.proofs.Casts.{cast_int}
use Rattle.file_rows.specs.declared.rows.QuotaVariation.{QuotaVariation}
use Rattle.file_rows.specs.Cells.{number}
use Rattle.file_rows.specs.Rows.{quota_variation_row}
use Rattle.file_rows.specs.Changes.{with_quota_variation, without_quota_variation}
use Rattle.file_rows.proofs.OwnedLemmas.{quota_variations_are}
use Rattle.file_writes.specs.Statements.{AreStatementsOf}
use Rattle.file_writes.specs.Removed.{IsDeleteByOwner}

abbrev insert_text : List ℕ
insert_text = codes "INSERT INTO quota_variations (rowid, quota_id, variation_id) VALUES (?1, ?2, ?3)"

abbrev update_text : List ℕ
update_text = codes "UPDATE quota_variations SET quota_id = ?2, variation_id = ?3 WHERE rowid = ?1"

abbrev delete_text : List ℕ
delete_text = codes "DELETE FROM quota_variations WHERE rowid = ?1"

inserts : AsksFor (insert_rowid 5 2) insert_text
unfolding understood everything
inserts = (refl, (refl, refl))

updates : AsksFor (update_rowid 5 6 2) update_text
unfolding understood everything
updates = (refl, (refl, refl))

removes : AsksFor (delete_keyed 5 6) delete_text
unfolding understood everything
removes = (refl, (refl, refl))

-- the columns behind the number, as they are stored
abbrev behind : QuotaVariation → Row
behind w = drop 1 (quota_variation_row w)

stays : (w : QuotaVariation) → cast_row quota_variations_table (number w.rowid ∷ behind w) ≡ number w.rowid ∷ behind w
stays w = simp (cast_int)

is_plain : IsPlainTable schema 5 quota_variations_table
is_plain = record { placed = refl; uncounted = refl; unstamped = refl; restricts = refl }

pub statements_are : AreStatementsOf quota_variation_row (λ w. w.rowid) with_quota_variation without_quota_variation insert_text update_text delete_text
statements_are = record {
  at = 5;
  table = quota_variations_table;
  rows = λ t. map quota_variation_row t.quota_variations;
  is = record { plain = is_plain; holds = λ db t h. h.1.1.1.1.1.0; numbered = λ t. all_numbered quota_variation_row (λ w. w.rowid) (λ w. refl) t.quota_variations };
  adds = λ w t. refl;
  takes = λ id t. rw (rows_without quota_variation_row (λ w. w.rowid) (λ w. refl) id t.quota_variations);
  behind = behind;
  begins = λ w. (_, refl);
  stays = stays;
  shows = λ w. refl;
  terms = _;
  width = 3;
  inserts = inserts;
  fills = λ w. refl;
  project = _;
  updates = updates;
  sets = λ w r. refl;
  removes = removes;
}

-- ---- by the quota

abbrev by_owner_text : List ℕ
by_owner_text = codes "DELETE FROM quota_variations WHERE quota_id = ?1"

removes_owned : AsksFor (Delete 5 (plainly (over 6 by_owner (col 1 0 ∷ []) []))) by_owner_text
unfolding understood everything
removes_owned = (refl, (refl, refl))

pub by_owner_is : IsDeleteByOwner by_owner_text quota_variation_row (λ (w : QuotaVariation). w.rowid) (λ w. w.quota) (λ t. t.quota_variations) (λ xs t. record t { quota_variations = xs })
by_owner_is = record {
  at = 5;
  table = quota_variations_table;
  plain = is_plain;
  asks = removes_owned;
  owned = quota_variations_are;
  numbered = λ w. refl;
  puts = λ xs t. refl;
}
