-- The statements on `quota_release`.
use Rattle.std.proofs.Common.{◌≡◌, List, ◌∷◌, ℕ, codes, drop, map, refl}
use Rattle.sqlite_value.specs.declared.value.Value.TheVariants.{Null}
use Rattle.sqlite_value.specs.Order.{Row}
use Rattle.sqlite_rules.specs.Cast.{cast_row}
use Rattle.sqlite_tied.specs.Compute.{everything}
use Rattle.sqlite.specs.Listing.{understood}
use Rattle.file_schema.specs.Tables.{quota_release_table}
use Rattle.file_schema.specs.Shapes.{AsksFor, insert_keyed, update_keyed, delete_keyed}
use Rattle.file_schema.proofs.Parts.{all_numbered, rows_without}
use Rattle.file_schema.proofs.Casts.{cast_null, cast_int}
use Rattle.file_rows.specs.declared.rows.ReleaseRow.{ReleaseRow}
use Rattle.file_rows.specs.Cells.{number}
use Rattle.file_rows.specs.Rows.{release_row}
use Rattle.file_rows.specs.Changes.{with_release, without_release}
use Rattle.file_writes.specs.Statements.{AreStatementsOf}

abbrev insert_text : List ℕ
insert_text = codes "INSERT INTO quota_release (quota_id) VALUES (?1)"

abbrev update_text : List ℕ
update_text = codes "UPDATE quota_release SET quota_id = quota_id WHERE quota_id = ?1"

abbrev delete_text : List ℕ
delete_text = codes "DELETE FROM quota_release WHERE quota_id = ?1"

inserts : AsksFor (insert_keyed 17 0) insert_text
unfolding understood everything
inserts = (refl, (refl, refl))

updates : AsksFor (update_keyed 17 27 0) update_text
unfolding understood everything
updates = (refl, (refl, refl))

removes : AsksFor (delete_keyed 17 27) delete_text
unfolding understood everything
removes = (refl, (refl, refl))

-- the columns behind the number, as they are stored
abbrev behind : ReleaseRow → Row
behind w = Null ∷ drop 1 (release_row w)

stays : (w : ReleaseRow) → cast_row quota_release_table (number w.quota ∷ behind w) ≡ number w.quota ∷ behind w
stays w = simp (cast_int, cast_null)

pub statements_are : AreStatementsOf release_row (λ w. w.quota) with_release without_release insert_text update_text delete_text
statements_are = record {
  at = 17;
  table = quota_release_table;
  rows = λ t. map release_row t.releases;
  is = record { plain = record { placed = refl; uncounted = refl; unstamped = refl; restricts = refl }; holds = λ db t h. h.1.1.1.1.1.1.1.1.1.1.1.1.1.1.1.1.1.0; numbered = λ t. all_numbered release_row (λ w. w.quota) (λ w. refl) t.releases };
  adds = λ w t. refl;
  takes = λ id t. rw (rows_without release_row (λ w. w.quota) (λ w. refl) id t.releases);
  behind = behind;
  begins = λ w. (_, refl);
  stays = stays;
  shows = λ w. refl;
  terms = _;
  width = 2;
  inserts = inserts;
  fills = λ w. refl;
  project = _;
  updates = updates;
  sets = λ w r. refl;
  removes = removes;
}
