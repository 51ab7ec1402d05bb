-- The statements on `quotas`.
use Rattle.std.proofs.Common.{◌≡◌, List, ◌∷◌, ℕ, codes, drop, map, pos, refl}
use Rattle.sqlite_value.specs.declared.value.Value.TheVariants.{Null}
use Rattle.sqlite_value.specs.Order.{Row}
use Rattle.sqlite_rules.specs.Cast.{cast_row}
use Rattle.sqlite_tied.specs.Compute.{everything}
use Rattle.sqlite.specs.Listing.{understood}
use Rattle.file_schema.specs.Tables.{quotas_table}
use Rattle.file_schema.specs.Shapes.{AsksFor, insert_keyed, update_keyed, delete_keyed}
use Rattle.file_schema.proofs.Parts.{all_numbered, rows_without}
use Rattle.file_schema.proofs.Casts.{cast_null, cast_int, cast_int_or_null}
use Rattle.model_catalogue.specs.declared.rows.Quota.{Quota}
use Rattle.file_rows.specs.Cells.{number}
use Rattle.file_rows.specs.Rows.{quota_row}
use Rattle.file_rows.specs.Changes.{head_of_quota, with_quota, without_quota}
use Rattle.file_writes.specs.Statements.{AreStatementsOf}

abbrev insert_text : List ℕ
insert_text = codes "INSERT INTO quotas (id, name, size) VALUES (?1, ?2, ?3)"

abbrev update_text : List ℕ
update_text = codes "UPDATE quotas SET name = ?2, size = ?3 WHERE id = ?1"

abbrev delete_text : List ℕ
delete_text = codes "DELETE FROM quotas WHERE id = ?1"

inserts : AsksFor (insert_keyed 3 2) insert_text
unfolding understood everything
inserts = (refl, (refl, refl))

updates : AsksFor (update_keyed 3 3 2) update_text
unfolding understood everything
updates = (refl, (refl, refl))

removes : AsksFor (delete_keyed 3 3) delete_text
unfolding understood everything
removes = (refl, (refl, refl))

-- the columns behind the number, as they are stored
abbrev behind : Quota → Row
behind w = Null ∷ drop 1 (quota_row (head_of_quota w))

stays : (w : Quota) → cast_row quotas_table (number w.id ∷ behind w) ≡ number w.id ∷ behind w
stays w = simp (cast_int, cast_null, cast_int_or_null (λ n. pos n))

pub statements_are : AreStatementsOf (λ w. quota_row (head_of_quota w)) (λ w. w.id) with_quota without_quota insert_text update_text delete_text
statements_are = record {
  at = 3;
  table = quotas_table;
  rows = λ t. map quota_row t.quotas;
  is = record { plain = record { placed = refl; uncounted = refl; unstamped = refl; restricts = refl }; holds = λ db t h. h.1.1.1.0; numbered = λ t. all_numbered quota_row (λ w. w.id) (λ w. refl) t.quotas };
  adds = λ w t. refl;
  takes = λ id t. rw (rows_without quota_row (λ w. w.id) (λ w. refl) id t.quotas);
  behind = behind;
  begins = λ w. (_, refl);
  stays = stays;
  shows = λ w. refl;
  terms = _;
  width = 4;
  inserts = inserts;
  fills = λ w. refl;
  project = _;
  updates = updates;
  sets = λ w r. refl;
  removes = removes;
}
