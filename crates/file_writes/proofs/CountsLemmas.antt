-- The statements on `quota_count`.
use Rattle.std.proofs.Common.{◌≡◌, List, ◌∷◌, ℕ, codes, drop, map, refl}
use Rattle.sqlite_value.specs.declared.value.Value.TheVariants.{Null}
use Rattle.sqlite_value.specs.Order.{Row}
use Rattle.sqlite_rules.specs.Cast.{cast_row}
use Rattle.sqlite_tied.specs.Compute.{everything}
use Rattle.sqlite.specs.Listing.{understood}
use Rattle.file_schema.specs.Tables.{quota_count_table}
use Rattle.file_schema.specs.Shapes.{AsksFor, insert_keyed, update_keyed, delete_keyed}
use Rattle.file_schema.proofs.Parts.{all_numbered, rows_without}
use Rattle.file_schema.proofs.Casts.{cast_null, cast_int}
use Rattle.model_rows.specs.declared.count_rows.QuotaCount.{QuotaCount}
use Rattle.file_rows.specs.Cells.{number}
use Rattle.file_rows.specs.Rows.{count_row}
use Rattle.file_rows.specs.Changes.{head_of_count, with_count, without_count}
use Rattle.file_writes.specs.Statements.{AreStatementsOf}

abbrev insert_text : List ℕ
insert_text = codes "INSERT INTO quota_count (quota_id, paid, pending, blocked, carts, waiting) VALUES (?1, ?2, ?3, ?4, ?5, ?6)"

abbrev update_text : List ℕ
update_text = codes "UPDATE quota_count SET paid = ?2, pending = ?3, blocked = ?4, carts = ?5, waiting = ?6 WHERE quota_id = ?1"

abbrev delete_text : List ℕ
delete_text = codes "DELETE FROM quota_count WHERE quota_id = ?1"

inserts : AsksFor (insert_keyed 14 5) insert_text
unfolding understood everything
inserts = (refl, (refl, refl))

updates : AsksFor (update_keyed 14 21 5) update_text
unfolding understood everything
updates = (refl, (refl, refl))

removes : AsksFor (delete_keyed 14 21) delete_text
unfolding understood everything
removes = (refl, (refl, refl))

-- the columns behind the number, as they are stored
abbrev behind : QuotaCount → Row
behind w = Null ∷ drop 1 (count_row (head_of_count w))

stays : (w : QuotaCount) → cast_row quota_count_table (number w.quota ∷ behind w) ≡ number w.quota ∷ behind w
stays w = simp (cast_int, cast_null)

pub statements_are : AreStatementsOf (λ w. count_row (head_of_count w)) (λ w. w.quota) with_count without_count insert_text update_text delete_text
statements_are = record {
  at = 14;
  table = quota_count_table;
  rows = λ t. map count_row t.counts;
  is = record { plain = record { placed = refl; uncounted = refl; unstamped = refl; restricts = refl }; holds = λ db t h. h.1.1.1.1.1.1.1.1.1.1.1.1.1.1.0; numbered = λ t. all_numbered count_row (λ w. w.quota) (λ w. refl) t.counts };
  adds = λ w t. refl;
  takes = λ id t. rw (rows_without count_row (λ w. w.quota) (λ w. refl) id t.counts);
  behind = behind;
  begins = λ w. (_, refl);
  stays = stays;
  shows = λ w. refl;
  terms = _;
  width = 7;
  inserts = inserts;
  fills = λ w. refl;
  project = _;
  updates = updates;
  sets = λ w r. refl;
  removes = removes;
}
