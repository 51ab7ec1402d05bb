-- The statements on `checkin_lists`.
use Rattle.std.proofs.Common.{◌≡◌, List, ◌∷◌, ℕ, codes, drop, map, refl}
use Rattle.sqlite_value.specs.declared.value.Value.TheVariants.{Null}
use Rattle.sqlite_value.specs.Order.{Row}
use Rattle.sqlite_rules.specs.Cast.{cast_row}
use Rattle.sqlite_tied.specs.Compute.{everything}
use Rattle.sqlite.specs.Listing.{understood}
use Rattle.file_schema.specs.Tables.{checkin_lists_table}
use Rattle.file_schema.specs.Shapes.{AsksFor, insert_keyed, update_keyed, delete_keyed}
use Rattle.file_schema.proofs.Parts.{all_numbered, rows_without}
use Rattle.file_schema.proofs.Casts.{cast_null, cast_int}
use Rattle.model_rows.specs.declared.rows.CheckinList.{CheckinList}
use Rattle.file_rows.specs.Cells.{number}
use Rattle.file_rows.specs.Rows.{list_row}
use Rattle.file_rows.specs.Changes.{head_of_list, with_list, without_list}
use Rattle.file_writes.specs.Statements.{AreStatementsOf}

abbrev insert_text : List ℕ
insert_text = codes "INSERT INTO checkin_lists (id, name, all_products, include_pending, multiple, after_exit) VALUES (?1, ?2, ?3, ?4, ?5, ?6)"

abbrev update_text : List ℕ
update_text = codes "UPDATE checkin_lists SET name = ?2, all_products = ?3, include_pending = ?4, multiple = ?5, after_exit = ?6 WHERE id = ?1"

abbrev delete_text : List ℕ
delete_text = codes "DELETE FROM checkin_lists WHERE id = ?1"

inserts : AsksFor (insert_keyed 11 5) insert_text
unfolding understood everything
inserts = (refl, (refl, refl))

updates : AsksFor (update_keyed 11 16 5) update_text
unfolding understood everything
updates = (refl, (refl, refl))

removes : AsksFor (delete_keyed 11 16) delete_text
unfolding understood everything
removes = (refl, (refl, refl))

-- the columns behind the number, as they are stored
abbrev behind : CheckinList → Row
behind w = Null ∷ drop 1 (list_row (head_of_list w))

stays : (w : CheckinList) → cast_row checkin_lists_table (number w.id ∷ behind w) ≡ number w.id ∷ behind w
stays w = simp (cast_int, cast_null)

pub statements_are : AreStatementsOf (λ w. list_row (head_of_list w)) (λ w. w.id) with_list without_list insert_text update_text delete_text
statements_are = record {
  at = 11;
  table = checkin_lists_table;
  rows = λ t. map list_row t.checkin_lists;
  is = record { plain = record { placed = refl; uncounted = refl; unstamped = refl; restricts = refl }; holds = λ db t h. h.1.1.1.1.1.1.1.1.1.1.1.0; numbered = λ t. all_numbered list_row (λ w. w.id) (λ w. refl) t.checkin_lists };
  adds = λ w t. refl;
  takes = λ id t. rw (rows_without list_row (λ w. w.id) (λ w. refl) id t.checkin_lists);
  behind = behind;
  begins = λ w. (_, refl);
  stays = stays;
  shows = λ w. refl;
  terms = _;
  width = 7;
  inserts = inserts;
  fills = λ w. refl;
  project = _;
  updates = updates;
  sets = λ w r. refl;
  removes = removes;
}
