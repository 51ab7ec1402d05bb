-- The statements on `waiting`.
use Rattle.std.proofs.Common.{◌≡◌, List, ◌∷◌, ℕ, codes, drop, map, pos, refl}
use Rattle.sqlite_value.specs.declared.value.Value.TheVariants.{Null}
use Rattle.sqlite_value.specs.Order.{Row}
use Rattle.sqlite_rules.specs.Cast.{cast_row}
use Rattle.sqlite_tied.specs.Compute.{everything}
use Rattle.sqlite.specs.Listing.{understood}
use Rattle.file_schema.specs.Tables.{waiting_table}
use Rattle.file_schema.specs.Shapes.{AsksFor, insert_keyed, update_keyed, delete_keyed}
use Rattle.file_schema.proofs.Parts.{all_numbered, rows_without}
use Rattle.file_schema.proofs.Casts.{cast_null, cast_int, cast_int_or_null}
use Rattle.model_rows.specs.declared.rows.Waiting.{Waiting}
use Rattle.file_rows.specs.Cells.{number}
use Rattle.file_rows.specs.Rows.{waiting_row}
use Rattle.file_rows.specs.Changes.{with_waiting, without_waiting}
use Rattle.file_writes.specs.Statements.{AreStatementsOf}

abbrev insert_text : List ℕ
insert_text = codes "INSERT INTO waiting (id, email, item_id, variation_id, priority, created, voucher_id) VALUES (?1, ?2, ?3, ?4, ?5, ?6, ?7)"

abbrev update_text : List ℕ
update_text = codes "UPDATE waiting SET email = ?2, item_id = ?3, variation_id = ?4, priority = ?5, created = ?6, voucher_id = ?7 WHERE id = ?1"

abbrev delete_text : List ℕ
delete_text = codes "DELETE FROM waiting WHERE id = ?1"

inserts : AsksFor (insert_keyed 10 6) insert_text
unfolding understood everything
inserts = (refl, (refl, refl))

updates : AsksFor (update_keyed 10 15 6) update_text
unfolding understood everything
updates = (refl, (refl, refl))

removes : AsksFor (delete_keyed 10 15) delete_text
unfolding understood everything
removes = (refl, (refl, refl))

-- the columns behind the number, as they are stored
abbrev behind : Waiting → Row
behind w = Null ∷ drop 1 (waiting_row w)

stays : (w : Waiting) → cast_row waiting_table (number w.id ∷ behind w) ≡ number w.id ∷ behind w
stays w = simp (cast_int, cast_null, cast_int_or_null (λ n. pos n))

pub statements_are : AreStatementsOf waiting_row (λ w. w.id) with_waiting without_waiting insert_text update_text delete_text
statements_are = record {
  at = 10;
  table = waiting_table;
  rows = λ t. map waiting_row t.waiting;
  is = record { plain = record { placed = refl; uncounted = refl; unstamped = refl; restricts = refl }; holds = λ db t h. h.1.1.1.1.1.1.1.1.1.1.0; numbered = λ t. all_numbered waiting_row (λ w. w.id) (λ w. refl) t.waiting };
  adds = λ w t. refl;
  takes = λ id t. rw (rows_without waiting_row (λ w. w.id) (λ w. refl) id t.waiting);
  behind = behind;
  begins = λ w. (_, refl);
  stays = stays;
  shows = λ w. refl;
  terms = _;
  width = 8;
  inserts = inserts;
  fills = λ w. refl;
  project = _;
  updates = updates;
  sets = λ w r. refl;
  removes = removes;
}
