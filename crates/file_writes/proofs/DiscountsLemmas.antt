-- The statements on `position_discount`.
use Rattle.std.proofs.Common.{◌≡◌, List, ◌∷◌, ℕ, codes, drop, map, refl}
use Rattle.sqlite_value.specs.declared.value.Value.TheVariants.{Null}
use Rattle.sqlite_value.specs.Order.{Row}
use Rattle.sqlite_rules.specs.Cast.{cast_row}
use Rattle.sqlite_tied.specs.Compute.{everything}
use Rattle.sqlite.specs.Listing.{understood}
use Rattle.file_schema.specs.Tables.{position_discount_table}
use Rattle.file_schema.specs.Shapes.{AsksFor, insert_keyed, update_keyed, delete_keyed}
use Rattle.file_schema.proofs.Parts.{all_numbered, rows_without}
use Rattle.file_schema.proofs.Casts.{cast_null, cast_int}
use Rattle.file_rows.specs.declared.rows.DiscountRow.{DiscountRow}
use Rattle.file_rows.specs.Cells.{number}
use Rattle.file_rows.specs.Rows.{discount_row}
use Rattle.file_rows.specs.Changes.{with_discount, without_discount}
use Rattle.file_writes.specs.Statements.{AreStatementsOf}

abbrev insert_text : List ℕ
insert_text = codes "INSERT INTO position_discount (position_id, discount) VALUES (?1, ?2)"

abbrev update_text : List ℕ
update_text = codes "UPDATE position_discount SET discount = ?2 WHERE position_id = ?1"

abbrev delete_text : List ℕ
delete_text = codes "DELETE FROM position_discount WHERE position_id = ?1"

inserts : AsksFor (insert_keyed 21 1) insert_text
unfolding understood everything
inserts = (refl, (refl, refl))

updates : AsksFor (update_keyed 21 31 1) update_text
unfolding understood everything
updates = (refl, (refl, refl))

removes : AsksFor (delete_keyed 21 31) delete_text
unfolding understood everything
removes = (refl, (refl, refl))

-- the columns behind the number, as they are stored
abbrev behind : DiscountRow → Row
behind w = Null ∷ drop 1 (discount_row w)

stays : (w : DiscountRow) → cast_row position_discount_table (number w.position_id ∷ behind w) ≡ number w.position_id ∷ behind w
stays w = simp (cast_int, cast_null)

pub statements_are : AreStatementsOf discount_row (λ w. w.position_id) with_discount without_discount insert_text update_text delete_text
statements_are = record {
  at = 21;
  table = position_discount_table;
  rows = λ t. map discount_row t.discounts;
  is = record { plain = record { placed = refl; uncounted = refl; unstamped = refl; restricts = refl }; holds = λ db t h. h.1.1.1.1.1.1.1.1.1.1.1.1.1.1.1.1.1.1.1.1.1.0; numbered = λ t. all_numbered discount_row (λ w. w.position_id) (λ w. refl) t.discounts };
  adds = λ w t. refl;
  takes = λ id t. rw (rows_without discount_row (λ w. w.position_id) (λ w. refl) id t.discounts);
  behind = behind;
  begins = λ w. (_, refl);
  stays = stays;
  shows = λ w. refl;
  terms = _;
  width = 3;
  inserts = inserts;
  fills = λ w. refl;
  project = _;
  updates = updates;
  sets = λ w r. refl;
  removes = removes;
}
