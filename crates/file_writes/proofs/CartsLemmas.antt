-- The statements on `cart_positions`.
use Rattle.std.proofs.Common.{◌≡◌, List, ◌∷◌, ℕ, codes, drop, map, pos, refl}
use Rattle.sqlite_value.specs.declared.value.Value.TheVariants.{Null}
use Rattle.sqlite_value.specs.Order.{Row}
use Rattle.sqlite_rules.specs.Cast.{cast_row}
use Rattle.sqlite_tied.specs.Compute.{everything}
use Rattle.sqlite.specs.Listing.{understood}
use Rattle.file_schema.specs.Tables.{cart_positions_table}
use Rattle.file_schema.specs.Shapes.{AsksFor, insert_keyed, update_keyed, delete_keyed}
use Rattle.file_schema.proofs.Parts.{all_numbered, rows_without}
use Rattle.file_schema.proofs.Casts.{cast_null, cast_int, cast_int_or_null}
use Rattle.model_rows.specs.declared.rows.CartPos.{CartPos}
use Rattle.file_rows.specs.Cells.{number}
use Rattle.file_rows.specs.Rows.{cart_row}
use Rattle.file_rows.specs.Changes.{with_cart, without_cart}
use Rattle.file_writes.specs.Statements.{AreStatementsOf}

abbrev insert_text : List ℕ
insert_text = codes "INSERT INTO cart_positions (id, cart_id, item_id, variation_id, price, made_at, expires, voucher_id) VALUES (?1, ?2, ?3, ?4, ?5, ?6, ?7, ?8)"

abbrev update_text : List ℕ
update_text = codes "UPDATE cart_positions SET cart_id = ?2, item_id = ?3, variation_id = ?4, price = ?5, made_at = ?6, expires = ?7, voucher_id = ?8 WHERE id = ?1"

abbrev delete_text : List ℕ
delete_text = codes "DELETE FROM cart_positions WHERE id = ?1"

inserts : AsksFor (insert_keyed 7 7) insert_text
unfolding understood everything
inserts = (refl, (refl, refl))

updates : AsksFor (update_keyed 7 10 7) update_text
unfolding understood everything
updates = (refl, (refl, refl))

removes : AsksFor (delete_keyed 7 10) delete_text
unfolding understood everything
removes = (refl, (refl, refl))

-- the columns behind the number, as they are stored
abbrev behind : CartPos → Row
behind w = Null ∷ drop 1 (cart_row w)

stays : (w : CartPos) → cast_row cart_positions_table (number w.id ∷ behind w) ≡ number w.id ∷ behind w
stays w = simp (cast_int, cast_null, cast_int_or_null (λ n. pos n))

pub statements_are : AreStatementsOf cart_row (λ w. w.id) with_cart without_cart insert_text update_text delete_text
statements_are = record {
  at = 7;
  table = cart_positions_table;
  rows = λ t. map cart_row t.carts;
  is = record { plain = record { placed = refl; uncounted = refl; unstamped = refl; restricts = refl }; holds = λ db t h. h.1.1.1.1.1.1.1.0; numbered = λ t. all_numbered cart_row (λ w. w.id) (λ w. refl) t.carts };
  adds = λ w t. refl;
  takes = λ id t. rw (rows_without cart_row (λ w. w.id) (λ w. refl) id t.carts);
  behind = behind;
  begins = λ w. (_, refl);
  stays = stays;
  shows = λ w. refl;
  terms = _;
  width = 9;
  inserts = inserts;
  fills = λ w. refl;
  project = _;
  updates = updates;
  sets = λ w r. refl;
  removes = removes;
}
