-- The statements on `orders`.
use Rattle.std.proofs.Common.{◌≡◌, List, ◌∷◌, ℕ, codes, drop, map, refl}
use Rattle.sqlite_value.specs.declared.value.Value.TheVariants.{Null}
use Rattle.sqlite_value.specs.Order.{Row}
use Rattle.sqlite_rules.specs.Cast.{cast_row}
use Rattle.sqlite_tied.specs.Compute.{everything}
use Rattle.sqlite.specs.Listing.{understood}
use Rattle.file_schema.specs.Tables.{orders_table}
use Rattle.file_schema.specs.Shapes.{AsksFor, insert_keyed, update_keyed, delete_keyed}
use Rattle.file_schema.proofs.Parts.{all_numbered, rows_without}
use Rattle.file_schema.proofs.Casts.{cast_null, cast_int}
use Rattle.model_rows.specs.declared.rows.Order.{Order}
use Rattle.file_rows.specs.Cells.{number}
use Rattle.file_rows.specs.Rows.{order_row}
use Rattle.file_rows.specs.Changes.{with_order, without_order}
use Rattle.file_writes.proofs.CastLemmas.{cast_text_or_null, cast_status}
use Rattle.file_writes.specs.Statements.{AreStatementsOf}

abbrev insert_text : List ℕ
insert_text = codes "INSERT INTO orders (id, email, status, made_at, expires) VALUES (?1, ?2, ?3, ?4, ?5)"

abbrev update_text : List ℕ
update_text = codes "UPDATE orders SET email = ?2, status = ?3, made_at = ?4, expires = ?5 WHERE id = ?1"

abbrev delete_text : List ℕ
delete_text = codes "DELETE FROM orders WHERE id = ?1"

inserts : AsksFor (insert_keyed 8 4) insert_text
unfolding understood everything
inserts = (refl, (refl, refl))

updates : AsksFor (update_keyed 8 11 4) update_text
unfolding understood everything
updates = (refl, (refl, refl))

removes : AsksFor (delete_keyed 8 11) delete_text
unfolding understood everything
removes = (refl, (refl, refl))

-- the columns behind the number, as they are stored
abbrev behind : Order → Row
behind w = Null ∷ drop 1 (order_row w)

stays : (w : Order) → cast_row orders_table (number w.id ∷ behind w) ≡ number w.id ∷ behind w
stays w = simp (cast_int, cast_null, cast_text_or_null, cast_status)

pub statements_are : AreStatementsOf order_row (λ w. w.id) with_order without_order insert_text update_text delete_text
statements_are = record {
  at = 8;
  table = orders_table;
  rows = λ t. map order_row t.orders;
  is = record { plain = record { placed = refl; uncounted = refl; unstamped = refl; restricts = refl }; holds = λ db t h. h.1.1.1.1.1.1.1.1.0; numbered = λ t. all_numbered order_row (λ w. w.id) (λ w. refl) t.orders };
  adds = λ w t. refl;
  takes = λ id t. rw (rows_without order_row (λ w. w.id) (λ w. refl) id t.orders);
  behind = behind;
  begins = λ w. (_, refl);
  stays = stays;
  shows = λ w. refl;
  terms = _;
  width = 6;
  inserts = inserts;
  fills = λ w. refl;
  project = _;
  updates = updates;
  sets = λ w r. refl;
  removes = removes;
}
