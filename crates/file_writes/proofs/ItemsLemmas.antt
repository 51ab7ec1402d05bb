-- The statements on `items`.
use Rattle.std.proofs.Common.{◌≡◌, List, ◌∷◌, ℕ, codes, drop, map, refl}
use Rattle.sqlite_value.specs.declared.value.Value.TheVariants.{Null}
use Rattle.sqlite_value.specs.Order.{Row}
use Rattle.sqlite_rules.specs.Cast.{cast_row}
use Rattle.sqlite_tied.specs.Compute.{everything}
use Rattle.sqlite.specs.Listing.{understood}
use Rattle.file_schema.specs.Tables.{items_table}
use Rattle.file_schema.specs.Shapes.{AsksFor, insert_keyed, update_keyed, delete_keyed}
use Rattle.file_schema.proofs.Parts.{all_numbered, rows_without}
use Rattle.file_schema.proofs.Casts.{cast_null, cast_int}
use Rattle.model_catalogue.specs.declared.rows.Item.{Item}
use Rattle.file_rows.specs.Cells.{number}
use Rattle.file_rows.specs.Rows.{item_row}
use Rattle.file_rows.specs.Changes.{with_item, without_item}
use Rattle.file_writes.specs.Statements.{AreStatementsOf}

abbrev insert_text : List ℕ
insert_text = codes "INSERT INTO items (id, name, default_price, active, varied) VALUES (?1, ?2, ?3, ?4, ?5)"

abbrev update_text : List ℕ
update_text = codes "UPDATE items SET name = ?2, default_price = ?3, active = ?4, varied = ?5 WHERE id = ?1"

abbrev delete_text : List ℕ
delete_text = codes "DELETE FROM items WHERE id = ?1"

inserts : AsksFor (insert_keyed 1 4) insert_text
unfolding understood everything
inserts = (refl, (refl, refl))

updates : AsksFor (update_keyed 1 1 4) update_text
unfolding understood everything
updates = (refl, (refl, refl))

removes : AsksFor (delete_keyed 1 1) delete_text
unfolding understood everything
removes = (refl, (refl, refl))

-- the columns behind the number, as they are stored
abbrev behind : Item → Row
behind w = Null ∷ drop 1 (item_row w)

stays : (w : Item) → cast_row items_table (number w.id ∷ behind w) ≡ number w.id ∷ behind w
stays w = simp (cast_int, cast_null)

pub statements_are : AreStatementsOf item_row (λ w. w.id) with_item without_item insert_text update_text delete_text
statements_are = record {
  at = 1;
  table = items_table;
  rows = λ t. map item_row t.items;
  is = record { plain = record { placed = refl; uncounted = refl; unstamped = refl; restricts = refl }; holds = λ db t h. h.1.0; numbered = λ t. all_numbered item_row (λ w. w.id) (λ w. refl) t.items };
  adds = λ w t. refl;
  takes = λ id t. rw (rows_without item_row (λ w. w.id) (λ w. refl) id t.items);
  behind = behind;
  begins = λ w. (_, refl);
  stays = stays;
  shows = λ w. refl;
  terms = _;
  width = 6;
  inserts = inserts;
  fills = λ w. refl;
  project = _;
  updates = updates;
  sets = λ w r. refl;
  removes = removes;
}
