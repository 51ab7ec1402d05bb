-- The statements on `shop`.
use Rattle.std.proofs.Common.{◌≡◌, List, ◌∷◌, ℕ, codes, drop, map, refl}
use Rattle.sqlite_value.specs.declared.value.Value.TheVariants.{Null}
use Rattle.sqlite_value.specs.Order.{Row}
use Rattle.sqlite_rules.specs.Cast.{cast_row}
use Rattle.sqlite_tied.specs.Compute.{everything}
use Rattle.sqlite.specs.Listing.{understood}
use Rattle.file_schema.specs.Tables.{shop_table}
use Rattle.file_schema.specs.Shapes.{AsksFor, insert_keyed, update_keyed, delete_keyed}
use Rattle.file_schema.proofs.Parts.{all_numbered, rows_without}
use Rattle.file_schema.proofs.Casts.{cast_null, cast_int}
use Rattle.file_rows.specs.declared.rows.ShopRow.{ShopRow}
use Rattle.file_rows.specs.Cells.{number}
use Rattle.file_rows.specs.Rows.{shop_row}
use Rattle.file_rows.specs.Changes.{with_shop, without_shop}
use Rattle.file_writes.specs.Statements.{AreStatementsOf}

abbrev insert_text : List ℕ
insert_text = codes "INSERT INTO shop (id, version, organizer, event, moment, next_item, next_variation, next_quota, next_voucher, next_cart, next_order, next_position, next_waiting, next_list, next_checkin, next_token) VALUES (?1, ?2, ?3, ?4, ?5, ?6, ?7, ?8, ?9, ?10, ?11, ?12, ?13, ?14, ?15, ?16)"

abbrev update_text : List ℕ
update_text = codes "UPDATE shop SET version = ?2, organizer = ?3, event = ?4, moment = ?5, next_item = ?6, next_variation = ?7, next_quota = ?8, next_voucher = ?9, next_cart = ?10, next_order = ?11, next_position = ?12, next_waiting = ?13, next_list = ?14, next_checkin = ?15, next_token = ?16 WHERE id = ?1"

abbrev delete_text : List ℕ
delete_text = codes "DELETE FROM shop WHERE id = ?1"

inserts : AsksFor (insert_keyed 0 15) insert_text
unfolding understood everything
inserts = (refl, (refl, refl))

updates : AsksFor (update_keyed 0 0 15) update_text
unfolding understood everything
updates = (refl, (refl, refl))

removes : AsksFor (delete_keyed 0 0) delete_text
unfolding understood everything
removes = (refl, (refl, refl))

-- the columns behind the number, as they are stored
abbrev behind : ShopRow → Row
behind w = Null ∷ drop 1 (shop_row w)

stays : (w : ShopRow) → cast_row shop_table (number 1 ∷ behind w) ≡ number 1 ∷ behind w
stays w = simp (cast_int, cast_null)

pub statements_are : AreStatementsOf shop_row (λ w. 1) with_shop without_shop insert_text update_text delete_text
statements_are = record {
  at = 0;
  table = shop_table;
  rows = λ t. map shop_row t.shop;
  is = record { plain = record { placed = refl; uncounted = refl; unstamped = refl; restricts = refl }; holds = λ db t h. h.0; numbered = λ t. all_numbered shop_row (λ w. 1) (λ w. refl) t.shop };
  adds = λ w t. refl;
  takes = λ id t. rw (rows_without shop_row (λ w. 1) (λ w. refl) id t.shop);
  behind = behind;
  begins = λ w. (_, refl);
  stays = stays;
  shows = λ w. refl;
  terms = _;
  width = 17;
  inserts = inserts;
  fills = λ w. refl;
  project = _;
  updates = updates;
  sets = λ w r. refl;
  removes = removes;
}
