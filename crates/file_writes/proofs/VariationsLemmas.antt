-- The statements on `variations`.
use Rattle.std.proofs.Common.{◌≡◌, List, ◌∷◌, ℕ, codes, drop, map, pos, refl}
use Rattle.sqlite_value.specs.declared.value.Value.TheVariants.{Null}
use Rattle.sqlite_value.specs.Order.{Row}
use Rattle.sqlite_rules.specs.Cast.{cast_row}
use Rattle.sqlite_tied.specs.Compute.{everything}
use Rattle.sqlite.specs.Listing.{understood}
use Rattle.file_schema.specs.Tables.{variations_table}
use Rattle.file_schema.specs.Shapes.{AsksFor, insert_keyed, update_keyed, delete_keyed}
use Rattle.file_schema.proofs.Parts.{all_numbered, rows_without}
use Rattle.file_schema.proofs.Casts.{cast_null, cast_int, cast_int_or_null}
use Rattle.model_catalogue.specs.declared.rows.Variation.{Variation}
use Rattle.file_rows.specs.Cells.{number}
use Rattle.file_rows.specs.Rows.{variation_row}
use Rattle.file_rows.specs.Changes.{with_variation, without_variation}
use Rattle.file_writes.specs.Statements.{AreStatementsOf}

abbrev insert_text : List ℕ
insert_text = codes "INSERT INTO variations (id, item_id, name, default_price, active) VALUES (?1, ?2, ?3, ?4, ?5)"

abbrev update_text : List ℕ
update_text = codes "UPDATE variations SET item_id = ?2, name = ?3, default_price = ?4, active = ?5 WHERE id = ?1"

abbrev delete_text : List ℕ
delete_text = codes "DELETE FROM variations WHERE id = ?1"

inserts : AsksFor (insert_keyed 2 4) insert_text
unfolding understood everything
inserts = (refl, (refl, refl))

updates : AsksFor (update_keyed 2 2 4) update_text
unfolding understood everything
updates = (refl, (refl, refl))

removes : AsksFor (delete_keyed 2 2) delete_text
unfolding understood everything
removes = (refl, (refl, refl))

-- the columns behind the number, as they are stored
abbrev behind : Variation → Row
behind w = Null ∷ drop 1 (variation_row w)

stays : (w : Variation) → cast_row variations_table (number w.id ∷ behind w) ≡ number w.id ∷ behind w
stays w = simp (cast_int, cast_null, cast_int_or_null (λ n. pos n))

pub statements_are : AreStatementsOf variation_row (λ w. w.id) with_variation without_variation insert_text update_text delete_text
statements_are = record {
  at = 2;
  table = variations_table;
  rows = λ t. map variation_row t.variations;
  is = record { plain = record { placed = refl; uncounted = refl; unstamped = refl; restricts = refl }; holds = λ db t h. h.1.1.0; numbered = λ t. all_numbered variation_row (λ w. w.id) (λ w. refl) t.variations };
  adds = λ w t. refl;
  takes = λ id t. rw (rows_without variation_row (λ w. w.id) (λ w. refl) id t.variations);
  behind = behind;
  begins = λ w. (_, refl);
  stays = stays;
  shows = λ w. refl;
  terms = _;
  width = 6;
  inserts = inserts;
  fills = λ w. refl;
  project = _;
  updates = updates;
  sets = λ w r. refl;
  removes = removes;
}
