-- The statements on `voucher_spent`.
use Rattle.std.proofs.Common.{◌≡◌, List, ◌∷◌, ℕ, codes, drop, map, refl}
use Rattle.sqlite_value.specs.declared.value.Value.TheVariants.{Null}
use Rattle.sqlite_value.specs.Order.{Row}
use Rattle.sqlite_rules.specs.Cast.{cast_row}
use Rattle.sqlite_tied.specs.Compute.{everything}
use Rattle.sqlite.specs.Listing.{understood}
use Rattle.file_schema.specs.Tables.{voucher_spent_table}
use Rattle.file_schema.specs.Shapes.{AsksFor, insert_keyed, update_keyed, delete_keyed}
use Rattle.file_schema.proofs.Parts.{all_numbered, rows_without}
use Rattle.file_schema.proofs.Casts.{cast_null, cast_int}
use Rattle.file_rows.specs.declared.rows.SpentRow.{SpentRow}
use Rattle.file_rows.specs.Cells.{number}
use Rattle.file_rows.specs.Rows.{spent_row}
use Rattle.file_rows.specs.Changes.{with_spent, without_spent}
use Rattle.file_writes.specs.Statements.{AreStatementsOf}

abbrev insert_text : List ℕ
insert_text = codes "INSERT INTO voucher_spent (voucher_id, spent) VALUES (?1, ?2)"

abbrev update_text : List ℕ
update_text = codes "UPDATE voucher_spent SET spent = ?2 WHERE voucher_id = ?1"

abbrev delete_text : List ℕ
delete_text = codes "DELETE FROM voucher_spent WHERE voucher_id = ?1"

inserts : AsksFor (insert_keyed 20 1) insert_text
unfolding understood everything
inserts = (refl, (refl, refl))

updates : AsksFor (update_keyed 20 30 1) update_text
unfolding understood everything
updates = (refl, (refl, refl))

removes : AsksFor (delete_keyed 20 30) delete_text
unfolding understood everything
removes = (refl, (refl, refl))

-- the columns behind the number, as they are stored
abbrev behind : SpentRow → Row
behind w = Null ∷ drop 1 (spent_row w)

stays : (w : SpentRow) → cast_row voucher_spent_table (number w.voucher_id ∷ behind w) ≡ number w.voucher_id ∷ behind w
stays w = simp (cast_int, cast_null)

pub statements_are : AreStatementsOf spent_row (λ w. w.voucher_id) with_spent without_spent insert_text update_text delete_text
statements_are = record {
  at = 20;
  table = voucher_spent_table;
  rows = λ t. map spent_row t.spents;
  is = record { plain = record { placed = refl; uncounted = refl; unstamped = refl; restricts = refl }; holds = λ db t h. h.1.1.1.1.1.1.1.1.1.1.1.1.1.1.1.1.1.1.1.1.0; numbered = λ t. all_numbered spent_row (λ w. w.voucher_id) (λ w. refl) t.spents };
  adds = λ w t. refl;
  takes = λ id t. rw (rows_without spent_row (λ w. w.voucher_id) (λ w. refl) id t.spents);
  behind = behind;
  begins = λ w. (_, refl);
  stays = stays;
  shows = λ w. refl;
  terms = _;
  width = 3;
  inserts = inserts;
  fills = λ w. refl;
  project = _;
  updates = updates;
  sets = λ w r. refl;
  removes = removes;
}
