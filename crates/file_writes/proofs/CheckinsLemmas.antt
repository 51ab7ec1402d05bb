-- The statements on `checkins`.
use Rattle.std.proofs.Common.{◌≡◌, List, ◌∷◌, ℕ, codes, drop, map, refl}
use Rattle.sqlite_value.specs.declared.value.Value.TheVariants.{Null}
use Rattle.sqlite_value.specs.Order.{Row}
use Rattle.sqlite_rules.specs.Cast.{cast_row}
use Rattle.sqlite_tied.specs.Compute.{everything}
use Rattle.sqlite.specs.Listing.{understood}
use Rattle.file_schema.specs.Tables.{checkins_table}
use Rattle.file_schema.specs.Shapes.{AsksFor, insert_keyed, update_keyed, delete_keyed}
use Rattle.file_schema.proofs.Parts.{all_numbered, rows_without}
use Rattle.file_schema.proofs.Casts.{cast_null, cast_int}
use Rattle.model_rows.specs.declared.rows.Checkin.{Checkin}
use Rattle.file_rows.specs.Cells.{number}
use Rattle.file_rows.specs.Rows.{checkin_row}
use Rattle.file_rows.specs.Changes.{with_checkin, without_checkin}
use Rattle.file_writes.proofs.CastLemmas.{cast_text_or_null, cast_kind}
use Rattle.file_writes.specs.Statements.{AreStatementsOf}

abbrev insert_text : List ℕ
insert_text = codes "INSERT INTO checkins (id, list_id, position_id, kind, at, nonce) VALUES (?1, ?2, ?3, ?4, ?5, ?6)"

abbrev update_text : List ℕ
update_text = codes "UPDATE checkins SET list_id = ?2, position_id = ?3, kind = ?4, at = ?5, nonce = ?6 WHERE id = ?1"

abbrev delete_text : List ℕ
delete_text = codes "DELETE FROM checkins WHERE id = ?1"

inserts : AsksFor (insert_keyed 13 5) insert_text
unfolding understood everything
inserts = (refl, (refl, refl))

updates : AsksFor (update_keyed 13 19 5) update_text
unfolding understood everything
updates = (refl, (refl, refl))

removes : AsksFor (delete_keyed 13 19) delete_text
unfolding understood everything
removes = (refl, (refl, refl))

-- the columns behind the number, as they are stored
abbrev behind : Checkin → Row
behind w = Null ∷ drop 1 (checkin_row w)

stays : (w : Checkin) → cast_row checkins_table (number w.id ∷ behind w) ≡ number w.id ∷ behind w
stays w = simp (cast_int, cast_null, cast_text_or_null, cast_kind)

pub statements_are : AreStatementsOf checkin_row (λ w. w.id) with_checkin without_checkin insert_text update_text delete_text
statements_are = record {
  at = 13;
  table = checkins_table;
  rows = λ t. map checkin_row t.checkins;
  is = record { plain = record { placed = refl; uncounted = refl; unstamped = refl; restricts = refl }; holds = λ db t h. h.1.1.1.1.1.1.1.1.1.1.1.1.1.0; numbered = λ t. all_numbered checkin_row (λ w. w.id) (λ w. refl) t.checkins };
  adds = λ w t. refl;
  takes = λ id t. rw (rows_without checkin_row (λ w. w.id) (λ w. refl) id t.checkins);
  behind = behind;
  begins = λ w. (_, refl);
  stays = stays;
  shows = λ w. refl;
  terms = _;
  width = 7;
  inserts = inserts;
  fills = λ w. refl;
  project = _;
  updates = updates;
  sets = λ w r. refl;
  removes = removes;
}
