-- The statements on `list_items`.
use Rattle.std.proofs.Common.{◌≡◌, List, [], ◌∷◌, ℕ, codes, drop, map, refl}
use Rattle.sqlite_value.specs.Order.{Row}
use Rattle.sqlite_sql.specs.Term.{col}
use Rattle.sqlite_schema.specs.declared.command.Command.TheVariants.{Delete}
use Rattle.sqlite_rules.specs.Cast.{cast_row}
use Rattle.sqlite_tied.specs.Compute.{everything}
use Rattle.sqlite.specs.Listing.{understood}
use Rattle.file_schema.specs.Tables.{schema, list_items_table}
use Rattle.file_schema.specs.Plain.{IsPlainTable}
use Rattle.file_schema.specs.Shapes.{AsksFor, insert_rowid, update_rowid, delete_keyed, over, plainly, by_owner}
use Rattle.file_schema.proofs.Parts.{all_numbered, rows_without}
use Rattle.file_schema.proofs.Casts.{cast_int}
use Rattle.file_rows.specs.declared.rows.ListItem.{ListItem}
use Rattle.file_rows.specs.Cells.{number}
use Rattle.file_rows.specs.Rows.{list_item_row}
use Rattle.file_rows.specs.Changes.{with_list_item, without_list_item}
use Rattle.file_rows.proofs.OwnedLemmas.{list_items_are}
use Rattle.file_writes.specs.Statements.{AreStatementsOf}
use Rattle.file_writes.specs.Removed.{IsDeleteByOwner}

abbrev insert_text : List ℕ
insert_text = codes "INSERT INTO list_items (rowid, list_id, item_id) VALUES (?1, ?2, ?3)"

abbrev update_text : List ℕ
update_text = codes "UPDATE list_items SET list_id = ?2, item_id = ?3 WHERE rowid = ?1"

abbrev delete_text : List ℕ
delete_text = codes "DELETE FROM list_items WHERE rowid = ?1"

inserts : AsksFor (insert_rowid 12 2) insert_text
unfolding understood everything
inserts = (refl, (refl, refl))

updates : AsksFor (update_rowid 12 17 2) update_text
unfolding understood everything
updates = (refl, (refl, refl))

removes : AsksFor (delete_keyed 12 17) delete_text
unfolding understood everything
removes = (refl, (refl, refl))

-- the columns behind the number, as they are stored
abbrev behind : ListItem → Row
behind w = drop 1 (list_item_row w)

stays : (w : ListItem) → cast_row list_items_table (number w.rowid ∷ behind w) ≡ number w.rowid ∷ behind w
stays w = simp (cast_int)

is_plain : IsPlainTable schema 12 list_items_table
is_plain = record { placed = refl; uncounted = refl; unstamped = refl; restricts = refl }

pub statements_are : AreStatementsOf list_item_row (λ w. w.rowid) with_list_item without_list_item insert_text update_text delete_text
statements_are = record {
  at = 12;
  table = list_items_table;
  rows = λ t. map list_item_row t.list_items;
  is = record { plain = is_plain; holds = λ db t h. h.1.1.1.1.1.1.1.1.1.1.1.1.0; numbered = λ t. all_numbered list_item_row (λ w. w.rowid) (λ w. refl) t.list_items };
  adds = λ w t. refl;
  takes = λ id t. rw (rows_without list_item_row (λ w. w.rowid) (λ w. refl) id t.list_items);
  behind = behind;
  begins = λ w. (_, refl);
  stays = stays;
  shows = λ w. refl;
  terms = _;
  width = 3;
  inserts = inserts;
  fills = λ w. refl;
  project = _;
  updates = updates;
  sets = λ w r. refl;
  removes = removes;
}

-- ---- by the check-in list

abbrev by_owner_text : List ℕ
by_owner_text = codes "DELETE FROM list_items WHERE list_id = ?1"

removes_owned : AsksFor (Delete 12 (plainly (over 17 by_owner (col 1 0 ∷ []) []))) by_owner_text
unfolding understood everything
removes_owned = (refl, (refl, refl))

pub by_owner_is : IsDeleteByOwner by_owner_text list_item_row (λ (w : ListItem). w.rowid) (λ w. w.list) (λ t. t.list_items) (λ xs t. record t { list_items = xs })
by_owner_is = record {
  at = 12;
  table = list_items_table;
  plain = is_plain;
  asks = removes_owned;
  owned = list_items_are;
  numbered = λ w. refl;
  puts = λ xs t. refl;
}
