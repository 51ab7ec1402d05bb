-- Rows of a type as they stand in their table.
use Rattle.std.proofs.Common.{map, pos, refl}
use Rattle.file_schema.proofs.Parts.{all_numbered, rows_without}
use Rattle.file_schema.proofs.Casts.{cast_null, cast_int, cast_int_or_null}
use Rattle.file_rows.specs.Rows.{position_row, quota_item_row}
use Rattle.file_rows.specs.Changes.{head_of_position, with_position, without_position, with_quota_item, without_quota_item}
use Rattle.file_schema.specs.Descriptions.{order_positions, quota_items}
use Rattle.file_schema.specs.Described.{insert_text, update_text, delete_text}
use Rattle.model_rows.specs.declared.rows.OrderPos.{OrderPos}
use Rattle.file_writes.specs.Asked.{AreKept}
use Rattle.file_writes.specs.Statements.{AreStatementsOf}
use Rattle.file_writes.proofs.AskedTexts.{order_positions_asked, quota_items_asked}
use Rattle.file_writes.proofs.DescribedLemmas.{statements_are}

pub order_positions_kept : AreKept order_positions 9 (λ w. position_row (head_of_position w)) (λ w. w.id) with_position without_position
order_positions_kept = record {
  rows = λ t. map position_row t.positions;
  stands = λ t. refl;
  numbered = λ t. all_numbered position_row (λ w. w.id) (λ w. refl) t.positions;
  adds = λ w t. refl;
  takes = λ id t. rw (rows_without position_row (λ w. w.id) (λ w. refl) id t.positions);
  begins = λ w. refl;
  stays = λ w. simp (cast_int, cast_null, cast_int_or_null (λ n. pos n));
  shows = λ w. refl;
  fills = λ w. refl;
  sets = λ w r. refl;
}

pub quota_items_kept : AreKept quota_items 4 quota_item_row (λ w. w.rowid) with_quota_item without_quota_item
quota_items_kept = record {
  rows = λ t. map quota_item_row t.quota_items;
  stands = λ t. refl;
  numbered = λ t. all_numbered quota_item_row (λ w. w.rowid) (λ w. refl) t.quota_items;
  adds = λ w t. refl;
  takes = λ id t. rw (rows_without quota_item_row (λ w. w.rowid) (λ w. refl) id t.quota_items);
  begins = λ w. refl;
  stays = λ w. simp (cast_int);
  shows = λ w. refl;
  fills = λ w. refl;
  sets = λ w r. refl;
}

pub order_positions_are : AreStatementsOf (λ (w : OrderPos). position_row (head_of_position w)) (λ w. w.id) with_position without_position (insert_text order_positions) (update_text order_positions) (delete_text order_positions)
order_positions_are = statements_are order_positions 9 _ _ _ _ order_positions_asked order_positions_kept

pub quota_items_are : AreStatementsOf quota_item_row (λ w. w.rowid) with_quota_item without_quota_item (insert_text quota_items) (update_text quota_items) (delete_text quota_items)
quota_items_are = statements_are quota_items 4 _ _ _ _ quota_items_asked quota_items_kept
