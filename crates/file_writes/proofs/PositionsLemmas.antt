-- Whether an order position stood that is put.
use Rattle.std.proofs.Common.{◌≡◌, ◌==◌, Bool, List, ℕ, false, drop, is_some, Ok, subst, true, ap, refl}
use Rattle.sqlite_value.specs.Order.{Row}
use Rattle.sqlite.specs.Listing.{understood}
use Rattle.sqlite.specs.State.{State, Executes}
use Rattle.base_tables.specs.Tables.{row_at}
use Rattle.file_schema.specs.Described.{table_of, insert_text, update_text, delete_text}
use Rattle.file_schema.specs.Descriptions.{order_positions}
use Rattle.file_schema.specs.Tables.{schema}
use Rattle.file_schema.proofs.Generic.{asked}
use Rattle.model_rows.specs.declared.rows.OrderPos.{OrderPos}
use Rattle.file_rows.specs.Rows.{position_row}
use Rattle.file_rows.specs.declared.rows.PositionRow.{PositionRow}
use Rattle.file_rows.specs.Changes.{IsInside, Changes, head_of_position, with_position, without_position}
use Rattle.file_rows.specs.Tables.{Tables, Holds, parts}
use Rattle.file_writes.specs.Asked.{stored_in}
use Rattle.file_writes.proofs.AskedTexts.{order_positions_asked}
use Rattle.file_writes.proofs.DescribedLemmas.{held_in}
use Rattle.file_writes.proofs.Found.{find_one, find_none}
use Rattle.file_writes.proofs.KeptRows.{order_positions_are}
use Rattle.file_writes.proofs.PartRows.{no_row_of, one_row_of}
use Rattle.file_writes.proofs.StatementLemmas.{misses, puts}

abbrev pub put_update_text : List ℕ
put_update_text = update_text order_positions

abbrev values : OrderPos → Row
values w = position_row (head_of_position w)

-- whether a position of an id stands
abbrev pub stands : ℕ → Tables → Bool
stands id t = is_some (row_at (λ r. r.id) id t.positions)

module _ (old new : State) (at : IsInside old) (limit : new.step_limit ≡ old.step_limit) (w : OrderPos) (count : ℕ) (ran : Executes put_update_text (values w) old new (Ok count)) where
  pub missed : count ≡ 0 → Changes (without_position w.id) old new
  missed none = misses values (λ (p : OrderPos). p.id) with_position without_position (insert_text order_positions) put_update_text (delete_text order_positions) order_positions_are old new at limit w count none ran

  pub put_one : count ≡ 1 → Changes (λ t. with_position w (without_position w.id t)) old new
  put_one one = puts values (λ (p : OrderPos). p.id) with_position without_position (insert_text order_positions) put_update_text (delete_text order_positions) order_positions_are old new at limit w count one ran

  -- an UPDATE that counts no row: none of the position's id stands
  pub none_stands : count ≡ 0 → (t : Tables) → Holds old.now.trees t → stands w.id t ≡ false
  none_stands none t held =
      ap is_some (find_none (λ (r : PositionRow). r.id == w.id) t.positions
      (no_row_of 9 (table_of order_positions) order_positions_asked.plain put_update_text order_positions_asked.updates.1 old new at limit position_row (λ r. r.id) (λ r. refl) (λ t. t.positions) (λ t h. held_in old.now.trees (parts t) 9 _ refl h) (λ t. refl) _ (asked (understood schema put_update_text) _ order_positions_asked.updates.0)
      w.id _ (subst (λ n. Executes put_update_text (values w) old new (Ok n)) none ran) t held))

  -- one that counts a row: one does
  pub one_stands : count ≡ 1 → (t : Tables) → Holds old.now.trees t → stands w.id t ≡ true
  one_stands one t held =
      let it = one_row_of 9 (table_of order_positions) order_positions_asked.plain put_update_text order_positions_asked.updates.1 old new at limit position_row (λ r. r.id) (λ r. refl) (λ t. t.positions) (λ t h. held_in old.now.trees (parts t) 9 _ refl h) (λ t. refl) _ (asked (understood schema put_update_text) _ order_positions_asked.updates.0)
      w.id _ (stored_in order_positions.key (drop 1 (values w))) (λ r. refl) (subst (λ n. Executes put_update_text (values w) old new (Ok n)) one ran) t held in
      ap is_some (find_one (λ (r : PositionRow). r.id == w.id) t.positions it.0 it.1)
