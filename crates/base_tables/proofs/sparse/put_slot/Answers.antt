use Rattle.std.proofs.Common.{length, length-set, ◌≡◌, subst, sym, ap, ◌∙◌, rules, arith}
use Rattle.std.specs.List.{insert}
use Rattle.std.proofs.lemmas.List.Edits.{length-insert}
use Rattle.base_tables.specs.Tables.{AreInOrder, row_at}
use Rattle.base_tables.proofs.Places.{set_is_with_row, insert_is_with_row, with_row_in_order, row_at_gap}
use Rattle.base_tables.specs.declared.slot.Slot.TheVariants.{Full}
use Rattle.base_tables.specs.Slots.{slot_key, rows_in, count_if}
use Rattle.base_tables.proofs.SlotLemmas.{put_is, row_of, found_is, one_at_most}
use Rattle.base_tables.proofs.sparse.put_slot.Goals as goal

pub returns-in-Ok-clause-rows : goal.returns-in-Ok-clause-rows
returns-in-Ok-clause-rows g c =
    let key = g.T.Row.key in
    let place = rw (c.deref.ensures.value, c.id.ensures) at c.in-Ok.ensures.found in
    ap rows_in (set_is_with_row (slot_key key) 0 _ (Full c.args.row) c.in-Ok.at c.requires.order place) ∙ put_is key 0 c.args.row _ c.requires.order

pub returns-in-Ok-clause-order : goal.returns-in-Ok-clause-order
returns-in-Ok-clause-order g c =
    let key = g.T.Row.key in
    let place = rw (c.deref.ensures.value, c.id.ensures) at c.in-Ok.ensures.found in
    subst (λ l. AreInOrder (slot_key key) l) (sym (set_is_with_row (slot_key key) 0 _ (Full c.args.row) c.in-Ok.at c.requires.order place)) (with_row_in_order (slot_key key) 0 (Full c.args.row) _ (omega arith) c.requires.order)

pub returns-in-Err-clause-rows : goal.returns-in-Err-clause-rows
returns-in-Err-clause-rows g c =
    let key = g.T.Row.key in
    let gap = rw (c.deref.ensures.value, c.id.ensures) at c.in-Err.ensures.absent in
    let is : c.insert.new.self.items ≡ insert c.args.slots.now.items c.in-Err.at (Full c.args.row) = search rules in
    ap rows_in (is ∙ insert_is_with_row (slot_key key) _ (Full c.args.row) c.in-Err.at gap) ∙ put_is key 0 c.args.row _ c.requires.order

pub returns-in-Err-clause-order : goal.returns-in-Err-clause-order
returns-in-Err-clause-order g c =
    let key = g.T.Row.key in
    let gap = rw (c.deref.ensures.value, c.id.ensures) at c.in-Err.ensures.absent in
    let is : c.insert.new.self.items ≡ insert c.args.slots.now.items c.in-Err.at (Full c.args.row) = search rules in
    subst (λ l. AreInOrder (slot_key key) l) (sym (is ∙ insert_is_with_row (slot_key key) _ (Full c.args.row) c.in-Err.at gap)) (with_row_in_order (slot_key key) 0 (Full c.args.row) _ (omega arith) c.requires.order)

pub returns-in-Ok-clause-count : goal.returns-in-Ok-clause-count
returns-in-Ok-clause-count g c = rw length-set (omega (arith, one_at_most (g.T.Row.key) (row_at (g.T.Row.key) (g.T.Row.key c.args.row) (rows_in c.args.slots.now.items))))

pub returns-in-Err-clause-count : goal.returns-in-Err-clause-count
returns-in-Err-clause-count g c =
    let key = g.T.Row.key in
    let gap = rw (c.deref.ensures.value, c.id.ensures) at c.in-Err.ensures.absent in
    let is : c.insert.new.self.items ≡ insert c.args.slots.now.items c.in-Err.at (Full c.args.row) = search rules in
    let none = found_is key 0 (key c.args.row) c.args.slots.now.items c.requires.order ∙ ap (row_of key) (row_at_gap (slot_key key) _ _ _ gap) in
    omega (arith, ap count_if none, ap length is, length-insert c.args.slots.now.items c.in-Err.at (Full c.args.row) gap.in_range)
