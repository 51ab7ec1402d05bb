use Rattle.std.proofs.Common.{subst, sym, ap, ◌∙◌, arith}
use Rattle.base_tables.specs.Tables.{AreInOrder}
use Rattle.base_tables.proofs.Places.{set_is_with_row, with_row_in_order, row_at_gap}
use Rattle.base_tables.specs.declared.slot.Slot.TheVariants.{Gone}
use Rattle.base_tables.specs.Slots.{slot_key, rows_in}
use Rattle.base_tables.proofs.SlotLemmas.{left_is, left_none}
use Rattle.base_tables.proofs.sparse.leave_slot.Goals as goal

pub returns-in-Ok-clause-rows : goal.returns-in-Ok-clause-rows
returns-in-Ok-clause-rows g c =
    let key = g.T.Row.key in
    let place = rw c.deref.ensures.value at c.in-Ok.ensures.found in
    ap rows_in (set_is_with_row (slot_key key) 0 _ (Gone c.args.id) c.in-Ok.at c.requires.order place) ∙ left_is key 0 c.args.id _ c.requires.order

pub returns-in-Ok-clause-order : goal.returns-in-Ok-clause-order
returns-in-Ok-clause-order g c =
    let key = g.T.Row.key in
    let place = rw c.deref.ensures.value at c.in-Ok.ensures.found in
    subst (λ l. AreInOrder (slot_key key) l) (sym (set_is_with_row (slot_key key) 0 _ (Gone c.args.id) c.in-Ok.at c.requires.order place)) (with_row_in_order (slot_key key) 0 (Gone c.args.id) _ (omega arith) c.requires.order)

pub returns-in_default-clause-rows : goal.returns-in_default-clause-rows
returns-in_default-clause-rows g c =
    let key = g.T.Row.key in
    let gap = rw c.deref.ensures.value at c.in_default.ensures.absent in
    sym (left_none key c.args.id _ (row_at_gap (slot_key key) _ _ _ gap))
