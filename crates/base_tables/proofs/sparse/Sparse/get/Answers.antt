use Rattle.std.proofs.Common.{sym, ap, ◌∙◌}
use Rattle.base_tables.proofs.Places.{row_at_place, row_at_gap}
use Rattle.base_tables.specs.Slots.{slot_key, row_in}
use Rattle.base_tables.proofs.SlotLemmas.{row_of, found_is}
use Rattle.base_tables.proofs.sparse.Sparse.get.Goals as goal

pub returns-in-Ok : goal.returns-in-Ok
returns-in-Ok g c =
    let key = g.T.Row.key in
    let place = rw c.deref.ensures.value at c.in-Ok.ensures.found in
    rw (← c.self.view_is) (c.row.ensures ∙ ap row_in c.index.ensures ∙ sym (found_is key 0 c.args.id _ c.self.invariant.0 ∙ ap (row_of key) (row_at_place (slot_key key) 0 _ c.args.id c.in-Ok.at c.index.result.now c.self.invariant.0 place)))

pub returns-in-Err : goal.returns-in-Err
returns-in-Err g c =
    let key = g.T.Row.key in
    rw (← c.self.view_is) (sym (found_is key 0 c.args.id _ c.self.invariant.0 ∙ ap (row_of key) (row_at_gap (slot_key key) _ _ _ (rw c.deref.ensures.value at c.in-Err.ensures.absent))))
