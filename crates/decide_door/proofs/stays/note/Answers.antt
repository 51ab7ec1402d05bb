use Rattle.std.proofs.Common.{◌∙◌, set, sym, ap, subst}
use Rattle.base_tables.specs.Tables.{AreInOrder}
use Rattle.base_tables.proofs.Places.{row_at_gap}
use Rattle.decide_door.specs.declared.stays.Stay.{Stay}
use Rattle.decide_door.specs.Stays.{checkin_noted}
use Rattle.decide_door.proofs.Noting.{noted_here, noted_nowhere, noted_in_order}
use Rattle.decide_door.proofs.stays.note.Goals as goal

pub returns-in-Ok-clause-noted : goal.returns-in-Ok-clause-noted
returns-in-Ok-clause-noted c =
    let list = c.args.list in
    let checkin = c.args.checkin.now in
    let stays = c.args.stays.now.items in
    ap (set stays c.in-Ok.at) (c.checkin_noted.ensures ∙ ap (checkin_noted list checkin) c.index-stay.ensures)
    ∙ noted_here list checkin stays c.in-Ok.at c.index-stay.result.now c.requires (rw c.deref.ensures.value at c.in-Ok.ensures.found)

pub returns-in-Ok-clause-order : goal.returns-in-Ok-clause-order
returns-in-Ok-clause-order c =
    let list = c.args.list in
    let checkin = c.args.checkin.now in
    let stays = c.args.stays.now.items in
    let is = ap (set stays c.in-Ok.at) (c.checkin_noted.ensures ∙ ap (checkin_noted list checkin) c.index-stay.ensures) ∙ noted_here list checkin stays c.in-Ok.at c.index-stay.result.now c.requires (rw c.deref.ensures.value at c.in-Ok.ensures.found) in
    subst (λ l. AreInOrder (λ (s : Stay). s.position) l) (sym is) (noted_in_order list checkin stays c.requires)

pub returns-in_default-clause-noted : goal.returns-in_default-clause-noted
returns-in_default-clause-noted c =
    sym (noted_nowhere c.args.list c.args.checkin.now c.args.stays.now.items (row_at_gap (λ (s : Stay). s.position) _ _ c.in_default.field-0 (rw c.deref.ensures.value at c.in_default.ensures.absent)))
