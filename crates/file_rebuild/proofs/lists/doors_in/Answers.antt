use Rattle.std.proofs.Common.{◌∙◌, IsTrue, map, ap, refl, sym, subst}
use Rattle.base_tables.specs.Tables.{AreInOrder}
use Rattle.file_rows.specs.declared.rows.ListRow.{ListRow}
use Rattle.file_rebuild.proofs.Joined.{lists_are, lists_whole}
use Rattle.file_meaning.proofs.Told.{order_of_parts}
use Rattle.file_rebuild.proofs.Offices.{order_in_parts}
use Rattle.file_rebuild.proofs.lists.doors_in.Goals as goal

pub returns-clause-lists : goal.returns-clause-lists
returns-clause-lists c =
    let heads = c.args.rows.checkin_lists.items in
    let ids = c.as_slice-3.ensures.value ∙ c.in_ok-ids.ensures ∙ ap (map (λ (h : ListRow). h.id)) c.as_slice.ensures.value in
    lists_are heads c.args.rows.list_items.items c.as_slice-4.result.now c.as_slice-3.result.now c.in_ok-items.items.each.items c.in_ok-lists.lists.items ids c.as_slice-4.ensures.value c.in_ok-items.ensures.each c.in_ok-lists.ensures

pub returns-clause-order : goal.returns-clause-order
returns-clause-order c =
    let heads = c.args.rows.checkin_lists.items in
    let ids = c.as_slice-2.ensures.value ∙ c.in_ok-ids.ensures ∙ ap (map (λ (h : ListRow). h.id)) c.as_slice.ensures.value in
    order_in_parts (λ (h : ListRow). h.id) (λ (h : ListRow). h.id) (λ n. n) (λ h. refl) 0 heads (subst (AreInOrder (λ n. n)) ids (c.if-not-rises.ensures.0 refl))

pub returns-clause-whole : goal.returns-clause-whole
returns-clause-whole c =
    let heads = c.args.rows.checkin_lists.items in
    let ids = c.as_slice-3.ensures.value ∙ c.in_ok-ids.ensures ∙ ap (map (λ (h : ListRow). h.id)) c.as_slice.ensures.value in
    let are = lists_are heads c.args.rows.list_items.items c.as_slice-4.result.now c.as_slice-3.result.now c.in_ok-items.items.each.items c.in_ok-lists.lists.items ids c.as_slice-4.ensures.value c.in_ok-items.ensures.each c.in_ok-lists.ensures in
    lists_whole heads c.args.rows.list_items.items c.as_slice-4.result.now c.as_slice-3.result.now c.in_ok-lists.lists.items (IsTrue c.in_ok-items.items.whole) ids c.as_slice-4.ensures.value are c.in_ok-items.ensures.whole

pub returns-then-not-rises-clause-refused : goal.returns-then-not-rises-clause-refused
returns-then-not-rises-clause-refused c is order =
    let heads = c.args.rows.checkin_lists.items in
    let ids = c.as_slice-2.ensures.value ∙ c.in_ok-ids.ensures ∙ ap (map (λ (h : ListRow). h.id)) c.as_slice.ensures.value in
    let rise = c.rises.ensures.1 (subst (AreInOrder (λ n. n)) (sym ids) (order_of_parts (λ (h : ListRow). h.id) (λ (h : ListRow). h.id) (λ n. n) (λ h. refl) 0 heads order)) in
    absurd (let no = c.if-not-rises.true in cc)
