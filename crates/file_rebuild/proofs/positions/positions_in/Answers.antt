use Rattle.std.proofs.Common.{◌↔◌, ◌∙◌, IsPermutation, IsTrue, map, ap, refl, sym, subst}
use Rattle.std.specs.List.{zip}
use Rattle.std.specs.Prelude.{option_map, unwrap_or}
use Rattle.base_tables.specs.Tables.{AreInOrder, row_at}
use Rattle.file_rows.specs.declared.rows.DiscountRow.{DiscountRow}
use Rattle.file_rows.specs.declared.rows.PositionRow.{PositionRow}
use Rattle.file_meaning.specs.Rows.{position_of}
use Rattle.file_meaning.proofs.Told.{order_of_parts}
use Rattle.file_rebuild.specs.Arranged.{discount_link}
use Rattle.file_rebuild.specs.Members.{values_of}
use Rattle.file_rebuild.proofs.Amounts.{positions_joined, discounts_whole}
use Rattle.file_rebuild.proofs.Offices.{order_in_parts}
use Rattle.file_rebuild.proofs.positions.positions_in.Goals as goal

pub returns-then-not-both-clause-refused : goal.returns-then-not-both-clause-refused
returns-then-not-both-clause-refused c is order =
    let heads = c.args.rows.items in
    let ids = c.as_slice-2.ensures.value ∙ c.in_ok-ids.ensures ∙ ap (map (λ (r : PositionRow). r.id)) c.as_slice.ensures.value in
    let rise = c.rises.ensures.1 (subst (AreInOrder (λ n. n)) (sym ids) (order_of_parts (λ (r : PositionRow). r.id) (λ (r : PositionRow). r.id) (λ n. n) (λ r. refl) 0 heads order.0)) in
    let both = c.both.ensures.1 (rise, c.rises-2.ensures.1 order.1) in
    absurd (let no = c.if-not-both.true in cc)

pub returns-clause-order : goal.returns-clause-order
returns-clause-order c =
    let heads = c.args.rows.items in
    let ids = c.as_slice-2.ensures.value ∙ c.in_ok-ids.ensures ∙ ap (map (λ (r : PositionRow). r.id)) c.as_slice.ensures.value in
    let both = c.both.ensures.0 c.if-not-both.false in
    (order_in_parts (λ (r : PositionRow). r.id) (λ (r : PositionRow). r.id) (λ n. n) (λ r. refl) 0 heads (subst (AreInOrder (λ n. n)) ids (c.rises.ensures.0 both.0)), c.rises-2.ensures.0 both.1)

pub returns-clause-positions : goal.returns-clause-positions
returns-clause-positions c =
    let heads = c.args.rows.items in
    let discounts = c.args.discounts.now in
    let ids = c.as_slice-3.ensures.value ∙ c.in_ok-ids.ensures ∙ ap (map (λ (r : PositionRow). r.id)) c.as_slice.ensures.value in
    let each = c.in_ok-values.ensures.each ∙ ap (map (λ id. option_map (λ (d : DiscountRow). d.discount) (row_at (λ (d : DiscountRow). d.position_id) id discounts))) ids in
    c.in_ok-positions.ensures ∙ ap (λ e. map (λ p. position_of (unwrap_or p.1 0) p.0) (zip heads e)) each ∙ positions_joined discounts heads

pub returns-clause-whole : goal.returns-clause-whole
returns-clause-whole c =
    let heads = c.args.rows.items in
    let discounts = c.args.discounts.now in
    let ls = map discount_link discounts in
    let ids = c.as_slice-3.ensures.value ∙ c.in_ok-ids.ensures ∙ ap (map (λ (r : PositionRow). r.id)) c.as_slice.ensures.value in
    let each = c.in_ok-values.ensures.each ∙ ap (map (λ id. option_map (λ (d : DiscountRow). d.discount) (row_at (λ (d : DiscountRow). d.position_id) id discounts))) ids in
    let are = c.in_ok-positions.ensures ∙ ap (λ e. map (λ p. position_of (unwrap_or p.1 0) p.0) (zip heads e)) each ∙ positions_joined discounts heads in
    let A = IsTrue c.in_ok-values.values.whole in
    discounts_whole discounts heads c.in_ok-positions.positions.items (IsTrue c.both-whole.result) A (IsTrue c.take_something.result) are c.both-whole.ensures (subst (λ n. A ↔ IsPermutation ls (values_of n ls)) ids c.in_ok-values.ensures.whole) c.take_something.ensures
