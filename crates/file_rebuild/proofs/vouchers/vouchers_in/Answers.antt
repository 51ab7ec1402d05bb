use Rattle.std.proofs.Common.{◌↔◌, ◌∙◌, IsPermutation, IsTrue, map, ap, refl, sym, subst}
use Rattle.std.specs.List.{zip}
use Rattle.std.specs.Prelude.{option_map}
use Rattle.base_tables.specs.Tables.{AreInOrder, row_at}
use Rattle.file_rows.specs.declared.rows.BudgetRow.{BudgetRow}
use Rattle.file_rows.specs.declared.rows.VoucherRow.{VoucherRow}
use Rattle.file_meaning.specs.Rows.{voucher_of}
use Rattle.file_meaning.proofs.Told.{order_of_parts}
use Rattle.file_rebuild.specs.Arranged.{budget_link}
use Rattle.file_rebuild.specs.Members.{values_of}
use Rattle.file_rebuild.proofs.Amounts.{vouchers_joined, budgets_whole}
use Rattle.file_rebuild.proofs.Offices.{order_in_parts}
use Rattle.file_rebuild.proofs.vouchers.vouchers_in.Goals as goal

pub returns-then-not-both-clause-refused : goal.returns-then-not-both-clause-refused
returns-then-not-both-clause-refused c is order =
    let heads = c.args.rows.items in
    let ids = c.as_slice-2.ensures.value ∙ c.in_ok-ids.ensures ∙ ap (map (λ (r : VoucherRow). r.voucher.id)) c.as_slice.ensures.value in
    let rise = c.rises.ensures.1 (subst (AreInOrder (λ n. n)) (sym ids) (order_of_parts (λ (r : VoucherRow). r.voucher.id) (λ (r : VoucherRow). r.voucher.id) (λ n. n) (λ r. refl) 0 heads order.0)) in
    let both = c.both.ensures.1 (rise, c.rises-2.ensures.1 order.1) in
    absurd (let no = c.if-not-both.true in cc)

pub returns-clause-order : goal.returns-clause-order
returns-clause-order c =
    let heads = c.args.rows.items in
    let ids = c.as_slice-2.ensures.value ∙ c.in_ok-ids.ensures ∙ ap (map (λ (r : VoucherRow). r.voucher.id)) c.as_slice.ensures.value in
    let both = c.both.ensures.0 c.if-not-both.false in
    (order_in_parts (λ (r : VoucherRow). r.voucher.id) (λ (r : VoucherRow). r.voucher.id) (λ n. n) (λ r. refl) 0 heads (subst (AreInOrder (λ n. n)) ids (c.rises.ensures.0 both.0)), c.rises-2.ensures.0 both.1)

pub returns-clause-vouchers : goal.returns-clause-vouchers
returns-clause-vouchers c =
    let heads = c.args.rows.items in
    let budgets = c.args.budgets.now in
    let ids = c.as_slice-3.ensures.value ∙ c.in_ok-ids.ensures ∙ ap (map (λ (r : VoucherRow). r.voucher.id)) c.as_slice.ensures.value in
    let each = c.in_ok-values.ensures.each ∙ ap (map (λ id. option_map (λ (b : BudgetRow). b.budget) (row_at (λ (b : BudgetRow). b.voucher_id) id budgets))) ids in
    c.in_ok-vouchers.ensures ∙ ap (λ e. map (λ p. voucher_of p.1 p.0.voucher) (zip heads e)) each ∙ vouchers_joined budgets heads

pub returns-clause-whole : goal.returns-clause-whole
returns-clause-whole c =
    let heads = c.args.rows.items in
    let budgets = c.args.budgets.now in
    let ls = map budget_link budgets in
    let ids = c.as_slice-3.ensures.value ∙ c.in_ok-ids.ensures ∙ ap (map (λ (r : VoucherRow). r.voucher.id)) c.as_slice.ensures.value in
    let each = c.in_ok-values.ensures.each ∙ ap (map (λ id. option_map (λ (b : BudgetRow). b.budget) (row_at (λ (b : BudgetRow). b.voucher_id) id budgets))) ids in
    let are = c.in_ok-vouchers.ensures ∙ ap (λ e. map (λ p. voucher_of p.1 p.0.voucher) (zip heads e)) each ∙ vouchers_joined budgets heads in
    let W = IsTrue c.in_ok-values.values.whole in
    budgets_whole budgets heads c.in_ok-vouchers.vouchers.items W are (subst (λ n. W ↔ IsPermutation ls (values_of n ls)) ids c.in_ok-values.ensures.whole)
