use Rattle.std.proofs.Common.{sym, ◌∙◌, arith}
use Rattle.model_rows.specs.declared.rows.Voucher.{Voucher}
use Rattle.model_rows.specs.Conditions.{names}
use Rattle.book_indexes.specs.Keys.{voucher_keys}
use Rattle.base_values.specs.Texts.{same_text}
use Rattle.book_indexes.proofs.SameDigest.{found_by_digest}
use Rattle.book_store.proofs.Listed.{this_first, later_first, none_first}
use Rattle.book_store.proofs.store.Store.voucher_of.Goals as goal

pub returns-then-is_some : goal.returns-then-is_some
returns-then-is_some c =
    c.coded_at-found.ensures.found
    ∙ this_first (λ r. r.id) c.args.self.now.state.lists.vouchers (λ (r : Voucher). names c.digest.result (voucher_keys r).text) (λ (r : Voucher). same_text r.code c.args.code.now)
    c.with_text-ids.result c.loop-place.place c.recall_invariant.ensures.vouchers.in_order (rw c.vouchers.ensures at c.with_text-ids.ensures.all)
    (λ r. found_by_digest c.digest.result r.code c.args.code.now c.digest.ensures) c.at.result c.loop-place.invariant (omega (arith, c.len-place-end.ensures, c.loop-place-test.true)) c.at.ensures
    (sym c.coded_at-found.ensures.some ∙ sym c.is_some.ensures ∙ c.if-is_some.true)

pub loop-place-preserved : goal.loop-place-preserved
loop-place-preserved c =
    later_first (λ r. r.id) c.args.self.now.state.lists.vouchers (λ (r : Voucher). names c.digest.result (voucher_keys r).text) (λ (r : Voucher). same_text r.code c.args.code.now)
    c.with_text-ids.result c.loop-place.place c.at.result c.loop-place.invariant (omega (arith, c.len-place-end.ensures, c.loop-place-test.true)) c.at.ensures
    (sym c.coded_at-found.ensures.some ∙ sym c.is_some.ensures ∙ c.if-is_some.false)

pub returns : goal.returns
returns c =
    none_first (λ r. r.id) c.args.self.now.state.lists.vouchers (λ (r : Voucher). names c.digest.result (voucher_keys r).text) (λ (r : Voucher). same_text r.code c.args.code.now)
    c.with_text-ids.result c.loop-place.place c.recall_invariant.ensures.vouchers.in_order (rw c.vouchers.ensures at c.with_text-ids.ensures.all)
    (λ r. found_by_digest c.digest.result r.code c.args.code.now c.digest.ensures) c.loop-place.invariant (omega (arith, c.len-place-end.ensures, c.loop-place-test.false))
