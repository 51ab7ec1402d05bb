use Rattle.std.proofs.Common.{ℕ, List, ◌∙◌, ap, get_or, arith}
use Rattle.base_tables.specs.Tables.{row_at}
use Rattle.model_rows.specs.declared.rows.Voucher.{Voucher}
use Rattle.model_rows.specs.Lists.{voucher_at}
use Rattle.model_rows.specs.CameDue.{is_due_voucher}
use Rattle.book_counts_over_time.specs.Later.{release_if, free_if, naming_if}
use Rattle.book_indexes.proofs.EntryLemmas.{found_count}
use Rattle.book_counts_over_time.proofs.Walked.{one_found, found_more, walked, taken}
use Rattle.book_counts_over_time.proofs.Later.{stands_at}
use Rattle.book_counts_over_time.proofs.usage_later.blocks_released.Goals as goal

pub release_of-release-requires-clause-stands : goal.release_of-release-requires-clause-stands
release_of-release-requires-clause-stands g c =
    let lists = c.args.ended.now.state.lists in
    stands_at lists (get_or c.vouchers-vouchers.result.ids c.loop-place.place 0) _ (c.at-voucher.ensures.row 0 ∙ ap (λ (rows : List Voucher). row_at (λ r. r.id) (get_or c.vouchers-vouchers.result.ids c.loop-place.place 0) rows) c.vouchers-vouchers.ensures.rows)

pub returns-clause-blocked : goal.returns-clause-blocked
returns-clause-blocked g c =
    let lists = c.args.ended.now.state.lists in
    walked (λ i. release_if lists c.args.quota.now (voucher_at i lists)) c.vouchers-vouchers.result.ids c.loop-place.place c.loop-place.blocked (rw c.len-place-end.ensures at c.loop-place-test.false) c.loop-place.invariant.blocked_is
    ∙ c.vouchers-vouchers.ensures.finds (release_if lists c.args.quota.now)

pub returns-clause-carts : goal.returns-clause-carts
returns-clause-carts g c =
    let lists = c.args.ended.now.state.lists in
    walked (λ i. free_if lists c.args.at c.args.quota.now (voucher_at i lists)) c.vouchers-vouchers.result.ids c.loop-place.place c.loop-place.carts (rw c.len-place-end.ensures at c.loop-place-test.false) c.loop-place.invariant.carts_is
    ∙ c.vouchers-vouchers.ensures.finds (free_if lists c.args.at c.args.quota.now)

pub returns-clause-cost : goal.returns-clause-cost
returns-clause-cost g c =
    let lists = c.args.ended.now.state.lists in
    let ids = c.vouchers-vouchers.result.ids in
    omega (
      arith,
      found_count (λ r. r.id) (is_due_voucher c.args.ended.now.state.moment c.args.at) lists.vouchers ids c.vouchers-vouchers.ensures.finds,
      taken (λ i. naming_if lists (voucher_at i lists)) ids c.loop-place.place (rw c.len-place-end.ensures at c.loop-place-test.false),
      c.vouchers-vouchers.ensures.finds (naming_if lists),
    )

pub loop-place-preserved : goal.loop-place-preserved
loop-place-preserved g c =
    let lists = c.args.ended.now.state.lists in
    let ids = c.vouchers-vouchers.result.ids in
    let lt = rw c.len-place-end.ensures at c.loop-place-test.true in
    let at = λ (d : ℕ). c.at-voucher.ensures.row d ∙ ap (λ (rows : List Voucher). row_at (λ r. r.id) (get_or c.vouchers-vouchers.result.ids c.loop-place.place d) rows) c.vouchers-vouchers.ensures.rows in
    let more = c.release_of-release.ensures in
    record {
      blocked_is = one_found (λ i. voucher_at i lists) (release_if lists c.args.quota.now) ids c.loop-place.place _ c.loop-place.blocked c.from-blocked.result lt at c.loop-place.invariant.blocked_is (c.from-blocked.ensures ∙ more.blocked);
      blocked_small = omega (arith, c.loop-place.invariant.blocked_small, more.small, c.from-blocked.ensures);
      carts_is = one_found (λ i. voucher_at i lists) (free_if lists c.args.at c.args.quota.now) ids c.loop-place.place _ c.loop-place.carts c.from-carts.result lt at c.loop-place.invariant.carts_is (c.from-carts.ensures ∙ more.carts);
      carts_small = omega (arith, c.loop-place.invariant.carts_small, more.few, c.from-carts.ensures);
      ticked = omega (arith, c.loop-place.invariant.ticked, c.at-voucher.ensures.cost, more.cost, found_more (λ i. voucher_at i lists) (naming_if lists) ids c.loop-place.place _ lt at);
    }
