use Rattle.std.proofs.Common.{ℕ, ◌-◌, ap, ◌∙◌, arith}
use Rattle.std.proofs.lemmas.List.Sums.{count_by-le-length}
use Rattle.book_indexes.proofs.EntryLemmas.{kept_at}
use Rattle.model_rows.specs.Conditions.{holds}
use Rattle.model_rows.specs.Headroom.{held}
use Rattle.book_counts_over_time.proofs.HoldLemmas.{held_later}
use Rattle.book_counts_over_time.proofs.holds.held_by.Goals as goal

pub returns-in-Ok-clause-value : goal.returns-in-Ok-clause-value
returns-in-Ok-clause-value c =
    let lists = c.args.store.now.state.lists in
    let from = c.args.store.now.state.moment in
    let place = rw c.vouchers.ensures at c.in-Ok.ensures.found in
    let le = c.is_near.ensures c.if-is_near.true in
    c.saturating_sub.ensures ∙ ap (λ (n : ℕ). n - c.ended_holds.result) (kept_at (λ v. v.id) (λ x. held c.args.store.now.state.moment x c.args.store.now.state.lists) lists.vouchers c.args.holds.now c.args.voucher c.in-Ok.place _ c.requires place)
    ∙ omega (arith, c.ended_holds.ensures.value, held_later lists from c.args.at c.args.voucher le)

pub returns-in-Ok-clause-few : goal.returns-in-Ok-clause-few
returns-in-Ok-clause-few c =
    let lists = c.args.store.now.state.lists in
    omega (arith, returns-in-Ok-clause-value c, count_by-le-length (holds c.args.at c.args.voucher) lists.carts, c.recall_invariant.ensures.carts.few)
