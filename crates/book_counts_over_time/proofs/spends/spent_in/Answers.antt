use Rattle.std.proofs.Common.{arith}
use Rattle.model_rows.specs.Usage.{spent}
use Rattle.book_usage.proofs.Spent.{spent_le}
use Rattle.book_indexes.proofs.EntryLemmas.{kept_at}
use Rattle.book_counts_over_time.proofs.spends.spent_in.Goals as goal

pub returns-in-Ok-clause-value : goal.returns-in-Ok-clause-value
returns-in-Ok-clause-value c =
    let lists = c.args.store.now.state.lists in
    let place = rw c.vouchers.ensures at c.in-Ok.ensures.found in
    kept_at (λ v. v.id) (λ id. spent id lists) lists.vouchers c.args.spents.now c.args.voucher c.in-Ok.at 0 c.requires.spents place

pub returns-in-Ok-clause-few : goal.returns-in-Ok-clause-few
returns-in-Ok-clause-few c =
    let lists = c.args.store.now.state.lists in
    let place = rw c.vouchers.ensures at c.in-Ok.ensures.found in
    omega (arith, kept_at (λ v. v.id) (λ id. spent id lists) lists.vouchers c.args.spents.now c.args.voucher c.in-Ok.at 0 c.requires.spents place, spent_le c.args.voucher lists 4294967296 c.recall_invariant.ensures c.requires.priced)
