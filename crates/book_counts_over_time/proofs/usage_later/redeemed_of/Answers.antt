use Rattle.model_rows.specs.Usage.{redeemed}
use Rattle.base_tables.proofs.Places.{row_at_gap}
use Rattle.book_indexes.proofs.EntryLemmas.{kept_at}
use Rattle.book_counts_over_time.proofs.Later.{none_stands}
use Rattle.book_counts_over_time.proofs.usage_later.redeemed_of.Goals as goal

pub returns-in-Ok : goal.returns-in-Ok
returns-in-Ok g c =
    let lists = c.args.ended.now.state.lists in
    kept_at (λ v. v.id) (λ id. redeemed id lists) lists.vouchers c.args.redeems.now c.args.voucher c.in-Ok.at 0 c.requires.redeems c.in-Ok.ensures.found

pub returns-in-Err : goal.returns-in-Err
returns-in-Err g c =
    let lists = c.args.ended.now.state.lists in
    absurd (none_stands _ (row_at_gap (λ v. v.id) lists.vouchers c.args.voucher _ c.in-Err.ensures.absent) c.requires.stands)
