use Rattle.std.proofs.Common.{refl}
use Rattle.book_counts_over_time.proofs.RedemptionLemmas.{spent_place, spent_gap}
use Rattle.book_counts_over_time.proofs.holds.turn_one.Goals as goal

pub returns-in-Err-clause-counts : goal.returns-in-Err-clause-counts
returns-in-Err-clause-counts c spent is = rw c.in-Some.is (spent_gap c.args.up c.in-Some.id spent c.args.vouchers.now _ c.args.counts.now.items c.in-Err.ensures.absent is)

pub returns-in-Ok-clause-counts : goal.returns-in-Ok-clause-counts
returns-in-Ok-clause-counts c spent is = rw c.in-Some.is (spent_place c.args.up c.in-Some.id spent c.args.vouchers.now c.in-Ok.at c.index.result.now c.count_after_turn.result c.args.counts.now.items _ c.requires.order c.in-Ok.ensures.found c.index.ensures c.count_after_turn.ensures refl is)
