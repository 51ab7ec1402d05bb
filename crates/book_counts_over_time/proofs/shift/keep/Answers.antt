use Rattle.std.proofs.Common.{refl}
use Rattle.book_counts_over_time.proofs.Kept.{kept_set, kept_inserted}
use Rattle.book_counts_over_time.proofs.shift.keep.Goals as goal

pub returns-in-Ok-clause-kept : goal.returns-in-Ok-clause-kept
returns-in-Ok-clause-kept g c = kept_set (g.T.Row.key) c.args.rows.now c.args.kept.now.items _ c.in-Ok.at c.args.id c.args.value c.requires.order c.in-Ok.ensures.found refl

pub returns-in-Err-clause-kept : goal.returns-in-Err-clause-kept
returns-in-Err-clause-kept g c = kept_inserted (g.T.Row.key) c.args.rows.now c.args.kept.now.items c.insert_reserved.new.rows.items c.in-Err.at c.args.id c.args.value c.requires.order c.in-Err.ensures.absent c.insert_reserved.ensures.items
