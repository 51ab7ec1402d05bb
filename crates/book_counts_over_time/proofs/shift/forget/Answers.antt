use Rattle.book_counts_over_time.proofs.Kept.{kept_removed, kept_still}
use Rattle.book_counts_over_time.proofs.shift.forget.Goals as goal

pub returns-in-Ok-clause-kept : goal.returns-in-Ok-clause-kept
returns-in-Ok-clause-kept g c = kept_removed (g.T.Row.key) c.args.rows.now c.args.kept.now.items _ c.in-Ok.at c.args.id c.requires.order c.in-Ok.ensures.found c.remove.ensures.items

pub returns-in_default-clause-kept : goal.returns-in_default-clause-kept
returns-in_default-clause-kept g c = kept_still (g.T.Row.key) c.args.rows.now c.args.kept.now.items c.args.kept.now.items _ c.args.id c.requires.order c.in_default.ensures.absent
