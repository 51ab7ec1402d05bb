use Rattle.std.proofs.Common.{refl}
use Rattle.book_counts_applied.proofs.Puts.{put_place, put_nowhere}
use Rattle.book_counts_applied.proofs.beside.set_one.Goals as goal

pub returns-in-Ok-clause-kept : goal.returns-in-Ok-clause-kept
returns-in-Ok-clause-kept g c f is = put_place (g.T.Row.key) c.args.rows.now c.args.kept.now.items _ c.in-Ok.at c.args.id c.args.value c.requires.order c.in-Ok.ensures.found refl f is

pub returns-in_default-clause-kept : goal.returns-in_default-clause-kept
returns-in_default-clause-kept g c f is = put_nowhere (g.T.Row.key) c.args.rows.now c.args.kept.now.items _ c.args.id c.args.value c.in_default.ensures.absent f is
