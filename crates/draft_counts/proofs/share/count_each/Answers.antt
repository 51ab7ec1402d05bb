use Rattle.std.proofs.lemmas.Result.{on_ok_weaker}
use Rattle.draft_counts.proofs.Reached.{more_all}
use Rattle.draft_counts.proofs.share.count_each.Goals as goal

pub returns-clause-more : goal.returns-clause-more
returns-clause-more g c =
    let share = c.args.share.now in
    let more = more_all (g.S.Share.come share) (g.S.Share.gone share) c.args.catalogue.now.lists c.touch.new.ids.items c.sorted-ids.result c.args.counts.now c.count_touched.new.counts in
    on_ok_weaker c.count_touched.result (more c.recall_invariant.ensures.in_order c.sorted-ids.ensures c.in_ok-touch.ensures.come c.in_ok-touch.ensures.gone) (rw (c.as_slice.ensures, c.quotas.ensures) at c.count_touched.ensures.more)
