use Rattle.draft_counts.proofs.Reached.{more_placed, more_absent, on_ok_three}
use Rattle.draft_counts.proofs.share.count_id.Goals as goal

pub returns-in-Ok-clause-more : goal.returns-in-Ok-clause-more
returns-in-Ok-clause-more g c =
    let share = c.args.share.now in
    let here = more_placed (g.S.Share.come share) (g.S.Share.gone share) c.args.quotas.now c.args.id c.in-Ok.place c.index-quotas-place.result c.requires.quotas c.in-Ok.ensures.found c.index-quotas-place.is in
    on_ok_three c.count_one.result (here c.shares.result.come c.shares.result.gone c.shares.ensures.come c.shares.ensures.gone c.args.counts.now c.count_one.new.counts) c.count_one.ensures.comes c.count_one.ensures.goes c.count_one.ensures.on

pub returns-in-Err-clause-more : goal.returns-in-Err-clause-more
returns-in-Err-clause-more g c = more_absent (g.S.Share.come c.args.share.now) (g.S.Share.gone c.args.share.now) c.args.quotas.now c.args.id c.in-Err.field-0 c.args.counts.now c.in-Err.ensures.absent
