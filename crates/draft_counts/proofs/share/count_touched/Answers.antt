use Rattle.std.proofs.Common.{take, ap, sym, ◌∙◌}
use Rattle.draft_overlay.proofs.CodeKeys.{when_ok}
use Rattle.draft_counts.proofs.Reached.{more_start, more_id, when_err}
use Rattle.draft_counts.proofs.share.count_touched.Goals as goal

pub loop-i-init : goal.loop-i-init
loop-i-init g c = more_start (g.S.Share.come c.args.share.now) (g.S.Share.gone c.args.share.now) c.args.quotas.now c.args.counts.now

pub loop-i-preserved : goal.loop-i-preserved
loop-i-preserved g c =
    let more = when_ok _ c.count_id.result (sym c.is_err.ensures.value ∙ c.if-is_err.false) c.count_id.ensures.more in
    more_id (g.S.Share.come c.args.share.now) (g.S.Share.gone c.args.share.now) c.args.quotas.now c.args.ids.now c.loop-i.i 0 c.requires.ids c.loop-i-test.true c.args.counts.now c.loop-i.counts c.count_id.new.counts c.loop-i.invariant more

pub returns-then-is_err-clause-err : goal.returns-then-is_err-clause-err
returns-then-is_err-clause-err g c =
    let same = when_err _ c.count_id.result (sym c.is_err.ensures.value ∙ c.if-is_err.true) c.count_id.ensures.err in
    c.truncate.ensures ∙ ap (take c.len-start.result) same ∙ ap (λ n. take n c.loop-i.counts) c.len-start.ensures ∙ c.loop-i.invariant.on
