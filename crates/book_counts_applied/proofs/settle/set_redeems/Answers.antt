use Rattle.std.proofs.Common.{◌∙◌}
use Rattle.book_counts_applied.proofs.Puts.{put_more}
use Rattle.book_counts_applied.proofs.settle.set_redeems.Goals as goal

pub loop-i-preserved : goal.loop-i-preserved
loop-i-preserved c = record {
  kept = λ f is. put_more (λ c. c.voucher) (λ c. c.redeemed) (λ q. q.id) c.args.rows.now c.args.counts.now c.loop-i.i _ c.loop-i.redeems.items c.set_one.new.kept.items f c.loop-i-test.true (c.loop-i.invariant.kept f is) c.set_one.ensures.kept;
  same = c.set_one.ensures.same ∙ c.loop-i.invariant.same;
}
