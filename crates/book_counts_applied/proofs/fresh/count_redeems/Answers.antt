use Rattle.std.proofs.Common.{arith}
use Rattle.model_rows.specs.declared.rows.Voucher.{Voucher}
use Rattle.model_rows.specs.Usage.{redeemed}
use Rattle.book_counts_applied.proofs.FreshLemmas.{kept_more, one_longer}
use Rattle.book_counts_applied.proofs.fresh.count_redeems.Goals as goal

pub loop-row-preserved : goal.loop-row-preserved
loop-row-preserved c = record {
  items = kept_more (λ (v : Voucher). redeemed v.id c.args.store.now.state.lists) c.args.rows.now c.loop-row.row-index c.row-item.result c.redeemed.result c.loop-row.redeems.items c.push_reserved.new.kept.items c.loop-row-test.true c.row-item.is c.redeemed.ensures.value c.loop-row.invariant.items c.push_reserved.ensures.items;
  count = one_longer c.loop-row.redeems.items c.push_reserved.new.kept.items c.redeemed.result c.loop-row.row-index c.push_reserved.ensures.items c.loop-row.invariant.count;
  room = omega (arith, c.loop-row.invariant.room, c.push_reserved.ensures.capacity);
}
