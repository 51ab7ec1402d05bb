use Rattle.std.proofs.Common.{◌∙◌, sym, arith}
use Rattle.book_counts_applied.specs.Fresh.{voucher_comes}
use Rattle.book_counts_applied.proofs.FreshLemmas.{rest_more, rest_none}
use Rattle.book_counts_applied.proofs.fresh.add_vouchers.Goals as goal

pub loop-row-preserved : goal.loop-row-preserved
loop-row-preserved c =
    let lists = c.args.store.now.state.lists in
    record {
      items = rest_more (voucher_comes lists c.args.at) lists.catalogue.quotas c.args.rows.now c.loop-row.row-index c.row-item.result c.loop-row.usages.items c.add_voucher.new.usages.items c.loop-row-test.true c.row-item.is c.add_voucher.ensures.items ∙ c.loop-row.invariant.items;
      same = c.add_voucher.ensures.same ∙ c.loop-row.invariant.same;
    }

pub returns : goal.returns
returns c =
    let lists = c.args.store.now.state.lists in
    record {
      items = sym (rest_none (voucher_comes lists c.args.at) lists.catalogue.quotas c.args.rows.now c.loop-row.row-index c.loop-row.usages.items (omega (arith, c.loop-row-test.false)) (c.loop-row.invariant.same ∙ c.requires.same)) ∙ c.loop-row.invariant.items;
      same = c.loop-row.invariant.same;
    }
