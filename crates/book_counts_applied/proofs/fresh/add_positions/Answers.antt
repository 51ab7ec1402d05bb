use Rattle.std.proofs.Common.{◌∙◌, sym, arith}
use Rattle.book_counts_applied.specs.Fresh.{position_comes}
use Rattle.book_counts_applied.proofs.FreshLemmas.{rest_more, rest_none}
use Rattle.book_counts_applied.proofs.fresh.add_positions.Goals as goal

pub loop-row-preserved : goal.loop-row-preserved
loop-row-preserved c =
    let lists = c.args.store.now.state.lists in
    record {
      items = rest_more (position_comes lists) lists.catalogue.quotas c.args.rows.now c.loop-row.row-index c.row-item.result c.loop-row.usages.items c.add_position.new.usages.items c.loop-row-test.true c.row-item.is c.add_position.ensures.items ∙ c.loop-row.invariant.items;
      same = c.add_position.ensures.same ∙ c.loop-row.invariant.same;
    }

pub returns : goal.returns
returns c =
    let lists = c.args.store.now.state.lists in
    record {
      items = sym (rest_none (position_comes lists) lists.catalogue.quotas c.args.rows.now c.loop-row.row-index c.loop-row.usages.items (omega (arith, c.loop-row-test.false)) (c.loop-row.invariant.same ∙ c.requires)) ∙ c.loop-row.invariant.items;
      same = c.loop-row.invariant.same;
    }
