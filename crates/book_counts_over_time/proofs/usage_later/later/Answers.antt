use Rattle.std.proofs.Common.{arith}
use Rattle.book_counts_over_time.proofs.Later.{naming_is}
use Rattle.book_counts_over_time.proofs.usage_later.later.Goals as goal

pub returns-clause-cost : goal.returns-clause-cost
returns-clause-cost g c =
    let lists = c.args.ended.now.state.lists in
    omega (arith, c.carts_lapsed-lapsed.ensures.cost, c.blocks_released-released.ensures.cost, naming_is c.args.quota.now lists c.args.ended.now.state.moment c.args.at c.requires.moment c.recall_invariant.ensures)
