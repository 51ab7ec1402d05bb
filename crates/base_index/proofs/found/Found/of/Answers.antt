use Rattle.std.proofs.Common.{arith}
use Rattle.base_index.proofs.EntryLemmas.{lent_count}
use Rattle.base_index.proofs.found.Found.of.Goals as goal

pub returns-clause-few : goal.returns-clause-few
returns-clause-few c =
    omega (arith, lent_count c.args.entries.now.rows c.args.first c.args.end c.requires.0 c.requires.1, c.recall_invariant.ensures)
