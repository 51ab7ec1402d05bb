use Rattle.std.proofs.Common.{arith}
use Rattle.base_index.proofs.BlockLemmas.{few_in}
use Rattle.base_index.proofs.blocks.Blocks.len.Goals as goal

pub returns-clause-few : goal.returns-clause-few
returns-clause-few c = rw (← c.self.view_is) (omega (arith, c.len.ensures, few_in c.self.inside.chain, c.self.invariant.room_is, c.self.invariant.few))
