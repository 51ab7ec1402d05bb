use Rattle.std.proofs.Common.{◌<◌, length, ap, ◌∙◌, arith}
use Rattle.std.proofs.lemmas.List.{length-set}
use Rattle.base_index.proofs.ChainLemmas.{chain_set}
use Rattle.base_index.proofs.chain.Chain.set.Goals as goal

pub invariant_of-self : goal.invariant_of-self
invariant_of-self c =
    let a = c.self.inside in
    let lt : c.args.spot.block < length a.blocks.items = omega (arith, c.requires.block, ap length c.self.view_is) in
    chain_set a.blocks.items a.starts.items a.len c.self.invariant c.args.spot.block c.index_mut-block.result.now c.set.new.self lt c.index_mut-block.ensures.value (ap length c.set.ensures ∙ length-set c.index_mut-block.result.now c.args.spot.offset c.args.entry)
