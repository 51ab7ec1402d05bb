use Rattle.std.proofs.Common.{◌≡◌, ◌+◌, ◌-◌, ◌<◌, length, ap, refl, arith}
use Rattle.std.proofs.lemmas.List.Edits.{length-remove}
use Rattle.base_index.proofs.ChainLemmas.{starts_count, chain_remove, read_length, some_in}
use Rattle.base_index.proofs.chain.Chain.remove.Goals as goal

pub lower-requires : goal.lower-requires
lower-requires c =
    let a = c.self.inside in
    omega (arith, c.requires.block, ap length c.self.view_is, starts_count a.blocks.items a.starts.items a.len c.self.invariant)

pub overflow_sub-self : goal.overflow_sub-self
overflow_sub-self c =
    let a = c.self.inside in
    let block = c.index_mut-block.result.now in
    let lt : c.args.spot.block < length a.blocks.items = omega (arith, c.requires.block, ap length c.self.view_is) in
    let long = read_length a.blocks.items c.args.self.now c.args.spot.block block lt c.self.view_is c.index_mut-block.ensures.value in
    some_in a.blocks.items a.starts.items a.len c.self.invariant c.args.spot.block block lt c.index_mut-block.ensures.value (omega (arith, c.requires.within))

pub invariant_of-self : goal.invariant_of-self
invariant_of-self c =
    let a = c.self.inside in
    let block = c.index_mut-block.result.now in
    let lt : c.args.spot.block < length a.blocks.items = omega (arith, c.requires.block, ap length c.self.view_is) in
    let long = read_length a.blocks.items c.args.self.now c.args.spot.block block lt c.self.view_is c.index_mut-block.ensures.value in
    let within : c.args.spot.offset < length block = omega (arith, c.requires.within) in
    let fewer : length c.remove.new.self + 1 ≡ length block = omega (arith, ap length c.remove.ensures, length-remove block c.args.spot.offset within) in
    chain_remove a.blocks.items a.starts.items a.len c.self.invariant c.args.spot.block block c.remove.new.self c.lower.new.starts.items (a.len - 1) lt c.index_mut-block.ensures.value fewer c.lower.ensures refl
