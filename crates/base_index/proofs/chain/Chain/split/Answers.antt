use Rattle.std.proofs.Common.{◌≡◌, ◌+◌, ◌-◌, ◌<◌, [], length, get_or, ap, arith}
use Rattle.base_index.proofs.ChainLemmas.{cut_counts, cut_few, chain_split}
use Rattle.base_index.proofs.chain.Chain.split.Goals as goal

pub index-requires : goal.index-requires
index-requires c =
    let a = c.self.inside in
    let within : c.args.block + 1 < length a.blocks.items = omega (arith, c.requires.within, ap length c.self.view_is) in
    let counts = cut_counts a.blocks.items a.starts.items a.len c.self.invariant c.args.block c.take_last-upper.new.self.items c.take_last-upper.result c.take_last.new.self.items c.take_last.result c.take_last-upper.ensures.items c.take_last.ensures.items within in
    omega (arith, counts.0, counts.1, c.take_last.new.self.ok.0)

pub overflow_add-start : goal.overflow_add-start
overflow_add-start c =
    let a = c.self.inside in
    let within : c.args.block + 1 < length a.blocks.items = omega (arith, c.requires.within, ap length c.self.view_is) in
    let few = cut_few a.blocks.items a.starts.items a.len c.self.invariant c.args.block c.take_last-upper.new.self.items c.take_last-upper.result c.take_last.new.self.items c.take_last.result c.take_last-upper.ensures.items c.take_last.ensures.items within c.index.result.now c.index.ensures in
    omega (arith, few)

pub put_start-requires-clause-within : goal.put_start-requires-clause-within
put_start-requires-clause-within c =
    let a = c.self.inside in
    let within : c.args.block + 1 < length a.blocks.items = omega (arith, c.requires.within, ap length c.self.view_is) in
    let counts = cut_counts a.blocks.items a.starts.items a.len c.self.invariant c.args.block c.take_last-upper.new.self.items c.take_last-upper.result c.take_last.new.self.items c.take_last.result c.take_last-upper.ensures.items c.take_last.ensures.items within in
    omega (arith, counts.0, counts.1)

pub invariant_of-self : goal.invariant_of-self
invariant_of-self c =
    let a = c.self.inside in
    let within : c.args.block + 1 < length a.blocks.items = omega (arith, c.requires.within, ap length c.self.view_is) in
    let full : length (get_or a.blocks.items c.args.block []) ≡ 512 = rw c.self.view_is c.requires.full in
    let spare : get_or a.blocks.items (length a.blocks.items - 1) [] ≡ [] = rw c.self.view_is c.requires.spare in
    chain_split a.blocks.items a.starts.items a.len c.self.invariant c.args.block c.take_last-upper.new.self.items c.take_last-upper.result c.take_last.new.self.items c.take_last.result
    c.take_last-upper.ensures.items c.take_last.ensures.items within c.index_mut-lower.result.now c.split_into.new.self c.split_into.new.upper c.index.result.now c.put_back.new.blocks.items
    c.put_start.new.starts.items full spare c.index_mut-lower.ensures.value c.split_into.ensures.kept c.split_into.ensures.moved c.index.ensures c.put_back.ensures c.put_start.ensures
