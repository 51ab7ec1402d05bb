use Rattle.std.proofs.Common.{◌≡◌, ◌<◌, [], length, get_or, ap, ◌∙◌, arith}
use Rattle.std.proofs.lemmas.List.{get_or_default}
use Rattle.base_index.specs.Blocks.{start_of}
use Rattle.base_index.proofs.ChainLemmas.{starts_count, start_read, start_few, place_told, gap_told}
use Rattle.base_index.proofs.chain.Chain.place_in.Goals as goal

pub index-start-requires : goal.index-start-requires
index-start-requires c =
    let a = c.self.inside in
    omega (arith, c.requires.within, ap length c.self.view_is, starts_count a.blocks.items a.starts.items a.len c.self.invariant, a.starts.ok.0)

pub overflow_add-result : goal.overflow_add-result
overflow_add-result c =
    let a = c.self.inside in
    let lt : c.args.block < length a.blocks.items = omega (arith, c.requires.within, ap length c.self.view_is) in
    let start : c.index-start.result.now ≡ start_of c.args.block a.blocks.items = c.index-start.ensures ∙ start_read a.blocks.items a.starts.items a.len c.self.invariant c.args.block c.index-start.result.now lt in
    let few = start_few a.blocks.items a.starts.items a.len c.self.invariant c.args.block lt in
    let here : length c.index-block.result.now ≡ length (get_or a.blocks.items c.args.block []) = ap length (c.index-block.ensures ∙ get_or_default a.blocks.items c.args.block c.index-block.result.now [] lt) in
    omega (arith, c.in-Ok.ensures.found.in_range)

pub overflow_add-result-in-Err : goal.overflow_add-result-in-Err
overflow_add-result-in-Err c =
    let a = c.self.inside in
    let lt : c.args.block < length a.blocks.items = omega (arith, c.requires.within, ap length c.self.view_is) in
    let start : c.index-start.result.now ≡ start_of c.args.block a.blocks.items = c.index-start.ensures ∙ start_read a.blocks.items a.starts.items a.len c.self.invariant c.args.block c.index-start.result.now lt in
    let few = start_few a.blocks.items a.starts.items a.len c.self.invariant c.args.block lt in
    let here : length c.index-block.result.now ≡ length (get_or a.blocks.items c.args.block []) = ap length (c.index-block.ensures ∙ get_or_default a.blocks.items c.args.block c.index-block.result.now [] lt) in
    omega (arith, c.in-Err.ensures.absent.in_range)

pub returns-in-Ok-clause-found : goal.returns-in-Ok-clause-found
returns-in-Ok-clause-found c =
    let a = c.self.inside in
    let lt : c.args.block < length a.blocks.items = omega (arith, c.requires.within, ap length c.self.view_is) in
    rw (← c.self.view_is) (place_told a.blocks.items a.starts.items a.len c.self.invariant c.args.block c.index-start.result.now c.in-Ok.at c.args.entry c.index-block.result.now lt c.index-start.ensures c.index-block.ensures c.in-Ok.ensures.found)

pub returns-in-Err-clause-absent : goal.returns-in-Err-clause-absent
returns-in-Err-clause-absent c =
    let a = c.self.inside in
    let lt : c.args.block < length a.blocks.items = omega (arith, c.requires.within, ap length c.self.view_is) in
    rw (← c.self.view_is) (gap_told a.blocks.items a.starts.items a.len c.self.invariant c.args.block c.index-start.result.now c.in-Err.at c.args.entry c.index-block.result.now lt c.index-start.ensures c.index-block.ensures c.in-Err.ensures.absent)
