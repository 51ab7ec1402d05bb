use Rattle.std.proofs.Common.{◌<◌, ◌≤◌, List, ℕ, length, ap, ◌∙◌, arith}
use Rattle.std.specs.List.{concat}
use Rattle.std.proofs.lemmas.List.Edits.{length-insert}
use Rattle.base_index.proofs.ChainLemmas.{starts_count, starts_few, chain_insert, read_length}
use Rattle.base_index.proofs.chain.Chain.insert.Goals as goal

pub raise-requires-clause-within : goal.raise-requires-clause-within
raise-requires-clause-within c =
    let a = c.self.inside in
    omega (arith, c.requires.block, ap length c.self.view_is, starts_count a.blocks.items a.starts.items a.len c.self.invariant)

pub raise-requires-clause-few : goal.raise-requires-clause-few
raise-requires-clause-few c =
    let a = c.self.inside in
    starts_few a.blocks.items a.starts.items a.len c.self.invariant

pub invariant_of-self : goal.invariant_of-self
invariant_of-self c =
    let a = c.self.inside in
    let block = c.index_mut-block.result.now in
    let lt : c.args.spot.block < length a.blocks.items = omega (arith, c.requires.block, ap length c.self.view_is) in
    let long = read_length a.blocks.items c.args.self.now c.args.spot.block block lt c.self.view_is c.index_mut-block.ensures.value in
    let within : c.args.spot.offset ≤ length block = omega (arith, c.requires.within) in
    let few : a.len < 4294967296 = omega (arith, c.self.invariant.counted, c.requires.few, ap (λ (l : List (List ℕ)). length (concat l)) c.self.view_is) in
    chain_insert a.blocks.items a.starts.items a.len c.self.invariant c.args.spot.block block c.insert.new.self c.raise.new.starts.items lt c.index_mut-block.ensures.value (ap length c.insert.ensures ∙ length-insert block c.args.spot.offset c.args.entry within) c.raise.ensures few
