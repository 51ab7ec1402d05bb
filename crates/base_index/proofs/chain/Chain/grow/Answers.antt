use Rattle.std.proofs.Common.{◌≡◌, List, ℕ, [], ◌++◌, replicate, ap, ◌∙◌}
use Rattle.base_index.proofs.ChainLemmas.{chain_grow}
use Rattle.base_index.proofs.chain.Chain.grow.Goals as goal

pub invariant_of-self-2 : goal.invariant_of-self-2
invariant_of-self-2 c =
    let a = c.self.inside in
    let made : c.append.new.self.items ≡ a.blocks.items ++ replicate c.args.count [] = c.in_ok-append.ensures.items ∙ ap (λ (l : List (List ℕ)). a.blocks.items ++ l) c.in_ok-more.ensures in
    let starts = c.add_starts.ensures ∙ ap (λ (l : List ℕ). l ++ replicate c.args.count a.len) c.in_ok-reserve.ensures.items in
    chain_grow a.blocks.items a.starts.items a.len c.self.invariant c.args.count c.append.new.self.items c.add_starts.new.starts.items made starts
