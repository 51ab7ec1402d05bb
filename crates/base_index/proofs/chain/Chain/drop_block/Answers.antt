use Rattle.std.proofs.Common.{◌≡◌, ◌+◌, ◌-◌, ◌<◌, List, ℕ, [], ◌∷◌, ◌++◌, length, get_or, ap, sym, ◌∙◌, refl, subst, arith}
use Rattle.std.specs.List.{remove}
use Rattle.base_index.specs.Blocks.{IsChain}
use Rattle.base_index.proofs.ChainLemmas.{starts_count, chain_drop, some_at, length_lowered}
use Rattle.base_index.proofs.chain.Chain.drop_block.Goals as goal

pub lower-requires : goal.lower-requires
lower-requires c =
    let a = c.self.inside in
    omega (arith, c.requires.within, ap length c.self.view_is, starts_count a.blocks.items a.starts.items a.len c.self.invariant)

pub remove-requires : goal.remove-requires
remove-requires c =
    let a = c.self.inside in
    omega (arith, c.requires.within, ap length c.self.view_is, starts_count a.blocks.items a.starts.items a.len c.self.invariant, ap length c.lower.ensures, length_lowered (c.args.block + 1) a.starts.items, c.lower.new.starts.ok.0)

pub overflow_sub-self : goal.overflow_sub-self
overflow_sub-self c =
    let a = c.self.inside in
    let lt : c.args.block < length a.blocks.items = omega (arith, c.requires.within, ap length c.self.view_is) in
    let single : length (get_or a.blocks.items c.args.block []) ≡ 1 = rw c.self.view_is c.requires.single in
    some_at a.blocks.items a.starts.items a.len c.self.invariant c.args.block lt (omega arith)

pub invariant_of-self : goal.invariant_of-self
invariant_of-self c =
    let a = c.self.inside in
    let lt : c.args.block < length a.blocks.items = omega (arith, c.requires.within, ap length c.self.view_is) in
    let single : length (get_or a.blocks.items c.args.block []) ≡ 1 = rw c.self.view_is c.requires.single in
    let made : c.push_reserved.new.self.items ≡ remove a.blocks.items c.args.block ++ [] ∷ [] = c.push_reserved.ensures.items ∙ ap (λ (l : List (List ℕ)). l ++ c.clear.new.self ∷ []) c.remove-emptied.ensures.items ∙ ap (λ (x : List ℕ). remove a.blocks.items c.args.block ++ x ∷ []) c.clear.ensures in
    let starts = c.push_reserved-2.ensures.items ∙ ap (λ (l : List ℕ). l ++ (a.len - 1) ∷ []) c.remove.ensures.items in
    subst (λ (l : List (List ℕ)). IsChain l c.push_reserved-2.new.self.items (a.len - 1)) (sym made) (chain_drop a.blocks.items a.starts.items a.len c.self.invariant c.args.block c.lower.new.starts.items c.push_reserved-2.new.self.items (a.len - 1) lt single c.lower.ensures refl starts)
