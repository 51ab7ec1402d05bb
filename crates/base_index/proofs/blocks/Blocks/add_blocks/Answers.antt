use Rattle.std.proofs.Common.{◌≡◌, ℕ, ◌+◌, ◌-◌, ◌*◌, ◌≤◌, List, [], ◌++◌, length, replicate, sym, ap, ◌∙◌, subst, arith}
use Rattle.std.specs.List.{concat}
use Rattle.base_index.specs.Blocks.{AreBlocks}
use Rattle.base_index.proofs.BlockLemmas.{grown_concat}
use Rattle.base_index.proofs.RoomLemmas.{blocks_grow}
use Rattle.base_index.proofs.blocks.Blocks.add_blocks.Goals as goal

pub invariant_of-self-2 : goal.invariant_of-self-2
invariant_of-self-2 c =
    let a = c.self.inside in
    let is : c.args.spare + c.saturating_sub.result ≡ c.args.spare + (1 - length a.chain) = omega (arith, c.saturating_sub.ensures, c.count-blocks.ensures) in
    let few : 512 * (length a.chain + (c.args.spare + c.saturating_sub.result)) ≤ 4294967296 = omega (arith, c.if-count-blocks.false, c.count-blocks.ensures, c.self.invariant.few) in
    let more : a.room + 256 * c.args.spare ≡ a.room + c.args.spare * 256 = omega arith in
    subst (λ (l : List (List ℕ)). AreBlocks l a.last (a.room + c.args.spare * 256)) (sym c.in_ok-grow.ensures.ok) (subst (λ (n : ℕ). AreBlocks (a.chain ++ replicate (c.args.spare + c.saturating_sub.result) []) a.last n) more (blocks_grow a.chain a.last a.room c.self.invariant (c.args.spare + c.saturating_sub.result) c.args.spare is few))

pub returns-clause-rows : goal.returns-clause-rows
returns-clause-rows c =
    let a = c.self.inside in
    rw (← c.self.view_is) (ap concat c.in_ok-grow.ensures.ok ∙ grown_concat (c.args.spare + c.saturating_sub.result) a.chain)
