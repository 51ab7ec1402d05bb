use Rattle.std.proofs.Common.{ℕ, ◌+◌, ◌<◌, ◌≤◌, List, length, get_or, ap, subst, arith}
use Rattle.base_index.specs.Blocks.{start_of}
use Rattle.base_index.proofs.ChainLemmas.{starts_count, spot_told}
use Rattle.base_index.proofs.chain.Chain.spot_of.Goals as goal

pub block_at-block-requires : goal.block_at-block-requires
block_at-block-requires c =
    let a = c.self.inside in
    omega (arith, c.requires.within, ap length c.self.view_is, starts_count a.blocks.items a.starts.items a.len c.self.invariant, ap length c.deref.ensures.value)

pub index-requires : goal.index-requires
index-requires c =
    let a = c.self.inside in
    omega (arith, c.requires.within, ap length c.self.view_is, starts_count a.blocks.items a.starts.items a.len c.self.invariant, a.starts.ok.0, c.block_at-block.ensures.within)

pub overflow_sub-result : goal.overflow_sub-result
overflow_sub-result c =
    let a = c.self.inside in
    let b = c.block_at-block.result in
    let lt : c.args.last < length a.blocks.items = omega (arith, c.requires.within, ap length c.self.view_is) in
    let within : c.args.place ≤ start_of (c.args.last + 1) a.blocks.items = rw c.self.view_is c.requires.place in
    let facts = c.block_at-block.ensures in
    let told = spot_told a.blocks.items a.starts.items a.len c.self.invariant c.args.last c.args.place b c.index.result.now lt within facts.within (λ some. subst (λ (l : List ℕ). get_or l b 0 ≤ c.args.place) c.deref.ensures.value (facts.from some)) (λ less. subst (λ (l : List ℕ). c.args.place < get_or l (b + 1) 0) c.deref.ensures.value (facts.before less)) c.index.ensures in
    told.1

pub returns-clause-place : goal.returns-clause-place
returns-clause-place c =
    let a = c.self.inside in
    let b = c.block_at-block.result in
    let lt : c.args.last < length a.blocks.items = omega (arith, c.requires.within, ap length c.self.view_is) in
    let within : c.args.place ≤ start_of (c.args.last + 1) a.blocks.items = rw c.self.view_is c.requires.place in
    let facts = c.block_at-block.ensures in
    let told = spot_told a.blocks.items a.starts.items a.len c.self.invariant c.args.last c.args.place b c.index.result.now lt within facts.within (λ some. subst (λ (l : List ℕ). get_or l b 0 ≤ c.args.place) c.deref.ensures.value (facts.from some)) (λ less. subst (λ (l : List ℕ). c.args.place < get_or l (b + 1) 0) c.deref.ensures.value (facts.before less)) c.index.ensures in
    rw (← c.self.view_is) (omega (arith, told.0, told.1))

pub returns-clause-within : goal.returns-clause-within
returns-clause-within c =
    let a = c.self.inside in
    let b = c.block_at-block.result in
    let lt : c.args.last < length a.blocks.items = omega (arith, c.requires.within, ap length c.self.view_is) in
    let within : c.args.place ≤ start_of (c.args.last + 1) a.blocks.items = rw c.self.view_is c.requires.place in
    let facts = c.block_at-block.ensures in
    let told = spot_told a.blocks.items a.starts.items a.len c.self.invariant c.args.last c.args.place b c.index.result.now lt within facts.within (λ some. subst (λ (l : List ℕ). get_or l b 0 ≤ c.args.place) c.deref.ensures.value (facts.from some)) (λ less. subst (λ (l : List ℕ). c.args.place < get_or l (b + 1) 0) c.deref.ensures.value (facts.before less)) c.index.ensures in
    rw (← c.self.view_is) told.2

pub returns-clause-at_entry : goal.returns-clause-at_entry
returns-clause-at_entry c =
    let a = c.self.inside in
    let b = c.block_at-block.result in
    let lt : c.args.last < length a.blocks.items = omega (arith, c.requires.within, ap length c.self.view_is) in
    let within : c.args.place ≤ start_of (c.args.last + 1) a.blocks.items = rw c.self.view_is c.requires.place in
    let facts = c.block_at-block.ensures in
    let told = spot_told a.blocks.items a.starts.items a.len c.self.invariant c.args.last c.args.place b c.index.result.now lt within facts.within (λ some. subst (λ (l : List ℕ). get_or l b 0 ≤ c.args.place) c.deref.ensures.value (facts.from some)) (λ less. subst (λ (l : List ℕ). c.args.place < get_or l (b + 1) 0) c.deref.ensures.value (facts.before less)) c.index.ensures in
    rw (← c.self.view_is) told.3
