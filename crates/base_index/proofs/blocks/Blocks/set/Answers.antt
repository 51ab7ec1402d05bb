use Rattle.std.proofs.Common.{◌≡◌, ℕ, ◌+◌, ◌-◌, ◌<◌, List, [], length, get_or, set, refl, sym, ap, ◌∙◌, subst, arith}
use Rattle.std.specs.List.{concat}
use Rattle.std.proofs.lemmas.List.{length-set}
use Rattle.base_index.specs.Blocks.{AreBlocks}
use Rattle.base_index.proofs.BlockLemmas.{set_in}
use Rattle.base_index.proofs.RoomLemmas.{some_block, ends_there, blocks_set}
use Rattle.base_index.proofs.blocks.Blocks.set.Goals as goal

pub spot_of-spot-requires-clause-place : goal.spot_of-spot-requires-clause-place
spot_of-spot-requires-clause-place c =
    let a = c.self.inside in
    let rows : length c.args.self.now.rows ≡ length (concat a.chain) = rw (← c.self.view_is) refl in
    omega (arith, rows, c.requires, ends_there a.chain a.last a.room c.self.invariant)

pub set-requires-clause-within : goal.set-requires-clause-within
set-requires-clause-within c =
    let a = c.self.inside in
    let spot = c.spot_of-spot.result in
    let rows : length c.args.self.now.rows ≡ length (concat a.chain) = rw (← c.self.view_is) refl in
    let some = some_block a.chain (omega (arith, rows, c.requires)) in
    let lt : spot.block < length a.chain = omega (arith, c.spot_of-spot.ensures.block, c.self.invariant.within) in
    let within : spot.offset < length (get_or a.chain spot.block []) = c.spot_of-spot.ensures.at_entry (omega (arith, rows, c.requires, ends_there a.chain a.last a.room c.self.invariant)) in
    within

pub invariant_of-self : goal.invariant_of-self
invariant_of-self c =
    let a = c.self.inside in
    let spot = c.spot_of-spot.result in
    let rows : length c.args.self.now.rows ≡ length (concat a.chain) = rw (← c.self.view_is) refl in
    let some = some_block a.chain (omega (arith, rows, c.requires)) in
    let lt : spot.block < length a.chain = omega (arith, c.spot_of-spot.ensures.block, c.self.invariant.within) in
    let within : spot.offset < length (get_or a.chain spot.block []) = c.spot_of-spot.ensures.at_entry (omega (arith, rows, c.requires, ends_there a.chain a.last a.room c.self.invariant)) in
    let new = set (get_or a.chain spot.block []) spot.offset c.args.entry in
    let count : length new ≡ length (get_or a.chain spot.block []) = length-set (get_or a.chain spot.block []) spot.offset c.args.entry in
    subst (λ (l : List (List ℕ)). AreBlocks l a.last a.room) (sym c.set.ensures) (blocks_set a.chain a.last a.room c.self.invariant spot.block a.room new lt c.spot_of-spot.ensures.block (λ pos. omega (arith, count, within)) (ap (λ (n : ℕ). a.room + (n - 256)) count))

pub returns-clause-rows : goal.returns-clause-rows
returns-clause-rows c =
    let a = c.self.inside in
    let spot = c.spot_of-spot.result in
    let rows : length c.args.self.now.rows ≡ length (concat a.chain) = rw (← c.self.view_is) refl in
    let some = some_block a.chain (omega (arith, rows, c.requires)) in
    let lt : spot.block < length a.chain = omega (arith, c.spot_of-spot.ensures.block, c.self.invariant.within) in
    let within : spot.offset < length (get_or a.chain spot.block []) = c.spot_of-spot.ensures.at_entry (omega (arith, rows, c.requires, ends_there a.chain a.last a.room c.self.invariant)) in
    rw (← c.self.view_is) (ap concat c.set.ensures ∙ set_in a.chain spot.block spot.offset c.args.place c.args.entry lt c.spot_of-spot.ensures.place within)
