use Rattle.std.proofs.Common.{◌≡◌, ℕ, ◌<◌, [], length, get_or, refl, sym, ap, ◌∙◌, arith}
use Rattle.std.specs.List.{concat}
use Rattle.base_index.proofs.BlockLemmas.{item_at}
use Rattle.base_index.proofs.RoomLemmas.{some_block, ends_there}
use Rattle.base_index.proofs.blocks.Blocks.at.Goals as goal

pub spot_of-spot-requires-clause-place : goal.spot_of-spot-requires-clause-place
spot_of-spot-requires-clause-place c =
    let a = c.self.inside in
    let rows : length c.args.self.now.rows ≡ length (concat a.chain) = rw (← c.self.view_is) refl in
    omega (arith, rows, c.requires, ends_there a.chain a.last a.room c.self.invariant)

pub at-requires-clause-within : goal.at-requires-clause-within
at-requires-clause-within c =
    let a = c.self.inside in
    let spot = c.spot_of-spot.result in
    let rows : length c.args.self.now.rows ≡ length (concat a.chain) = rw (← c.self.view_is) refl in
    let some = some_block a.chain (omega (arith, rows, c.requires)) in
    let lt : spot.block < length a.chain = omega (arith, c.spot_of-spot.ensures.block, c.self.invariant.within) in
    let within : spot.offset < length (get_or a.chain spot.block []) = c.spot_of-spot.ensures.at_entry (omega (arith, rows, c.requires, ends_there a.chain a.last a.room c.self.invariant)) in
    within

pub returns : goal.returns
returns c =
    λ d.
    let a = c.self.inside in
    let spot = c.spot_of-spot.result in
    let rows : length c.args.self.now.rows ≡ length (concat a.chain) = rw (← c.self.view_is) refl in
    let some = some_block a.chain (omega (arith, rows, c.requires)) in
    let lt : spot.block < length a.chain = omega (arith, c.spot_of-spot.ensures.block, c.self.invariant.within) in
    let within : spot.offset < length (get_or a.chain spot.block []) = c.spot_of-spot.ensures.at_entry (omega (arith, rows, c.requires, ends_there a.chain a.last a.room c.self.invariant)) in
    rw (← c.self.view_is) (ap (λ (i : ℕ). get_or (concat a.chain) i d) (sym c.spot_of-spot.ensures.place) ∙ item_at a.chain spot.block spot.offset d lt within ∙ c.at.ensures d)
