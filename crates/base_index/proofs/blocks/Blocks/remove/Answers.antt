use Rattle.std.proofs.Common.{◌≡◌, ℕ, ◌+◌, ◌-◌, ◌<◌, ◌≤◌, List, [], length, get_or, refl, sym, ap, ◌∙◌, subst, arith, Bool, true, false, ◌⊎◌, inl, inr}
use Rattle.std.proofs.lemmas.Bool.{cases_lt}
use Rattle.std.specs.List.{remove, concat}
use Rattle.std.proofs.lemmas.List.Edits.{length-remove}
use Rattle.base_index.specs.Blocks.{AreBlocks}
use Rattle.base_index.proofs.BlockLemmas.{remove_in}
use Rattle.base_index.proofs.RoomLemmas.{some_block, ends_there, blocks_set, blocks_drop, drop_rows}
use Rattle.base_index.proofs.blocks.Blocks.remove.Goals as goal

-- what a test that failed rules out
no_longer : (b : Bool) → b ≡ false → b ≡ true → ⊥
no_longer b is was = cc

more_left : (n m : ℕ) → m + 1 ≡ n → (n ≡ 1 → ⊥) → 0 < m
more_left n m fewer other = by_count (cases_lt 0 m)
  where
    by_count : (0 < m) ⊎ (m ≤ 0) → 0 < m
    by_count (inl some) = some
    by_count (inr none) = absurd (other (omega arith))

pub spot_of-spot-requires-clause-place : goal.spot_of-spot-requires-clause-place
spot_of-spot-requires-clause-place c =
    let a = c.self.inside in
    let rows : length c.args.self.now.rows ≡ length (concat a.chain) = rw (← c.self.view_is) refl in
    omega (arith, rows, c.requires, ends_there a.chain a.last a.room c.self.invariant)

pub invariant_of-self : goal.invariant_of-self
invariant_of-self c =
    let a = c.self.inside in
    let spot = c.spot_of-spot.result in
    let rows : length c.args.self.now.rows ≡ length (concat a.chain) = rw (← c.self.view_is) refl in
    let some = some_block a.chain (omega (arith, rows, c.requires)) in
    let lt : spot.block < length a.chain = omega (arith, c.spot_of-spot.ensures.block, c.self.invariant.within) in
    let within : spot.offset < length (get_or a.chain spot.block []) = c.spot_of-spot.ensures.at_entry (omega (arith, rows, c.requires, ends_there a.chain a.last a.room c.self.invariant)) in
    let yes = c.is_emptied.ensures.0 c.if-is_emptied.true in
    let single : length (get_or a.chain spot.block []) ≡ 1 = sym c.filled-filled.ensures.count ∙ yes.1 in
    subst (λ (l : List (List ℕ)). AreBlocks l (a.last - 1) (a.room + 256)) (sym c.drop_block.ensures) (blocks_drop a.chain a.last a.room c.self.invariant spot.block yes.0 c.spot_of-spot.ensures.block lt single)

pub returns-then-is_emptied-clause-rows : goal.returns-then-is_emptied-clause-rows
returns-then-is_emptied-clause-rows c =
    let a = c.self.inside in
    let spot = c.spot_of-spot.result in
    let rows : length c.args.self.now.rows ≡ length (concat a.chain) = rw (← c.self.view_is) refl in
    let some = some_block a.chain (omega (arith, rows, c.requires)) in
    let lt : spot.block < length a.chain = omega (arith, c.spot_of-spot.ensures.block, c.self.invariant.within) in
    let within : spot.offset < length (get_or a.chain spot.block []) = c.spot_of-spot.ensures.at_entry (omega (arith, rows, c.requires, ends_there a.chain a.last a.room c.self.invariant)) in
    let yes = c.is_emptied.ensures.0 c.if-is_emptied.true in
    let single : length (get_or a.chain spot.block []) ≡ 1 = sym c.filled-filled.ensures.count ∙ yes.1 in
    rw (← c.self.view_is) (ap concat c.drop_block.ensures ∙ drop_rows a.chain a.last a.room c.self.invariant spot.block spot.offset c.args.place lt single c.spot_of-spot.ensures.place within)

pub remove-requires-clause-within : goal.remove-requires-clause-within
remove-requires-clause-within c =
    let a = c.self.inside in
    let spot = c.spot_of-spot.result in
    let rows : length c.args.self.now.rows ≡ length (concat a.chain) = rw (← c.self.view_is) refl in
    let some = some_block a.chain (omega (arith, rows, c.requires)) in
    let lt : spot.block < length a.chain = omega (arith, c.spot_of-spot.ensures.block, c.self.invariant.within) in
    let within : spot.offset < length (get_or a.chain spot.block []) = c.spot_of-spot.ensures.at_entry (omega (arith, rows, c.requires, ends_there a.chain a.last a.room c.self.invariant)) in
    within

pub overflow_sub-filled : goal.overflow_sub-filled
overflow_sub-filled c =
    let a = c.self.inside in
    let spot = c.spot_of-spot.result in
    let rows : length c.args.self.now.rows ≡ length (concat a.chain) = rw (← c.self.view_is) refl in
    let some = some_block a.chain (omega (arith, rows, c.requires)) in
    let lt : spot.block < length a.chain = omega (arith, c.spot_of-spot.ensures.block, c.self.invariant.within) in
    let within : spot.offset < length (get_or a.chain spot.block []) = c.spot_of-spot.ensures.at_entry (omega (arith, rows, c.requires, ends_there a.chain a.last a.room c.self.invariant)) in
    omega (arith, c.filled-filled.ensures.count, within)

pub invariant_of-self-2 : goal.invariant_of-self-2
invariant_of-self-2 c =
    let a = c.self.inside in
    let spot = c.spot_of-spot.result in
    let rows : length c.args.self.now.rows ≡ length (concat a.chain) = rw (← c.self.view_is) refl in
    let some = some_block a.chain (omega (arith, rows, c.requires)) in
    let lt : spot.block < length a.chain = omega (arith, c.spot_of-spot.ensures.block, c.self.invariant.within) in
    let within : spot.offset < length (get_or a.chain spot.block []) = c.spot_of-spot.ensures.at_entry (omega (arith, rows, c.requires, ends_there a.chain a.last a.room c.self.invariant)) in
    let fewer = length-remove (get_or a.chain spot.block []) spot.offset within in
    let new = remove (get_or a.chain spot.block []) spot.offset in
    let left : 0 < spot.block → 0 < length (remove (get_or a.chain spot.block []) spot.offset) = λ pos. more_left (length (get_or a.chain spot.block [])) (length (remove (get_or a.chain spot.block []) spot.offset)) fewer (λ is. no_longer c.is_emptied.result c.if-is_emptied.false (c.is_emptied.ensures.1 (pos, c.filled-filled.ensures.count ∙ is))) in
    subst (λ (l : List (List ℕ)). AreBlocks l a.last (a.room + (c.over.result - c.over-2.result))) (sym c.remove.ensures) (blocks_set a.chain a.last a.room c.self.invariant spot.block (a.room + (c.over.result - c.over-2.result)) new lt c.spot_of-spot.ensures.block left (omega (arith, fewer, c.over.ensures, c.over-2.ensures, c.filled-filled.ensures.count)))

pub returns-clause-rows : goal.returns-clause-rows
returns-clause-rows c =
    let a = c.self.inside in
    let spot = c.spot_of-spot.result in
    let rows : length c.args.self.now.rows ≡ length (concat a.chain) = rw (← c.self.view_is) refl in
    let some = some_block a.chain (omega (arith, rows, c.requires)) in
    let lt : spot.block < length a.chain = omega (arith, c.spot_of-spot.ensures.block, c.self.invariant.within) in
    let within : spot.offset < length (get_or a.chain spot.block []) = c.spot_of-spot.ensures.at_entry (omega (arith, rows, c.requires, ends_there a.chain a.last a.room c.self.invariant)) in
    rw (← c.self.view_is) (ap concat c.remove.ensures ∙ remove_in a.chain spot.block spot.offset c.args.place lt c.spot_of-spot.ensures.place within)
