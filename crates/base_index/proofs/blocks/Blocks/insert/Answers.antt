use Rattle.std.proofs.Common.{◌≡◌, ℕ, ◌+◌, ◌-◌, ◌<◌, List, [], length, get_or, set, take, refl, sym, ap, ◌∙◌, subst, arith}
use Rattle.std.specs.List.{insert, concat}
use Rattle.std.proofs.lemmas.List.Edits.{length-insert}
use Rattle.base_index.specs.Blocks.{split_at, AreBlocks}
use Rattle.base_index.proofs.BlockLemmas.{insert_in}
use Rattle.base_index.proofs.RoomLemmas.{ends_there, few_places, spare_is, split_rows, blocks_split, half_told, blocks_set}
use Rattle.base_index.proofs.blocks.Blocks.insert.Goals as goal

pub spot_of-spot-requires-clause-place : goal.spot_of-spot-requires-clause-place
spot_of-spot-requires-clause-place c =
    let a = c.self.inside in
    let rows : length c.args.self.now.rows ≡ length (concat a.chain) = rw (← c.self.view_is) refl in
    omega (arith, rows, c.requires.within, ends_there a.chain a.last a.room c.self.invariant)

pub insert-requires-clause-block : goal.insert-requires-clause-block
insert-requires-clause-block c =
    let a = c.self.inside in
    let spot = c.spot_of-spot.result in
    let rows : length c.args.self.now.rows ≡ length (concat a.chain) = rw (← c.self.view_is) refl in
    let room : c.args.self.now.room ≡ a.room = rw (← c.self.view_is) refl in
    let lt : spot.block < length a.chain = omega (arith, room, c.requires.room, c.spot_of-spot.ensures.block, c.self.invariant.within, c.self.invariant.room_is) in
    let full : length (get_or a.chain spot.block []) ≡ 512 = sym c.filled-filled.ensures.count ∙ c.if-filled-eq-SIZE.true in
    let more = (spare_is a.chain a.last a.room c.self.invariant spot.block lt full).0 in
    let new = split_at spot.block (take (length a.chain - 1) a.chain) in
    let half = half_told a.chain a.last a.room c.self.invariant spot.block c.spot_of-spot.ensures.block more full spot.offset c.args.place c.half_of.result.block c.half_of.result.offset c.spot_of-spot.ensures.place (omega (arith, c.spot_of-spot.ensures.within)) c.half_of.ensures.lower c.half_of.ensures.upper in
    rw c.split.ensures half.1

pub insert-requires-clause-within : goal.insert-requires-clause-within
insert-requires-clause-within c =
    let a = c.self.inside in
    let spot = c.spot_of-spot.result in
    let rows : length c.args.self.now.rows ≡ length (concat a.chain) = rw (← c.self.view_is) refl in
    let room : c.args.self.now.room ≡ a.room = rw (← c.self.view_is) refl in
    let lt : spot.block < length a.chain = omega (arith, room, c.requires.room, c.spot_of-spot.ensures.block, c.self.invariant.within, c.self.invariant.room_is) in
    let full : length (get_or a.chain spot.block []) ≡ 512 = sym c.filled-filled.ensures.count ∙ c.if-filled-eq-SIZE.true in
    let more = (spare_is a.chain a.last a.room c.self.invariant spot.block lt full).0 in
    let new = split_at spot.block (take (length a.chain - 1) a.chain) in
    let half = half_told a.chain a.last a.room c.self.invariant spot.block c.spot_of-spot.ensures.block more full spot.offset c.args.place c.half_of.result.block c.half_of.result.offset c.spot_of-spot.ensures.place (omega (arith, c.spot_of-spot.ensures.within)) c.half_of.ensures.lower c.half_of.ensures.upper in
    rw c.split.ensures (omega (arith, half.3, half.4))

pub insert-requires-clause-fits : goal.insert-requires-clause-fits
insert-requires-clause-fits c =
    let a = c.self.inside in
    let spot = c.spot_of-spot.result in
    let rows : length c.args.self.now.rows ≡ length (concat a.chain) = rw (← c.self.view_is) refl in
    let room : c.args.self.now.room ≡ a.room = rw (← c.self.view_is) refl in
    let lt : spot.block < length a.chain = omega (arith, room, c.requires.room, c.spot_of-spot.ensures.block, c.self.invariant.within, c.self.invariant.room_is) in
    let full : length (get_or a.chain spot.block []) ≡ 512 = sym c.filled-filled.ensures.count ∙ c.if-filled-eq-SIZE.true in
    let more = (spare_is a.chain a.last a.room c.self.invariant spot.block lt full).0 in
    let new = split_at spot.block (take (length a.chain - 1) a.chain) in
    let half = half_told a.chain a.last a.room c.self.invariant spot.block c.spot_of-spot.ensures.block more full spot.offset c.args.place c.half_of.result.block c.half_of.result.offset c.spot_of-spot.ensures.place (omega (arith, c.spot_of-spot.ensures.within)) c.half_of.ensures.lower c.half_of.ensures.upper in
    rw c.split.ensures (omega (arith, half.4))

pub insert-requires-clause-few : goal.insert-requires-clause-few
insert-requires-clause-few c =
    let a = c.self.inside in
    let spot = c.spot_of-spot.result in
    let rows : length c.args.self.now.rows ≡ length (concat a.chain) = rw (← c.self.view_is) refl in
    let room : c.args.self.now.room ≡ a.room = rw (← c.self.view_is) refl in
    let lt : spot.block < length a.chain = omega (arith, room, c.requires.room, c.spot_of-spot.ensures.block, c.self.invariant.within, c.self.invariant.room_is) in
    let full : length (get_or a.chain spot.block []) ≡ 512 = sym c.filled-filled.ensures.count ∙ c.if-filled-eq-SIZE.true in
    let more = (spare_is a.chain a.last a.room c.self.invariant spot.block lt full).0 in
    let new = split_at spot.block (take (length a.chain - 1) a.chain) in
    let half = half_told a.chain a.last a.room c.self.invariant spot.block c.spot_of-spot.ensures.block more full spot.offset c.args.place c.half_of.result.block c.half_of.result.offset c.spot_of-spot.ensures.place (omega (arith, c.spot_of-spot.ensures.within)) c.half_of.ensures.lower c.half_of.ensures.upper in
    omega (arith, ap (λ (l : List (List ℕ)). length (concat l)) c.split.ensures, ap length (split_rows a.chain a.last a.room c.self.invariant spot.block c.spot_of-spot.ensures.block more), few_places a.chain a.last a.room c.self.invariant, room, c.requires.room)

pub invariant_of-self : goal.invariant_of-self
invariant_of-self c =
    let a = c.self.inside in
    let spot = c.spot_of-spot.result in
    let rows : length c.args.self.now.rows ≡ length (concat a.chain) = rw (← c.self.view_is) refl in
    let room : c.args.self.now.room ≡ a.room = rw (← c.self.view_is) refl in
    let lt : spot.block < length a.chain = omega (arith, room, c.requires.room, c.spot_of-spot.ensures.block, c.self.invariant.within, c.self.invariant.room_is) in
    let full : length (get_or a.chain spot.block []) ≡ 512 = sym c.filled-filled.ensures.count ∙ c.if-filled-eq-SIZE.true in
    let more = (spare_is a.chain a.last a.room c.self.invariant spot.block lt full).0 in
    let new = split_at spot.block (take (length a.chain - 1) a.chain) in
    let half = half_told a.chain a.last a.room c.self.invariant spot.block c.spot_of-spot.ensures.block more full spot.offset c.args.place c.half_of.result.block c.half_of.result.offset c.spot_of-spot.ensures.place (omega (arith, c.spot_of-spot.ensures.within)) c.half_of.ensures.lower c.half_of.ensures.upper in
    let block = get_or new c.half_of.result.block [] in
    let count : length (insert block c.half_of.result.offset c.args.entry) ≡ length block + 1 = length-insert block c.half_of.result.offset c.args.entry (omega (arith, half.3, half.4)) in
    let made : c.insert.new.self ≡ set new c.half_of.result.block (insert block c.half_of.result.offset c.args.entry) = c.insert.ensures ∙ ap (λ (l : List (List ℕ)). set l c.half_of.result.block (insert (get_or l c.half_of.result.block []) c.half_of.result.offset c.args.entry)) c.split.ensures in
    subst (λ (l : List (List ℕ)). AreBlocks l (a.last + 1) (a.room - 1)) (sym made)
    (blocks_set new (a.last + 1) a.room (blocks_split a.chain a.last a.room c.self.invariant spot.block c.spot_of-spot.ensures.block more full) c.half_of.result.block (a.room - 1) (insert block c.half_of.result.offset c.args.entry) half.1 half.0 (λ pos. omega (arith, count)) (omega (arith, count, half.4, room, c.requires.room)))

pub returns-then-filled-eq-SIZE-clause-rows : goal.returns-then-filled-eq-SIZE-clause-rows
returns-then-filled-eq-SIZE-clause-rows c =
    let a = c.self.inside in
    let spot = c.spot_of-spot.result in
    let rows : length c.args.self.now.rows ≡ length (concat a.chain) = rw (← c.self.view_is) refl in
    let room : c.args.self.now.room ≡ a.room = rw (← c.self.view_is) refl in
    let lt : spot.block < length a.chain = omega (arith, room, c.requires.room, c.spot_of-spot.ensures.block, c.self.invariant.within, c.self.invariant.room_is) in
    let full : length (get_or a.chain spot.block []) ≡ 512 = sym c.filled-filled.ensures.count ∙ c.if-filled-eq-SIZE.true in
    let more = (spare_is a.chain a.last a.room c.self.invariant spot.block lt full).0 in
    let new = split_at spot.block (take (length a.chain - 1) a.chain) in
    let half = half_told a.chain a.last a.room c.self.invariant spot.block c.spot_of-spot.ensures.block more full spot.offset c.args.place c.half_of.result.block c.half_of.result.offset c.spot_of-spot.ensures.place (omega (arith, c.spot_of-spot.ensures.within)) c.half_of.ensures.lower c.half_of.ensures.upper in
    let made : c.insert.new.self ≡ set new c.half_of.result.block (insert (get_or new c.half_of.result.block []) c.half_of.result.offset c.args.entry) = c.insert.ensures ∙ ap (λ (l : List (List ℕ)). set l c.half_of.result.block (insert (get_or l c.half_of.result.block []) c.half_of.result.offset c.args.entry)) c.split.ensures in
    rw (← c.self.view_is) (ap concat made ∙ insert_in new c.half_of.result.block c.half_of.result.offset c.args.place c.args.entry half.1 half.2 (omega (arith, half.3, half.4)) ∙ ap (λ (l : List ℕ). insert l c.args.place c.args.entry) (split_rows a.chain a.last a.room c.self.invariant spot.block c.spot_of-spot.ensures.block more))

pub insert-requires-2-clause-few : goal.insert-requires-2-clause-few
insert-requires-2-clause-few c =
    let a = c.self.inside in
    let spot = c.spot_of-spot.result in
    let rows : length c.args.self.now.rows ≡ length (concat a.chain) = rw (← c.self.view_is) refl in
    let room : c.args.self.now.room ≡ a.room = rw (← c.self.view_is) refl in
    let lt : spot.block < length a.chain = omega (arith, room, c.requires.room, c.spot_of-spot.ensures.block, c.self.invariant.within, c.self.invariant.room_is) in
    omega (arith, few_places a.chain a.last a.room c.self.invariant, room, c.requires.room)

pub invariant_of-self-2 : goal.invariant_of-self-2
invariant_of-self-2 c =
    let a = c.self.inside in
    let spot = c.spot_of-spot.result in
    let rows : length c.args.self.now.rows ≡ length (concat a.chain) = rw (← c.self.view_is) refl in
    let room : c.args.self.now.room ≡ a.room = rw (← c.self.view_is) refl in
    let lt : spot.block < length a.chain = omega (arith, room, c.requires.room, c.spot_of-spot.ensures.block, c.self.invariant.within, c.self.invariant.room_is) in
    let block = get_or a.chain spot.block [] in
    let count : length (insert block spot.offset c.args.entry) ≡ length block + 1 = length-insert block spot.offset c.args.entry c.spot_of-spot.ensures.within in
    subst (λ (l : List (List ℕ)). AreBlocks l a.last (a.room - (c.over.result - c.over-2.result))) (sym c.insert-2.ensures)
    (blocks_set a.chain a.last a.room c.self.invariant spot.block (a.room - (c.over.result - c.over-2.result)) (insert block spot.offset c.args.entry) lt c.spot_of-spot.ensures.block (λ pos. omega (arith, count)) (omega (arith, count, c.over.ensures, c.over-2.ensures, c.filled-filled.ensures.count, room, c.requires.room)))

pub returns-clause-rows : goal.returns-clause-rows
returns-clause-rows c =
    let a = c.self.inside in
    let spot = c.spot_of-spot.result in
    let rows : length c.args.self.now.rows ≡ length (concat a.chain) = rw (← c.self.view_is) refl in
    let room : c.args.self.now.room ≡ a.room = rw (← c.self.view_is) refl in
    let lt : spot.block < length a.chain = omega (arith, room, c.requires.room, c.spot_of-spot.ensures.block, c.self.invariant.within, c.self.invariant.room_is) in
    rw (← c.self.view_is) (ap concat c.insert-2.ensures ∙ insert_in a.chain spot.block spot.offset c.args.place c.args.entry lt c.spot_of-spot.ensures.place c.spot_of-spot.ensures.within)
