-- A list in blocks, in order: how many numbers are before each, how a full one is split into two halves, how many numbers the spare ones take.
use Rattle.std.specs.Prelude.{◌≡◌, ℕ, ◌+◌, ◌-◌, ◌*◌, ◌<◌, ◌≤◌, List, [], ◌∷◌, length, take, drop, slice_index_or, slice_set}
use Rattle.std.specs.List.{concat, insert}
use Rattle.base_tables.specs.Tables.{most_listed}

-- the block at a place, and no numbers where there is none
abbrev pub nth_block : List (List ℕ) → ℕ → List ℕ
nth_block blocks place = slice_index_or blocks place []

-- how many numbers stand before each block, where so many stand before the first
abbrev pub starts_from : ℕ → List (List ℕ) → List ℕ
starts_from n [] = []
starts_from n (b ∷ bs) = n ∷ starts_from (n + length b) bs

-- how many stand before the block at a place
abbrev pub start_of : ℕ → List (List ℕ) → ℕ
start_of block blocks = length (concat (take block blocks))

-- by how many numbers the blocks are more than half full, each by itself
abbrev pub excess : List (List ℕ) → ℕ
excess [] = 0
excess (b ∷ bs) = (length b - 256) + excess bs

-- the blocks, where the one at a place has its first 256 numbers and one behind it has the others
abbrev pub split_at : ℕ → List (List ℕ) → List (List ℕ)
split_at place blocks = insert (slice_set blocks place (take 256 (nth_block blocks place))) (place + 1) (drop 256 (nth_block blocks place))

-- what is kept beside the blocks is right
pub record IsChain (blocks : List (List ℕ)) (starts : List ℕ) (len : ℕ) : Type 0 where
  -- how many numbers stand before each block
  pub starts_are : starts ≡ starts_from 0 blocks
  -- how many there are in all
  pub counted : len ≡ length (concat blocks)
  -- there are no more than a table takes
  pub most : len ≤ most_listed

-- blocks of which all up to the last are in use, and the others are spare, with so many numbers that can come
pub record AreBlocks (blocks : List (List ℕ)) (last room : ℕ) : Type 0 where
  -- the last block in use is one of them, where there are some
  pub within : last ≤ length blocks - 1
  -- each block in use has numbers, but the first may have none
  pub filled : (b : ℕ) → 0 < b → b ≤ last → 0 < length (nth_block blocks b)
  -- the spare blocks have none
  pub spare : (b : ℕ) → last < b → nth_block blocks b ≡ []
  -- a spare block is room for half of its places, and what is more than half of a block took as much of that
  pub room_is : room + excess blocks ≡ 256 * (length blocks - 1 - last)
  -- there are no places for more than a table takes
  pub few : 512 * length blocks ≤ most_listed
