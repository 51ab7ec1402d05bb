-- How many rows a table may have, and which ids they may have.
use Rattle.std.specs.Prelude.{ℕ, ◌+◌, Bool, ◌&&◌, List, length, nat_lt, nat_le}

-- the most rows of a table
abbrev pub most_rows : ℕ
most_rows = 1000000

-- the greatest id: 2^53 - 1
abbrev pub last_id : ℕ
last_id = 9007199254740991

-- a table with these rows takes one more, which has this id
abbrev pub takes_row : {T : Type 0} → ℕ → List T → Bool
takes_row id rows = nat_lt (length rows) most_rows && nat_le id last_id

-- a table with these rows takes so many more, whose ids count on from this one
abbrev pub takes_rows : {T : Type 0} → ℕ → ℕ → List T → Bool
takes_rows count id rows = nat_le (length rows + count) most_rows && nat_le (id + count) (last_id + 1)
