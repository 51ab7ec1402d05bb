-- How many rows a book may keep, and what they can count at most.
use Rattle.std.specs.Prelude.{ℕ}
pub use Rattle.base_tables.specs.Tables.{most_listed}

-- the most order positions, cart positions and waiting entries together
abbrev pub most_naming : ℕ
most_naming = 12884901888

-- the most uses of a voucher that its type has: 2^32 - 1
abbrev pub last_use : ℕ
last_use = 4294967295

-- the most cents that the positions of one list can be cheaper by, together
abbrev pub most_spent : ℕ
most_spent = 42949672955705032704
