-- How many changes an overlay takes, and how many rows it counts at most.
use Rattle.std.specs.Prelude.{ℕ}

-- the most changes that aren't applied yet: 2^32
abbrev pub most_changes : ℕ
most_changes = 4294967296

-- the most rows of one list, as many in the book and as many that changes put: 2^33
abbrev pub most_with_changes : ℕ
most_with_changes = 8589934592
