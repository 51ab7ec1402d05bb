-- What is known of ids and changes up to a place.
use Rattle.std.proofs.Common.{ℕ, ◌+◌, Option, Some, None}

-- what follows on an id is above it
abbrev pub above : Option ℕ → ℕ
above None = 0
above (Some id) = id + 1
