-- The limits of counts.
use Rattle.std.specs.Prelude.{ℕ, ◌+◌, ◌≤◌, ℤ, pos, negsuc}

-- how often a voucher may be used at most
abbrev pub most_uses : ℕ
most_uses = 1000000

-- a voucher may be used 1 to 1,000,000 times
abbrev pub IsUses : ℕ → Type 0
IsUses n = (1 ≤ n) × (n ≤ most_uses)

-- how many places a quota may have at most
abbrev pub most_places : ℕ
most_places = 1000000

-- a quota has 0 to 1,000,000 places
abbrev pub IsSize : ℕ → Type 0
IsSize n = n ≤ most_places

-- the greatest priority; the least is as far below 0
abbrev pub most_priority : ℕ
most_priority = 1000000

-- a priority is -1,000,000 to 1,000,000
abbrev pub IsPriority : ℤ → Type 0
IsPriority (pos n) = n ≤ most_priority
IsPriority (negsuc n) = n + 1 ≤ most_priority
