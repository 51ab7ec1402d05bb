-- Numbers that rise.
use Rattle.std.specs.Prelude.{ℕ, ◌+◌, ◌≤◌, ◌<◌, List, [], ◌∷◌}

-- each is at least n and below the next one, and all are below m
abbrev pub RiseTo : ℕ → ℕ → List ℕ → Type 0
RiseTo n m [] = n ≤ m
RiseTo n m (x ∷ xs) = (n ≤ x) × RiseTo (x + 1) m xs

-- they rise, and a number of 64 bits follows on the last one
abbrev pub Rise : List ℕ → Type 0
Rise xs = (m : ℕ) × (m < 18446744073709551616) × RiseTo 0 m xs
