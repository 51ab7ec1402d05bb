-- Statuses of HTTP: numbers of three digits.
use Rattle.std.specs.Prelude.{ℕ, ◌≤◌, ◌<◌}

-- a number of three digits
abbrev pub IsStatusCode : ℕ → Type 0
IsStatusCode n = (100 ≤ n) × (n < 1000)
