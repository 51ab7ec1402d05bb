-- Shares of an amount, in hundredths of a percent.
use Rattle.std.specs.Prelude.{ℕ, ◌+◌, ◌-◌, ◌*◌, ◌/◌, nat_le, Option, Some, None, if◌then◌else◌}

-- a hundred percent
abbrev pub whole : ℕ
whole = 10000

-- hundredths of a percent, which are no more than the whole
abbrev pub percent_of : ℕ → Option ℕ
percent_of hundredths = if nat_le hundredths whole then Some hundredths else None

-- what is left of an amount after they are taken off; half a cent is rounded up
abbrev pub left_of : ℕ → ℕ → ℕ
left_of hundredths amount = (amount * (whole - hundredths) + 5000) / whole
