-- That a number between the bounds of a priority is one.
use Rattle.std.proofs.Common.{ℤ, pos, negsuc, ◌≤ℤ◌, ◌≤◌, arith}
use Rattle.std.proofs.lemmas.Int.{ints}
use Rattle.base_values.specs.Counts.{IsPriority}

pub is_priority : (p : ℤ) → negsuc 999999 ≤ℤ p → p ≤ℤ pos 1000000 → IsPriority p
is_priority (pos n) low high = omega (arith, ints, high)
is_priority (negsuc n) low high = omega (arith, ints, low)
