-- A number and its last five places in base 28 have one code.
use Rattle.std.proofs.Common.{◌≡◌, ℕ, ◌%◌, arith}
use Rattle.base_values.specs.Codes.{letter, order_code}

last_place : (n : ℕ) → n % 17210368 % 28 ≡ n % 28
last_place n = omega arith

pub code_of_last_places : (n : ℕ) → order_code (n % 17210368) ≡ order_code n
unfolding order_code letter
code_of_last_places n = grind arith
