-- The number of each refusal.
use Rattle.std.specs.Prelude.{ℕ}
use Rattle.base_values.specs.declared.refusal.ValueRefusal.{ValueRefusal}
use Rattle.base_values.specs.declared.refusal.ValueRefusal.TheVariants.{NotMoney, TooLarge, NotMoment, OutOfRange, NotCode, Memory}

-- 1 to 5 say what is wrong with a value, and 6 is want of memory
abbrev pub number_of_refusal : ValueRefusal → ℕ
number_of_refusal NotMoney = 1
number_of_refusal TooLarge = 2
number_of_refusal NotMoment = 3
number_of_refusal OutOfRange = 4
number_of_refusal NotCode = 5
number_of_refusal Memory = 6
