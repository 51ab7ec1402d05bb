-- A price within what is left: no more is taken off, and it is no more than the base price or the price without a limit.
use Rattle.std.proofs.Common.{◌≡◌, ℕ, ◌-◌, ◌≤◌, Bool, true, false, Option, Some, None, refl, arith}
use Rattle.std.specs.Prelude.{nat_le, min, max, if◌then◌else◌}
use Rattle.std.proofs.lemmas.Bool.Decides.{nat_tests}
use Rattle.base_values.specs.Price.{price, price_within, within_left}
use Rattle.base_values.specs.declared.price_mode.PriceMode.{PriceMode}

pub within_left_is : (left base price : ℕ) → within_left (Some left) base price ≡ max price (base - left)
within_left_is left base price = by_test (nat_le base price) refl
  where
    by_test : (b : Bool) → nat_le base price ≡ b → (if b then price else base - min (base - price) left) ≡ max price (base - left)
    by_test true e =
        let le : base ≤ price = grind (arith, nat_tests, e) in
        omega (arith, le)
    by_test false e =
        let le : price ≤ base = grind (arith, nat_tests, e) in
        omega (arith, le)

-- no more is taken off than is left
pub takes_off : (mode : PriceMode) (value : Option ℕ) (base left : ℕ) → base - price_within mode value base (Some left) ≤ left
takes_off mode value base left = omega (arith, within_left_is left base (price mode value base))

-- it is the price without a limit, or no more than the base price
pub at_most : (mode : PriceMode) (value : Option ℕ) (base : ℕ) (left : Option ℕ) → price_within mode value base left ≤ max base (price mode value base)
at_most mode value base None = omega arith
at_most mode value base (Some left) = omega (arith, within_left_is left base (price mode value base))
