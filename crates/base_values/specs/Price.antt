-- What a product costs with a voucher.
use Rattle.std.specs.Prelude.{ℕ, ◌-◌, min, nat_le, Option, Some, None, if◌then◌else◌}
use Rattle.base_values.specs.Percent.{left_of}
use Rattle.base_values.specs.declared.price_mode.PriceMode.{PriceMode}
use Rattle.base_values.specs.declared.price_mode.PriceMode.TheVariants as modes

-- the value is cents, and in the mode percent hundredths of a percent, of which more than the whole take all
abbrev pub price_with : PriceMode → ℕ → ℕ → ℕ
price_with modes.None value base = base
price_with modes.Set value base = value
price_with modes.Subtract value base = base - value
price_with modes.Percent value base = left_of value base

-- the price by the mode, where there is a value, else the base price
abbrev pub price : PriceMode → Option ℕ → ℕ → ℕ
price mode None base = base
price mode (Some value) base = price_with mode value base

-- the price, but no more is taken off the base price than is left, where there is a limit
abbrev pub within_left : Option ℕ → ℕ → ℕ → ℕ
within_left None base price = price
within_left (Some left) base price = if nat_le base price then price else base - min (base - price) left

-- the price by the mode, of a voucher of whose budget so much is left; none where it has no budget
abbrev pub price_within : PriceMode → Option ℕ → ℕ → Option ℕ → ℕ
price_within mode value base left = within_left left base (price mode value base)
