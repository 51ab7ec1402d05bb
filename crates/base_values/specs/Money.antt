-- Amounts of money in cents, and their texts.
use Rattle.std.specs.Prelude.{ℕ, ◌≤◌, ◌+◌, ◌*◌, ◌/◌, ◌%◌, ◌==◌, List, ◌∷◌, ◌++◌, length, take, drop, position, Option, Some, None, Result, Ok, Err, if◌then◌else◌, nat_lt, not}
use Rattle.std.specs.Fmt.{decimal}
use Rattle.base_values.specs.Digits.{is_digits, number_of}
use Rattle.base_values.specs.declared.refusal.ValueRefusal.{ValueRefusal}
use Rattle.base_values.specs.declared.refusal.ValueRefusal.TheVariants.{NotMoney, TooLarge}

-- 99,999,999.99
abbrev pub last_cents : ℕ
last_cents = 9999999999

-- an amount of money
abbrev pub IsMoney : ℕ → Type 0
IsMoney cents = cents ≤ last_cents

-- cents by how many digits are behind the point: a single digit is tens of cents, two are cents
abbrev pub decimals_by : ℕ → ℕ → Option ℕ
decimals_by places n = if places == 1 then Some (n * 10) else (if places == 2 then Some n else None)

-- the cents that a number of so many digits behind the point makes, if there is one
abbrev pub decimals_at : ℕ → Option ℕ → Option ℕ
decimals_at places None = None
decimals_at places (Some n) = decimals_by places n

-- the cents that the text behind the point writes, if it is one digit or two
abbrev pub decimals_of : List ℕ → Option ℕ
decimals_of text = decimals_at (length text) (number_of text)

-- the amount of so many whole units and of these cents; none where the units are no number
abbrev pub units_by : ℕ → Option ℕ → Result ℕ ValueRefusal
units_by decimals None = Err NotMoney
units_by decimals (Some n) = Ok (n * 100 + decimals)

-- digits, of which eight may stand before the point
abbrev pub money_by : List ℕ → Option ℕ → Result ℕ ValueRefusal
money_by units None = Err NotMoney
money_by units (Some decimals) =
    if not (is_digits units) then Err NotMoney
    else (if nat_lt 8 (length units) then Err TooLarge else units_by decimals (number_of units))

-- the amount of a text, whose first point is at this place; without a point it has no cents
abbrev pub money_at : List ℕ → Option ℕ → Result ℕ ValueRefusal
money_at text None = money_by text (Some 0)
money_at text (Some at) = money_by (take at text) (decimals_of (drop (at + 1) text))

-- the amount that a text writes: digits, and perhaps a point with one or two digits behind it
abbrev pub money_of : List ℕ → Result ℕ ValueRefusal
money_of text = money_at text (position (λ b. b == 46) text)

-- at least one digit, a point and two digits
abbrev pub cents_text : ℕ → List ℕ
cents_text cents = decimal (cents / 100) ++ 46 ∷ (decimal (cents / 10 % 10) ++ decimal (cents % 10))
