-- Numbers, amounts, moments and lists as JSON.
use Rattle.std.specs.Prelude.{ℕ, ℤ, List, map, Option, Some, None}
use Rattle.serde_json.specs.Data.{Data, number, unsigned, string, null, array}
use Rattle.serde_json.specs.Find.{of_integer}
use Rattle.serde_json.specs.View.{items_of}
use Rattle.base_values.specs.Money.{cents_text}
use Rattle.base_dates.specs.Civil.{moment_text}

-- an id or any other whole number without a sign
abbrev pub count : ℕ → Data
count n = number (unsigned n)

-- a whole number with a sign
abbrev pub integer : ℤ → Data
integer n = number (of_integer n)

-- a whole number without a sign, or null where there is none
abbrev pub count_or_null : Option ℕ → Data
count_or_null None = null
count_or_null (Some n) = count n

-- an amount of cents is written as a text, as `"23.00"`
abbrev pub money : ℕ → Data
money cents = string (cents_text cents)

-- an amount as a text, or null where there is none
abbrev pub money_or_null : Option ℕ → Data
money_or_null None = null
money_or_null (Some cents) = money cents

-- a moment is written as a text, as `"2026-05-01T10:00:00Z"`
abbrev pub moment : ℕ → Data
moment seconds = string (moment_text seconds)

-- a moment as a text, or null where there is none
abbrev pub moment_or_null : Option ℕ → Data
moment_or_null None = null
moment_or_null (Some seconds) = moment seconds

-- a text, or null
abbrev pub text_or_null : Option (List ℕ) → Data
text_or_null None = null
text_or_null (Some text) = string text

-- values one after another, in their order
abbrev pub list : List Data → Data
list values = array (items_of values)

-- whole numbers without a sign one after another, in their order
abbrev pub counts : List ℕ → Data
counts numbers = list (map count numbers)
