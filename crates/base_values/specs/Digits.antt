-- Texts of digits, and the numbers that they write.
use Rattle.std.specs.Prelude.{ℕ, Bool, ◌&&◌, List, length, Option, Some, None, if◌then◌else◌, nat_lt, nat_le}
use Rattle.std.specs.List.{list_all}
use Rattle.std.specs.Char.{is_ascii_digit}
use Rattle.std.specs.Str.Parse.{digits_value}

-- all bytes are ASCII digits; the empty text passes too
abbrev pub is_digits : List ℕ → Bool
is_digits text = list_all is_ascii_digit text

-- 1 to 18 digits
abbrev pub is_number : List ℕ → Bool
is_number text = nat_lt 0 (length text) && (nat_le (length text) 18 && is_digits text)

-- the number that the text writes
abbrev pub number_of : List ℕ → Option ℕ
number_of text = if is_number text then Some (digits_value 10 text) else None
