-- The form of the codes that the shop makes.
use Rattle.std.specs.Prelude.{ℕ, Bool, false, ◌&&◌, ◌||◌, ◌==◌, nat_le, nat_lt, List, [], ◌∷◌, length, take, drop}
use Rattle.std.specs.List.{list_all}
use Rattle.base_values.specs.Digits.{is_digits}

-- 0 to 9, or a to f
abbrev pub is_lower_hex : ℕ → Bool
is_lower_hex b = (nat_le 48 b && nat_le b 57) || (nat_le 97 b && nat_le b 102)

-- `z` and one or more digits
abbrev pub ends_as_made : List ℕ → Bool
ends_as_made [] = false
ends_as_made (b ∷ digits) = b == 122 && (nat_lt 0 (length digits) && is_digits digits)

-- 32 lower case hex digits, `z` and one or more digits
abbrev pub goes_on_as_made : List ℕ → Bool
goes_on_as_made text = nat_le 32 (length text) && (list_all is_lower_hex (take 32 text) && ends_as_made (drop 32 text))

-- `W`, 32 lower case hex digits, `z` and one or more digits: the form of the codes that the shop makes
abbrev pub is_reserved : List ℕ → Bool
is_reserved [] = false
is_reserved (b ∷ rest) = b == 87 && goes_on_as_made rest
