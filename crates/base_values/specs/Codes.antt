-- The codes of orders: an order's number in base 28.
use Rattle.std.specs.Prelude.{ℕ, ◌+◌, ◌*◌, ◌/◌, ◌%◌, ◌^◌, ◌==◌, List, [], ◌∷◌, Option, Some, None, Result, Ok, Err, if◌then◌else◌, slice_index, codes}
use Rattle.std.specs.List.{position}
use Rattle.base_values.specs.declared.refusal.ValueRefusal.{ValueRefusal}
use Rattle.base_values.specs.declared.refusal.ValueRefusal.TheVariants.{NotCode}

-- the greatest number of an order, the greatest of five places
abbrev pub last_order : ℕ
last_order = 17210367

-- the digits of base 28, from 0 up: no I, O, 0, 1, 2, 4, 5 and 6
abbrev pub alphabet : List ℕ
alphabet = codes "ABCDEFGHJKLMNPQRSTUVWXYZ3789"

-- the last place of a number
unfoldable pub letter : ℕ → ℕ
letter n = slice_index alphabet (n % 28)

-- the code of an order's number: its five places, the greatest first
unfoldable pub order_code : ℕ → List ℕ
order_code n = letter (n / 28 ^ 4) ∷ letter (n / 28 ^ 3) ∷ letter (n / 28 ^ 2) ∷ letter (n / 28) ∷ letter n ∷ []

-- what a letter is worth
unfoldable pub worth : ℕ → Option ℕ
worth b = position (λ l. l == b) alphabet

-- a number with one more place behind it
abbrev pub with_place : Option ℕ → Option ℕ → Option ℕ
with_place (Some n) (Some d) = Some (n * 28 + d)
with_place (Some n) None = None
with_place None d = None

-- the number that five letters write
unfoldable pub five_letters : ℕ → ℕ → ℕ → ℕ → ℕ → Option ℕ
five_letters a b c d e = with_place (with_place (with_place (with_place (worth a) (worth b)) (worth c)) (worth d)) (worth e)

-- any other text writes none
unfoldable pub five_places : List ℕ → Option ℕ
five_places (a ∷ b ∷ c ∷ d ∷ e ∷ []) = five_letters a b c d e
five_places _ = None

-- no order has the number 0
abbrev pub of_an_order : Option ℕ → Result ℕ ValueRefusal
of_an_order None = Err NotCode
of_an_order (Some n) = if n == 0 then Err NotCode else Ok n

-- the number of the order with this code
unfoldable pub number_of_code : List ℕ → Result ℕ ValueRefusal
number_of_code text = of_an_order (five_places text)
