-- Vouchers by their codes, and what names a voucher.
use Rattle.std.specs.Prelude.{◌≡◌, ℕ, Bool, false, ◌||◌, List, [], ◌∷◌, Option, find}
use Rattle.std.specs.List.{list_any, AllByRecursion}
use Rattle.base_values.specs.Texts.{same_text}
use Rattle.model_rows.specs.declared.rows.Voucher.{Voucher}
use Rattle.model_rows.specs.Conditions.{names}
use Rattle.model_rows.specs.Lists.{Lists}

-- the first voucher with that code
abbrev pub voucher_of : List ℕ → Lists → Option Voucher
voucher_of code lists = find (λ v. same_text v.code code) lists.vouchers

-- no two vouchers have one code
abbrev pub AreUnlike : List Voucher → Type 0
AreUnlike [] = Unit {0}
AreUnlike (v ∷ vs) = AllByRecursion (λ w. same_text v.code w.code ≡ false) vs × AreUnlike vs

-- an order position names the voucher, whatever status its order has
abbrev pub is_ordered : ℕ → Lists → Bool
is_ordered id lists = list_any (λ p. names id p.voucher) lists.positions

-- a cart position names the voucher, live or dead
abbrev pub is_in_cart : ℕ → Lists → Bool
is_in_cart id lists = list_any (λ c. names id c.voucher) lists.carts

-- a waiting entry names the voucher: it was sent to it
abbrev pub is_sent : ℕ → Lists → Bool
is_sent id lists = list_any (λ w. names id w.voucher) lists.waiting

-- a voucher is in use once an order position of any status, a cart position, dead ones too, or a waiting entry names it
abbrev pub is_used : ℕ → Lists → Bool
is_used id lists = is_ordered id lists || (is_in_cart id lists || is_sent id lists)
