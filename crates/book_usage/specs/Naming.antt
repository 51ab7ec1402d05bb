-- Which rows name a voucher, and how many.
use Rattle.std.specs.Prelude.{ℕ, ◌+◌, Bool, List, map, count_by}
use Rattle.model_rows.specs.declared.rows.CartPos.{CartPos}
use Rattle.model_rows.specs.declared.rows.OrderPos.{OrderPos}
use Rattle.model_rows.specs.declared.rows.Waiting.{Waiting}
use Rattle.model_rows.specs.Conditions.{names}
use Rattle.model_rows.specs.Lists.{Lists}
use Rattle.model_rows.specs.Asked.{carts_naming}

-- an order position names the voucher of this id
abbrev pub position_names : ℕ → OrderPos → Bool
position_names id position = names id position.voucher

-- a cart position names it
abbrev pub cart_names : ℕ → CartPos → Bool
cart_names id cart = names id cart.voucher

-- a waiting entry names it: the voucher was sent to it
abbrev pub entry_names : ℕ → Waiting → Bool
entry_names id entry = names id entry.voucher

-- its order positions, its cart positions, dead ones too, and its waiting entries
abbrev pub naming : ℕ → Lists → ℕ
naming id lists = count_by (position_names id) lists.positions + count_by (cart_names id) lists.carts + count_by (entry_names id) lists.waiting

-- the ids of its cart positions, dead ones too, in order
abbrev pub cart_ids_naming : ℕ → Lists → List ℕ
cart_ids_naming id lists = map (λ c. c.id) (carts_naming id lists)
