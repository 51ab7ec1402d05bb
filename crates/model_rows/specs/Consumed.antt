-- The cart positions that an order of some carts takes.
use Rattle.std.specs.Prelude.{ℕ, Bool, List, filter, map}
use Rattle.std.specs.List.{list_any}
use Rattle.base_values.specs.Texts.{same_text}
use Rattle.model_rows.specs.declared.rows.CartPos.{CartPos}
use Rattle.model_rows.specs.Lists.{Lists}

-- the cart position is in a cart of these
abbrev pub is_consumed : List (List ℕ) → CartPos → Bool
is_consumed carts position = list_any (λ cart. same_text position.cart_id cart) carts

-- their ids, dead ones too
abbrev pub carts_consumed : List (List ℕ) → Lists → List ℕ
carts_consumed carts lists = map (λ c. c.id) (filter (is_consumed carts) lists.carts)
