-- The ids of carts.
use Rattle.std.specs.Prelude.{ℕ, Bool, List, ◌++◌, Option, Some, None, Result, Ok, nat_eq, codes}
use Rattle.std.specs.List.{ends_with}
use Rattle.std.specs.Fmt.{decimal}
use Rattle.hex.specs.Hex.{encode_lower}
use Rattle.base_values.specs.Deciding.{check}
use Rattle.base_values.specs.declared.draw.Draw.{Draw}
use Rattle.model_commands.specs.declared.orders.OrderRefusal.{OrderRefusal}
use Rattle.model_commands.specs.declared.orders.OrderRefusal.TheVariants.{BadCart}

-- a cart id ends in `@api`
abbrev pub is_cart_id : List ℕ → Bool
is_cart_id text = ends_with nat_eq text (codes "@api")

-- an id that is given has to be a cart's; where none is given one is made
abbrev pub cart_id_test : Option (List ℕ) → Result (Unit {0}) OrderRefusal
cart_id_test None = Ok tt
cart_id_test (Some given) = check (is_cart_id given) BadCart

-- the draw as 32 lower case hex digits, `z`, the position's id and `@api`
unfoldable pub made_cart_id : Draw → ℕ → List ℕ
made_cart_id draw id = encode_lower draw.bytes ++ codes "z" ++ decimal id ++ codes "@api"

-- the one that is given, or else one that is made
abbrev pub cart_id_of : Option (List ℕ) → Draw → ℕ → List ℕ
cart_id_of (Some given) draw id = given
cart_id_of None draw id = made_cart_id draw id
