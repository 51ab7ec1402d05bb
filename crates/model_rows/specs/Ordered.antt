-- Order positions and their orders: each one's order exists.
use Rattle.std.specs.Prelude.{◌≡◌, true, is_some}
use Rattle.std.specs.List.{AllByRecursion}
use Rattle.model_rows.specs.Lists.{Lists, order_at}

-- each order position's order stands
abbrev pub AllOrdered : Lists → Type 0
AllOrdered lists = AllByRecursion (λ p. is_some (order_at p.order lists) ≡ true) lists.positions
