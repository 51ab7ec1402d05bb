-- Orders and their positions.
use Rattle.std.specs.Prelude.{◌≡◌, ℕ, suc, ◌+◌, ◌<◌, ◌≤◌, ◌==◌, true, is_some, List, [], ◌∷◌, length, filter, nat_le, if◌then◌else◌}
use Rattle.std.specs.List.{AllByRecursion}
use Rattle.base_tables.specs.Tables.{row_at}
use Rattle.model_rows.specs.declared.rows.Order.{Order}
use Rattle.model_rows.specs.declared.rows.OrderPos.{OrderPos}
use Rattle.model_invariant.specs.Secrets.{AllHaveOwnSecrets}

-- an order has so many positions at most
abbrev pub most_positions : ℕ
most_positions = 500

-- a position among others by their numbers in their order, before those whose numbers aren't below its own
abbrev pub position_placed : OrderPos → List OrderPos → List OrderPos
position_placed p [] = p ∷ []
position_placed p (q ∷ qs) = if nat_le p.positionid q.positionid then p ∷ q ∷ qs else q ∷ position_placed p qs

-- how many stand before that number: all before the first that isn't below it
abbrev pub place_in : ℕ → List OrderPos → ℕ
place_in number [] = 0
place_in number (q ∷ qs) = if nat_le number q.positionid then 0 else suc (place_in number qs)

-- positions by their numbers in their order
abbrev pub by_positionid : List OrderPos → List OrderPos
by_positionid [] = []
by_positionid (p ∷ ps) = position_placed p (by_positionid ps)

-- the positions' numbers in their order count on from n
abbrev pub CountFrom : ℕ → List OrderPos → Type 0
CountFrom n [] = Unit {0}
CountFrom n (p ∷ ps) = (p.positionid ≡ n) × CountFrom (n + 1) ps

-- 1 to 500 positions, numbered from 1 to their count, in whatever order of their ids
pub record AreWhole (positions : List OrderPos) : Type 0 where
  pub some : 0 < length positions
  pub few : length positions ≤ most_positions
  pub counted : CountFrom 1 (by_positionid positions)

-- the positions of an order among these, by id
abbrev pub of_order : ℕ → List OrderPos → List OrderPos
of_order order positions = filter (λ p. order == p.order) positions

-- each order has 1 to 500 positions, numbered from 1 to their count
abbrev pub AllHavePositions : List Order → List OrderPos → Type 0
AllHavePositions orders positions = AllByRecursion (λ o. AreWhole (of_order o.id positions)) orders

-- what holds of each position by itself
pub record AreOfOrders (orders : List Order) (positions : List OrderPos) : Type 0 where
  -- its order stands
  pub stand : AllByRecursion (λ p. is_some (row_at (λ o. o.id) p.order orders) ≡ true) positions
  -- its secret ends in its order's number and its own there
  pub secrets : AllHaveOwnSecrets positions
