-- Every order of what two lists say, each in its own order.
use Rattle.std.specs.Prelude.{◌≡◌, ◌⊎◌, List, [], ◌∷◌, ◌++◌, All, Contains, map}
use Rattle.web_connections.specs.declared.turns.Next.{Next}

-- Each thing of an order is the next one of either list, and all of both come.
abbrev pub IsMerge : List Next → List Next → List Next → Type 0
IsMerge one other [] = (one ≡ []) × (other ≡ [])
IsMerge one other (next ∷ order) =
    ((rest : List Next) × (one ≡ next ∷ rest) × IsMerge rest other order) ⊎ ((rest : List Next) × (other ≡ next ∷ rest) × IsMerge one rest order)

-- the orders are those of two lists, each of which is one
pub record AreMerges (one other : List Next) (orders : List (List Next)) : Type 0 where
  pub only : All (IsMerge one other) orders
  pub every : (order : List Next) → IsMerge one other order → Contains orders order

-- ---- one after another

-- an order behind what was first
abbrev pub behind : List Next → List Next → List Next
behind first order = first ++ order

-- the orders of a list that begins so with another one, where what is left of it has these with any other
abbrev pub merges_with : Next → List Next → (List Next → List (List Next)) → List Next → List (List Next)
merges_with x xs rest [] = (x ∷ xs) ∷ []
merges_with x xs rest (y ∷ ys) = map (behind (x ∷ [])) (rest (y ∷ ys)) ++ map (behind (y ∷ [])) (merges_with x xs rest ys)

-- every order of two lists: what is next is the first of the one or of the other
abbrev pub merges_of : List Next → List Next → List (List Next)
merges_of [] other = other ∷ []
merges_of (x ∷ xs) other = merges_with x xs (merges_of xs) other

-- the orders of two lists were added, each behind what was first
abbrev pub AddsMerges : List Next → List Next → List Next → List (List Next) → List (List Next) → Type 0
AddsMerges first one other old new = new ≡ old ++ map (behind first) (merges_of one other)
