-- A connection over memory, whose reads give and whose writes take as many bytes as a list says.
use Rattle.std.specs.Prelude.{ℕ, zero, suc, List, [], ◌∷◌, min}
use Rattle.web_sockets.specs.declared.ends.Came.{Came}
use Rattle.web_sockets.specs.declared.ends.Came.TheVariants as cames

-- how many bytes the next call has at most: what the list says next, and behind its end any number
abbrev pub limit_of : List ℕ → ℕ
limit_of [] = 18446744073709551615
limit_of (n ∷ ns) = n

-- what the list says of the calls after that
abbrev pub rest_of : List ℕ → List ℕ
rest_of [] = []
rest_of (n ∷ ns) = ns

-- what a read gives that has room for so many bytes, where so many are left
abbrev pub came_in : ℕ → ℕ → Came
came_in zero left = cames.Later
came_in (suc room) zero = cames.End
came_in (suc room) (suc left) = cames.Bytes (min (suc room) (suc left))

-- what a read gives that may give at most this much, into a buffer of that size, where so many bytes are left
abbrev pub came_of : ℕ → ℕ → ℕ → Came
came_of most size left = came_in (min most size) left
