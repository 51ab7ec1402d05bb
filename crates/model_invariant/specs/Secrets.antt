-- The secrets of order positions, each of which tells its order and its place there.
use Rattle.std.specs.Prelude.{◌≡◌, ℕ, Bool, true, List, ◌++◌, nat_eq, codes}
use Rattle.std.specs.List.{AllByRecursion, ends_with}
use Rattle.std.specs.Fmt.{decimal}
use Rattle.model_rows.specs.declared.rows.OrderPos.{OrderPos}

-- `z`, the order's number, `z` and the position's number in its order, in decimals
abbrev pub secret_ending : ℕ → ℕ → List ℕ
secret_ending order position = codes "z" ++ (decimal order ++ (codes "z" ++ decimal position))

-- a secret ends in its position's order and number
abbrev pub has_own_secret : OrderPos → Bool
has_own_secret p = ends_with nat_eq p.secret (secret_ending p.order p.positionid)

-- the secret of each position ends in its order and number
abbrev pub AllHaveOwnSecrets : List OrderPos → Type 0
AllHaveOwnSecrets positions = AllByRecursion (λ p. has_own_secret p ≡ true) positions
