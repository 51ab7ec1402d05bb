-- The secrets of order positions.
use Rattle.std.specs.Prelude.{ℕ, List, ◌++◌, codes}
use Rattle.std.specs.Fmt.{decimal}
use Rattle.hex.specs.Hex.{encode_lower}
use Rattle.base_values.specs.declared.draw.Draw.{Draw}

-- the draw as 32 lower case hex digits, `z`, the order's number, `z` and the position's number in its order
unfoldable pub secret : Draw → ℕ → ℕ → List ℕ
secret draw order position = encode_lower draw.bytes ++ codes "z" ++ decimal order ++ codes "z" ++ decimal position
