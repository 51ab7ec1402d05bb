-- The codes that the shop makes.
use Rattle.std.specs.Prelude.{ℕ, List, ◌++◌, codes}
use Rattle.std.specs.Fmt.{decimal}
use Rattle.hex.specs.Hex.{encode_lower}
use Rattle.base_values.specs.declared.draw.Draw.{Draw}

-- `W`, the draw as 32 lower case hex digits, `z` and the voucher's id
unfoldable pub made_code : Draw → ℕ → List ℕ
made_code draw id = codes "W" ++ encode_lower draw.bytes ++ codes "z" ++ decimal id
