-- Draws: sixteen random bytes, one draw for each request.
use Rattle.std.specs.Prelude.{◌≡◌, length}
use Rattle.hex.specs.Hex.{IsBytes}
use Rattle.base_values.specs.declared.draw.Draw.{Draw}

-- a draw is sixteen bytes
pub record IsDraw (draw : Draw) : Type 0 where
  pub sixteen : length draw.bytes ≡ 16
  pub bytes : IsBytes draw.bytes
