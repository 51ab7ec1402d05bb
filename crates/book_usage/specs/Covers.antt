-- When two vouchers cover the same cart positions: both block places or neither does, until the same moment, and they name the same quota, item and
-- variation.
use mathlib.Core.Bool.{beq}
use Rattle.std.specs.Prelude.{Bool, ◌&&◌}
use Rattle.model_rows.specs.declared.rows.Voucher.{Voucher}
use Rattle.model_rows.specs.Conditions.{same_id}

-- both block places, or neither does, until the same moment, and they name the same quota, item and variation
abbrev pub cover_alike : Voucher → Voucher → Bool
cover_alike a b = beq a.block_quota b.block_quota && same_id a.valid_until b.valid_until && same_id a.quota b.quota && same_id a.item b.item && same_id a.variation b.variation
