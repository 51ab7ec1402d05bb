-- Changes that drop no voucher that is redeemed; a voucher that is put where there was none is a new one.
use Rattle.std.specs.Prelude.{Bool, true, ◌==◌}
use Rattle.model_rows.specs.declared.changes.Change.{Change}
use Rattle.model_rows.specs.declared.changes.Change.TheVariants.{DropVoucher}
use Rattle.model_rows.specs.Lists.{Lists}
use Rattle.model_rows.specs.Usage.{redeemed}

-- the change drops no voucher that is redeemed by these rows
abbrev pub spares_used : Lists → Change → Bool
spares_used lists (DropVoucher id) = redeemed id lists == 0
spares_used lists _ = true
