-- How many live cart positions name each voucher.
use Rattle.std.specs.Prelude.{◌≡◌, ℕ, List, map, Option, Some, None}
use Rattle.model_rows.specs.declared.rows.CartPos.{CartPos}
use Rattle.model_rows.specs.Headroom.{held}
use Rattle.model_rows.specs.Lists.{Lists, State}

-- the voucher that it names
abbrev pub named_by : Option CartPos → Option ℕ
named_by None = None
named_by (Some cart) = cart.voucher

-- the numbers are those of the lists at the moment
abbrev pub AreHeld : Lists → ℕ → List ℕ → Type 0
AreHeld lists at holds = holds ≡ map (λ v. held at v.id lists) lists.vouchers

-- the numbers are those of the box office at its own moment
abbrev pub AreHeldNow : State → List ℕ → Type 0
AreHeldNow state holds = AreHeld state.lists state.moment holds
