-- The positions of one order: how many pass a test; a count where the order has such a status, else 0.
use Rattle.std.specs.Prelude.{ℕ, Bool, ◌&&◌, ◌==◌, Option, count_by, if◌then◌else◌}
use Rattle.model_rows.specs.declared.rows.Order.{Order}
use Rattle.model_rows.specs.declared.rows.OrderPos.{OrderPos}
use Rattle.model_rows.specs.declared.rows.Status.{Status}
use Rattle.model_rows.specs.Lists.{Lists}
use Rattle.model_rows.specs.Usage.{stands_as}

-- how many positions of the order pass
abbrev pub count_ordered : ℕ → (OrderPos → Bool) → Lists → ℕ
count_ordered id passes lists = count_by (λ p. id == p.order && passes p) lists.positions

-- as many, where the order has such a status
abbrev pub if_stands : (Status → Bool) → Option Order → ℕ → ℕ
if_stands test order count = if stands_as test order then count else 0
