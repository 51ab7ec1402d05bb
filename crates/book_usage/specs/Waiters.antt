-- The entries that wait without voucher.
use Rattle.std.specs.Prelude.{ℕ, List, map}
use Rattle.model_rows.specs.Lists.{Lists}
use Rattle.model_rows.specs.Waits.{waiters}

-- their ids, in order
abbrev pub waiter_ids : Lists → List ℕ
waiter_ids lists = map (λ e. e.id) (waiters lists)
