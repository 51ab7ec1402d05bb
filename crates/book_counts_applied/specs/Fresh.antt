-- Usages that are counted afresh, row by row.
use Rattle.std.specs.Prelude.{◌≡◌, ℕ, List, [], ◌∷◌, length, Vec, Some, None}
use Rattle.model_catalogue.specs.declared.rows.Quota.{Quota}
use Rattle.model_rows.specs.declared.rows.CartPos.{CartPos}
use Rattle.model_rows.specs.declared.rows.OrderPos.{OrderPos}
use Rattle.model_rows.specs.declared.rows.Usage.{Usage}
use Rattle.model_rows.specs.declared.rows.Voucher.{Voucher}
use Rattle.model_rows.specs.declared.rows.Waiting.{Waiting}
use Rattle.model_rows.specs.Lists.{Lists}
use Rattle.model_rows.specs.Usage.{redeemed}
use Rattle.book_counts_over_time.specs.UsageUpdates.{AreShifted, block_shift, cart_shift, waiting_shift}
use Rattle.book_counts_over_time.specs.Redemptions.{position_shift}

-- a usage, once these rows came one after another
abbrev pub after_each : {R : Type 0} → (R → Quota → Usage → Usage) → List R → Quota → Usage → Usage
after_each come [] quota usage = usage
after_each come (row ∷ rows) quota usage = after_each come rows quota (come row quota usage)

-- a usage, once this order position came
abbrev pub position_comes : Lists → OrderPos → Quota → Usage → Usage
position_comes lists row = position_shift lists (Some row) None

-- a usage at a moment, once this cart position came
abbrev pub cart_comes : Lists → ℕ → CartPos → Quota → Usage → Usage
cart_comes lists at row = cart_shift lists at (Some row) None

-- a usage, once this waiting entry came
abbrev pub entry_comes : Waiting → Quota → Usage → Usage
entry_comes row = waiting_shift (Some row) None

-- a usage at a moment, once this voucher came, which is redeemed as often as the lists have it
abbrev pub voucher_comes : Lists → ℕ → Voucher → Quota → Usage → Usage
voucher_comes lists at row = block_shift at (redeemed row.id lists) (Some row) None

-- the usage of each quota of the lists is shifted so, and there are as many as before
pub record AllShifted {Z : Type 0} (shift : Quota → Usage → Usage) (lists : Lists) (old new : Vec Usage Z) : Type 0 where
  pub items : AreShifted shift lists.catalogue.quotas old new
  pub same : length new.items ≡ length old.items
