-- What takes places again that exits set free.
use Rattle.std.specs.Prelude.{ℕ, Bool, false, ◌&&◌}
use Rattle.std.specs.List.{list_any}
use Rattle.model_catalogue.specs.declared.rows.Quota.{Quota}
use Rattle.model_rows.specs.declared.rows.Order.{Order}
use Rattle.model_rows.specs.declared.rows.OrderPos.{OrderPos}
use Rattle.model_rows.specs.declared.rows.Status.{Status}
use Rattle.model_rows.specs.declared.rows.Status.TheVariants.{Pending, Paid, Expired, Cancelled}
use Rattle.model_rows.specs.Lists.{Lists, positions_of}
use Rattle.model_rows.specs.Usage.{is_covered_by, is_released}

-- the position has gone out of a quota that releases its place, of which its voucher, which is live, would block a place again
abbrev pub blocks_again : Lists → ℕ → Quota → OrderPos → Bool
blocks_again lists at quota position = is_released lists quota position && is_covered_by lists at quota position.voucher

-- a payment that is taken back, and a paid order that ends while a voucher of one who has gone out blocks
abbrev pub refills_by : Status → Status → Bool → Bool → Bool
refills_by Paid Pending releases again = releases
refills_by Paid Expired releases again = again
refills_by Paid Cancelled releases again = again
refills_by old status releases again = false

-- an order that gets this status takes places of the quota again
abbrev pub refills : Lists → ℕ → Quota → Order → Status → Bool
refills lists at quota old status = refills_by old.status status quota.release_after_exit (list_any (blocks_again lists at quota) (positions_of old.id lists))
