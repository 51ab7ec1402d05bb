-- How the statuses of orders are written.
use Rattle.std.specs.Prelude.{ℕ, List, codes}
use Rattle.model_rows.specs.declared.rows.Status.{Status}
use Rattle.model_rows.specs.declared.rows.Status.TheVariants.{Pending, Paid, Expired, Cancelled}

-- the letter of an order's status
abbrev pub status_letter : Status → List ℕ
status_letter Pending = codes "n"
status_letter Paid = codes "p"
status_letter Expired = codes "e"
status_letter Cancelled = codes "c"
