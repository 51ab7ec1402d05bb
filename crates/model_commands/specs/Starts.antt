-- What an order starts as: pending or paid.
use Rattle.model_rows.specs.declared.rows.Status.{Status}
use Rattle.model_rows.specs.declared.rows.Status.TheVariants.{Pending, Paid}
use Rattle.model_commands.specs.declared.orders.Start.{Start}
use Rattle.model_commands.specs.declared.orders.Start.TheVariants as starts

-- the status of an order that starts so
abbrev pub status_of : Start → Status
status_of starts.Pending = Pending
status_of starts.Paid = Paid
