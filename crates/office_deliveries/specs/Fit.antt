-- What the type of an arrival promises of it.
use Rattle.std.specs.Prelude.{◌≡◌, false}
use Rattle.base_values.specs.Draws.{IsDraw}
use Rattle.model_commands.specs.Fit.{IsFit}
use Rattle.office_deliveries.specs.declared.arrival.Arrival.{Arrival}
use Rattle.office_deliveries.specs.declared.arrival.Request.{Request}
use Rattle.office_deliveries.specs.declared.arrival.Request.TheVariants.{Write, WriteRefused, Read, ReadRefused}
use Rattle.office_deliveries.specs.Deliveries.{Delivery}

-- what a command asks is within its limits
abbrev pub IsFitRequest : Request → Type 0
IsFitRequest (Write command) = IsFit command
IsFitRequest (WriteRefused response) = Unit {0}
IsFitRequest (Read query) = Unit {0}
IsFitRequest (ReadRefused response) = Unit {0}

-- what it asks is within its limits, and its draw is sixteen bytes
pub record IsFitArrival (a : Arrival) : Type 0 where
  pub request : IsFitRequest a.request
  pub draw : IsDraw a.draw

-- of an arrival that was answered 503 nothing is promised: it may not have been read
abbrev pub IsFitDelivery : Delivery → Type 0
IsFitDelivery d = d.unavailable ≡ false → IsFitArrival d.arrival
