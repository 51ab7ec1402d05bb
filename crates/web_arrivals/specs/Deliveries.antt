-- Arrivals and what they lead to, passed on.
pub use Rattle.office_deliveries.specs.declared.arrival.Arrival.{Arrival}
pub use Rattle.office_deliveries.specs.Deliveries.{is_write, Opening, Delivery, answer_told}
pub use Rattle.office_deliveries.specs.Histories.{Event, Running, Happens, MayLeave, IsRunning, IsAmong, also_undecided, after_none, after_act}
pub use Rattle.office_deliveries.specs.Shops.{Views, StandsFor, IsAnswered, arrival_delivered}
