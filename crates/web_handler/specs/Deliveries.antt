-- Arrivals and what they lead to, passed on.
pub use Rattle.web_arrivals.specs.Deliveries.{Delivery, IsRunning, Opening, Running, StandsFor, Views}
