-- What a handler is to the streams that it answers, passed on.
pub use Rattle.web_arrivals.specs.HandlerView.{HandlerView, Meaning, meaning, trait_meaning, House, IsOf, handler_with, words_of}
pub use Rattle.web_arrivals.specs.Served.{Serves}
pub use Rattle.web_arrivals.specs.Streams.{ServesAndKeeps, ServesList, ServesRunning}
