-- The handler that `feed` begins with.
use Rattle.std.specs.Prelude.{◌≡◌, []}
use Rattle.model_rows.specs.Lists.{empty}
use Rattle.web_handler.specs.Streams.{HandlerView, IsOf, Meaning}
pub use Rattle.app_run.specs.Opened.{feed_house}

-- a handler of the house of `feed` that has no rows, over tables that hold none and keep no answer
pub record IsFresh {T : Type 0} (tables : Meaning T) (handler : HandlerView T) : Type 0 where
  pub of : IsOf tables feed_house handler
  pub state : handler.state ≡ empty
  pub held : tables.holds handler.tables empty []
