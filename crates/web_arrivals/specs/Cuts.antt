-- Whole runs over the same bytes, however these were cut into reads.
use Rattle.std.specs.Prelude.{◌≡◌, ℕ, List, Some, Ok}
use Rattle.base_devices.specs.declared.device.Tick.{Tick}
use Rattle.model_answers.specs.ShopView.{ShopView}
use Rattle.web_connection.specs.Run.{Devices, RunLeads}
use Rattle.web_arrivals.specs.HandlerView.{HandlerView, House, IsOf, Meaning}
use Rattle.web_arrivals.specs.Seen.{HasShop}
use Rattle.web_arrivals.specs.Streams.{Decides}

-- A run of a handler of this house from this shop ends well, and nothing in it is answered 503. These bytes are to come, these ticks
-- were given before, and this was written before.
pub record RunsWhole {T : Type 0} (tables : Meaning T) (house : House) (shop : ShopView) (bytes : List ℕ) (ticks : List Tick) (written : List ℕ) (old new : Devices (HandlerView T)) : Type 0 where
  pub run : RunLeads (Decides tables) old new (Ok tt)
  pub sure : tables.sure new.handler.tables
  pub of : IsOf tables house old.handler
  pub views : HasShop tables old.handler shop
  pub to_come : old.left ≡ Some bytes
  pub ticked : old.reported ≡ Some ticks
  pub wrote : old.taken ≡ Some written
