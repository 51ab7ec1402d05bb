-- The shop of `feed`: what it is at first, and where it is served.
use Rattle.std.specs.Prelude.{◌≡◌, ◌⊎◌, ℕ, List, [], Result, Err}
use Rattle.model_rows.specs.Lists.{empty}
use Rattle.model_answers.specs.ShopView.{ShopView}
use Rattle.web_handler.specs.Deliveries.{Delivery, Opening}
use Rattle.web_handler.specs.Fed.{Ports, devices}
use Rattle.web_connection.specs.declared.failure.Failure.{Failure}
use Rattle.web_connection.specs.declared.failure.Failure.TheVariants as failures
use Rattle.web_connection.specs.Run.{Devices, RunLeads, with_handler}
use Rattle.web_handler.specs.Streams.{Serves, ServesAndKeeps, ServesList}
use Rattle.web_cli.specs.FeedTicks.{feed_ticks}
use Rattle.app_run.specs.Fresh.{IsFresh, feed_house}
use Rattle.app_run.specs.Stored.{MemoryHandler, in_memory}

-- no rows and no answers
abbrev pub fresh_shop : ShopView
fresh_shop = record { state = empty; kept = [] }

-- the opening from which a list of arrivals begins: no rows and no answers
abbrev pub fresh_opening : Opening
fresh_opening = record { state = empty; kept = [] }

-- a run between these ports, with so many ticks of `feed`, leads from the fresh shop to this one
abbrev pub LeadsShop : ℕ → ℕ → ℕ → Ports → Ports → ShopView → Result (Unit {0}) Failure → Type 0
LeadsShop from step count old new shop result = RunLeads (ServesAndKeeps feed_house) (devices old [] fresh_shop) (devices new (feed_ticks from step count) shop) result

-- such a run leads from no arrivals to these
abbrev pub LeadsList : ℕ → ℕ → ℕ → Ports → Ports → List Delivery → Result (Unit {0}) Failure → Type 0
LeadsList from step count old new arrivals result = RunLeads (ServesList feed_house fresh_opening) (devices old [] []) (devices new (feed_ticks from step count) arrivals) result

-- of a run that makes its handler itself, none is seen before or after
abbrev pub no_handler : Unit {0}
no_handler = tt

-- What a run of the devices leads to from a fresh shop in SQLite's memory. Or there was no memory for that shop: then nothing is
-- read, told or written.
abbrev pub ServesFresh : {D : Type 0} → Devices D → Devices D → Result (Unit {0}) Failure → Type 0
ServesFresh old new result =
    ((first : MemoryHandler) × (last : MemoryHandler) × IsFresh in_memory first × RunLeads (Serves in_memory) (with_handler old first) (with_handler new last) result)
    ⊎ ((result ≡ Err failures.Memory) × (new ≡ old))
