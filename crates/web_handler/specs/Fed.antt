-- What a handler is fed, and what comes of it.
use Rattle.std.specs.Prelude.{◌≡◌, ℕ, ◌+◌, ◌≤◌, List, [], Option, Some, Result, Err, ⊤}
use Rattle.base_devices.specs.declared.device.Tick.{Tick}
use Rattle.base_devices.specs.declared.device.Source as source
use Rattle.base_devices.specs.declared.device.Drain as drain
use Rattle.web_connection.specs.declared.failure.Failure.{Failure}
use Rattle.web_connection.specs.declared.failure.Failure.TheVariants as failures
use Rattle.web_connection.specs.Run.{Counts, CountedAll, Devices, RunLeads, most_reads}
use Rattle.web_arrivals.specs.HandlerView.{HandlerView, Meaning}
use Rattle.web_arrivals.specs.Served.{Serves}
use Rattle.web_cli.specs.FeedTicks.{feed_ticks}

-- where a reader and a writer stand: the bytes that are still to come and what was written, where they are known; the calls of
-- the reader; and the failures of the reader and of the writer
pub record Ports : Type 0 where
  pub left : Option (List ℕ)
  pub taken : Option (List ℕ)
  pub calls : ℕ
  pub input : ℕ
  pub output : ℕ

-- where this reader and this writer stand
abbrev pub ports_at : {R W : Type 0} → source.Ghosts R → drain.Ghosts W → R → W → Ports
ports_at r w reader writer =
    record { left = r.left reader; taken = w.taken writer; calls = r.calls reader; input = r.failures reader; output = w.failures writer }

-- the devices of a feed: reader and writer with the ticks that were told and the handler of the shop between them
abbrev pub devices : {D : Type 0} → Ports → List Tick → D → Devices D
devices ports reported house = record { left = ports.left; calls = ports.calls; reported = Some reported; handler = house; taken = ports.taken }

-- what they have counted, and how many ticks failed
abbrev pub counts : Ports → ℕ → Counts
counts ports clock = record { clock = clock; output = ports.output; input = ports.input; calls = ports.calls }

-- the ticks end only once all numbers of a `u64` were told
abbrev pub EndsTicks : ℕ → Result (Unit {0}) Failure → Type 0
EndsTicks count (Err failures.Clock) = count ≡ 18446744073709551615
EndsTicks count _ = ⊤

-- What is read, what is written, and how it ends, over any tables: a run from this handler with the first ticks, one for each whole
-- request. It ends with the failure of the reader, the writer or the ticks only where that one failed, and no other one did.
pub record FeedsHandler {T : Type 0} (tables : Meaning T) (first : HandlerView T) (from step : ℕ) (old new : Ports) (result : Result (Unit {0}) Failure) : Type 0 where
  pub count : ℕ
  pub clock : ℕ
  pub house : HandlerView T
  pub leads : RunLeads (Serves tables) (devices old [] first) (devices new (feed_ticks from step count) house) result
  pub ends_ticks : EndsTicks count result
  pub counted : CountedAll result (counts old 0) (counts new clock)
  pub calls : new.calls ≤ old.calls + most_reads
