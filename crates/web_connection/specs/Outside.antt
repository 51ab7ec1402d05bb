-- What a run over a whole stream leaves of its reader, its clock and its writer.
use Rattle.std.specs.Prelude.{ℕ, ◌+◌, ◌≤◌, List, Option, Result}
use Rattle.base_values.specs.declared.answer.Answer.{Answer}
use Rattle.base_devices.specs.declared.device.Tick.{Tick}
use Rattle.base_devices.specs.declared.device.Source as source
use Rattle.base_devices.specs.declared.device.Ticks as clock
use Rattle.base_devices.specs.declared.device.Drain as drain
use Rattle.web_http.specs.Messages.{Message}
use Rattle.web_connection.specs.declared.failure.Failure.{Failure}
use Rattle.web_connection.specs.Run.{Counts, CountedAll, Devices, RunLeads, device_counts, most_reads}

-- The reader, the clock and the writer of a run: the bytes that are still to come, the ticks that were told and what was written, where
-- they are known; and what the three have counted.
pub record Outside : Type 0 where
  pub left : Option (List ℕ)
  pub reported : Option (List Tick)
  pub taken : Option (List ℕ)
  pub counts : Counts

-- this reader, this clock and this writer
abbrev pub outside : {R T W : Type 0} → source.Ghosts R → clock.Ghosts T → drain.Ghosts W → R → T → W → Outside
outside r t w reader ticks writer =
    record { left = r.left reader; reported = t.reported ticks; taken = w.taken writer; counts = device_counts r t w reader ticks writer }

-- the devices of reader, clock and writer, with a handler among them
abbrev pub devices_of : {D : Type 0} → D → Outside → Devices D
devices_of handler now = record { left = now.left; calls = now.counts.calls; reported = now.reported; handler = handler; taken = now.taken }

-- A run over a stream, from one handler to another: what was read, told and written is of one run over the bytes that came; how it ended is
-- what a device has counted; and the reader was called so often at most.
pub record RunsOver {D : Type 0} (Serves : D → Tick → Message → Answer → D → Type 0) (first last : D) (old new : Outside) (result : Result (Unit {0}) Failure) : Type 0 where
  pub leads : RunLeads Serves (devices_of first old) (devices_of last new) result
  pub counted : CountedAll result old.counts new.counts
  pub calls : new.counts.calls ≤ old.counts.calls + most_reads

-- A run over a stream, from a handler that is there for this stream alone: what was read, told and written is of a single run over the bytes
-- that came; how it ended is what a device has counted; and the reader was called so often at most.
pub record RunsFrom {D : Type 0} (Serves : D → Tick → Message → Answer → D → Type 0) (first : D) (old new : Outside) (result : Result (Unit {0}) Failure) : Type 0 where
  pub leads : (last : D) × RunLeads Serves (devices_of first old) (devices_of last new) result
  pub counted : CountedAll result old.counts new.counts
  pub calls : new.counts.calls ≤ old.counts.calls + most_reads
