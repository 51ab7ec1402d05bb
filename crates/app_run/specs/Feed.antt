-- What `feed` does.
use Rattle.std.specs.Prelude.{◌≡◌, ◌⊎◌, ℕ, Result, Ok, Err}
use Rattle.web_connection.specs.declared.failure.Failure.{Failure}
use Rattle.web_connection.specs.declared.failure.Failure.TheVariants as failures
use Rattle.base_devices.specs.declared.device.Source as source
use Rattle.base_devices.specs.declared.device.Drain as drain
use Rattle.web_handler.specs.Fed.{FeedsHandler, Ports, ports_at}
use Rattle.app_run.specs.Fresh.{IsFresh}
use Rattle.app_run.specs.Stored.{MemoryHandler, in_memory}
use Rattle.web_cli.specs.declared.argument.Argument.{Argument}
use Rattle.web_cli.specs.declared.fault.RunFault.{RunFault}
use Rattle.web_cli.specs.declared.fault.RunFault.TheVariants as faults
use Rattle.web_cli.specs.Faults.{as_fault}

-- what is said of a call by where its reader and its writer stand before it, where they stand after it, and its result
abbrev pub OnPorts : {R W E : Type 0} → source.Ghosts R → drain.Ghosts W → (Ports → Ports → E → Type 0) → R → W → R → W → E → Type 0
OnPorts r w Comes reader writer reader_after writer_after result = Comes (ports_at r w reader writer) (ports_at r w reader_after writer_after) result

-- what a run of `feed` does from a fresh shop whose tables are in SQLite's memory; or there was no memory for that shop, and then nothing
-- is read and nothing written
abbrev pub Feeds : ℕ → ℕ → Ports → Ports → Result (Unit {0}) Failure → Type 0
Feeds from step old new result =
    ((first : MemoryHandler) × IsFresh in_memory first × FeedsHandler in_memory first from step old new result)
    ⊎ ((result ≡ Err failures.Memory) × (new ≡ old))

-- a value that can't be read is found before anything is read or written, and is named
abbrev pub FeedsTexts : Result (ℕ × ℕ) Argument → Ports → Ports → Result (Unit {0}) RunFault → Type 0
FeedsTexts (Err argument) old new result = (result ≡ Err (faults.Argument argument)) × (new ≡ old)
FeedsTexts (Ok (from, step)) old new result = (run : Result (Unit {0}) Failure) × Feeds from step old new run × (result ≡ as_fault run)
