-- What was written of an export.
use Rattle.std.specs.Prelude.{◌≡◌, List, ℕ, ◌++◌, Result, Ok, Err, IfErr}
use Rattle.sqlite_trees.specs.declared.store.Store.{Ghosts}
use Rattle.sqlite.specs.Held.{Held, state}
use Rattle.sqlite.specs.State.{State as Connected, Survives}
use Rattle.base_devices.specs.Reported.{Adds}
use Rattle.web_http.specs.Written.{Page}
use Rattle.web_cli.specs.Saying.{CountsEnd}
use Rattle.web_cli.specs.declared.fault.RunFault.{RunFault}
use Rattle.file_scan.specs.Rests.{Rests}
use Rattle.app_csv.specs.PositionLines.{positions_text}
use Rattle.app_export.specs.Faults.{IsOfMachine}
use Rattle.app_export.specs.Handed.{OfFitTables, OfOffice}

-- the text is all of it, or beside a fault a beginning
abbrev pub IsWritten : Result (Unit {0}) RunFault → List ℕ → List ℕ → Type 0
IsWritten (Ok u) text all = text ≡ all
IsWritten (Err fault) text all = (rest : List ℕ) × (text ++ rest ≡ all)

-- This text was written of the order positions of a database, which is left as it was, in a crash too. Of a shop whose values are within
-- their limits the fault is none of the file's.
pub record Exports (old new : Connected) (text : List ℕ) (before after : Page) (outcome : Result (Unit {0}) RunFault) : Type 0 where
  pub added : Adds before.taken text after.taken
  pub counted : CountsEnd outcome before.failures after.failures
  pub written : OfOffice old new (λ lists. IsWritten outcome text (positions_text lists))
  pub cause : OfFitTables old new (IfErr outcome IsOfMachine)
  pub rests : Rests old new
  pub crash : Survives old new (λ _. ⊥)

-- some text was written so, by what a connection showed before and after
abbrev pub ExportsText : {S : Type 0} → Ghosts S → Held S → Held S → Page → Page → Result (Unit {0}) RunFault → Type 0
ExportsText g old new before after outcome = (text : List ℕ) × Exports (state g old) (state g new) text before after outcome
