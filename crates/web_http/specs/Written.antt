-- What a call that writes a text leads to.
use Rattle.std.specs.Prelude.{◌≡◌, ℕ, ◌+◌, List, ◌++◌, Option, Result, Ok, Err}
use Rattle.base_devices.specs.Reported.{Adds}
use Rattle.base_devices.specs.declared.device.Refused.{Refused}
use Rattle.base_devices.specs.declared.device.Drain.{Ghosts}

-- a part of the text was added, perhaps none of it
abbrev pub AddsPart : Option (List ℕ) → List ℕ → Option (List ℕ) → Type 0
AddsPart old text new = (part : List ℕ) × (rest : List ℕ) × (text ≡ part ++ rest) × Adds old part new

-- what a writer has taken, where it tells, and how many of its calls failed
pub record Page : Type 0 where
  pub taken : Option (List ℕ)
  pub failures : ℕ

-- the page that this writer is at
abbrev pub writer_page : {W : Type 0} → Ghosts W → W → Page
writer_page g writer = record { taken = g.taken writer; failures = g.failures writer }

-- the whole text was added and no call failed, or a part of it, and then one call failed
abbrev pub Writes : Result (Unit {0}) Refused → List ℕ → Page → Page → Type 0
Writes (Ok u) text old new = Adds old.taken text new.taken × (new.failures ≡ old.failures)
Writes (Err e) text old new = AddsPart old.taken text new.taken × (new.failures ≡ old.failures + 1)
