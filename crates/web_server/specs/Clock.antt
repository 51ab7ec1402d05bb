-- What the system's clock and its chance are read as.
use Rattle.std.specs.Prelude.{◌≡◌, ◌⊎◌, ℕ, ◌/◌, List, Option, Some, None, Result, Ok, Err, min}
use Rattle.std.specs.Duration.{as_nanos}
use Rattle.std.specs.IoError.{error_kind}
use Rattle.std.specs.declared.io.Error.{Error}
use Rattle.std.specs.declared.io.ErrorKind.{ErrorKind}
use Rattle.std.specs.declared.io.ErrorKind.TheVariants.{InvalidData}
use Rattle.std.specs.declared.time.Duration.{Duration}
use Rattle.base_values.specs.declared.draw.Draw.{Draw}
use Rattle.base_values.specs.Moments.{last_moment}
use Rattle.base_devices.specs.declared.device.Tick.{Tick}

-- std names a clock before 1970 by this kind of error, and no other one that can't be read
abbrev pub moment_before : ErrorKind → Option ℕ
moment_before InvalidData = Some 0
moment_before _ = None

-- The moment of what a clock shows: whole seconds since 1970; a clock before 1970 is moment 0, and one beyond the last moment is that one. A
-- clock that can't be read has none.
abbrev pub moment_shown : Result Duration Error → Option ℕ
moment_shown (Ok since) = Some (min (as_nanos since / 1000000000) last_moment)
moment_shown (Err error) = moment_before (error_kind error)

-- the clock showed this moment, or none
abbrev pub IsShown : (Result Duration Error → Type 0) → Option ℕ → Type 0
IsShown shows moment = (shown : Result Duration Error) × shows shown × (moment_shown shown ≡ moment)

-- the bytes were given as a draw, or none were
abbrev pub IsDrawn : (Option (List ℕ) → Type 0) → Option Draw → Type 0
IsDrawn gives (Some draw) = gives (Some draw.bytes)
IsDrawn gives None = gives None

-- a tick has the moment that the clock showed and the sixteen bytes that chance gave; there is none where the clock can't be read, or chance
-- gives nothing
abbrev pub IsRead : (Result Duration Error → Type 0) → (Option (List ℕ) → Type 0) → Option Tick → Type 0
IsRead shows gives (Some tick) = IsShown shows (Some tick.clock) × IsDrawn gives (Some tick.draw)
IsRead shows gives None = IsShown shows None ⊎ IsDrawn gives None
