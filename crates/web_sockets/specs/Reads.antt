-- What a read that doesn't wait gives: some bytes, the end, or nothing yet.
use Rattle.std.specs.Prelude.{ℕ, ◌<◌, ◌≤◌, List, [], length, take, Option, Result, Ok, Err}
use Rattle.std.specs.Io.KnownBytes.{IsAtEnd}
use Rattle.base_devices.specs.Reported.{Gives}
use Rattle.base_devices.specs.declared.device.Refused.{Refused}
use Rattle.web_sockets.specs.declared.ends.Came.{Came}
use Rattle.web_sockets.specs.declared.ends.Came.TheVariants as cames

-- some of the bytes; or none: at the end, or as nothing is there yet, or where it fails
abbrev pub Reads : Result Came Refused → Option (List ℕ) → Option (List ℕ) → List ℕ → Type 0
Reads (Ok (cames.Bytes n)) old new buffer = (0 < n) × (n ≤ length buffer) × Gives old (take n buffer) new
Reads (Ok cames.End) old new buffer = Gives old [] new × IsAtEnd new
Reads (Ok cames.Later) old new buffer = Gives old [] new
Reads (Err e) old new buffer = Gives old [] new
