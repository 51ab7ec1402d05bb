-- A line that is read from a reader.
use Rattle.std.specs.Prelude.{◌≡◌, ◌⊎◌, ℕ, ◌==◌, Bool, ◌-◌, List, [], ◌∷◌, ◌++◌, length, take, drop, Option, Some, None, All, if◌then◌else◌}
use Rattle.std.specs.Str.{bytes_eq}
use Rattle.std.specs.Io.KnownBytes.{IsAtEnd}
use Rattle.base_devices.specs.Reported.{Gives}

-- the byte that was read, if there was one
abbrev pub byte_of : Option ℕ → List ℕ
byte_of None = []
byte_of (Some b) = b ∷ []

-- this line came, without its line feed: no byte of it is one, and there was one behind it, or the input is at its end, or the line has 256 bytes
abbrev pub IsFirstLine : List ℕ → Option (List ℕ) → Option (List ℕ) → Type 0
IsFirstLine line old new =
    All (λ b. ¬ (b ≡ 10)) line
    × (Gives old (line ++ 10 ∷ []) new ⊎ (Gives old line new × (IsAtEnd new ⊎ (length line ≡ 256))))

-- whether a line ends with a carriage return
abbrev pub is_returned : List ℕ → Bool
is_returned line = bytes_eq (drop (length line - 1) line) (13 ∷ [])

-- the line without the carriage return that it may end with
abbrev pub uncut : List ℕ → List ℕ
uncut line = if is_returned line then take (length line - 1) line else line
