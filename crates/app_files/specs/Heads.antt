-- Whether a file can be a shop's, by its bytes.
use Rattle.std.specs.Prelude.{◌≡◌, ℕ, ◌<◌, ◌==◌, Bool, true, false, List, length, drop, [], ◌∷◌, ◌++◌, Option, codes}
use Rattle.std.specs.List.{starts_with}
use Rattle.base_devices.specs.Reported.{Gives}
use Rattle.std.specs.Io.KnownBytes.{IsAtEnd}

-- each SQLite file begins with this
abbrev pub database_head : List ℕ
database_head = codes "SQLite format 3" ++ 0 ∷ []

-- SQLite's list of tables has this of the table `shop`: what it is, its name, and whose it is
abbrev pub shop_mark : List ℕ
shop_mark = codes "tableshopshop"

-- whether bytes begin so
abbrev pub begins_as_database : List ℕ → Bool
begins_as_database bytes = starts_with (λ a b. a == b) bytes database_head

-- the mark begins at this byte
abbrev pub HasMarkAt : List ℕ → ℕ → Type 0
HasMarkAt bytes at = starts_with (λ a b. a == b) (drop at bytes) shop_mark ≡ true

-- the mark is nowhere in these bytes
abbrev pub HasNoMark : List ℕ → Type 0
HasNoMark bytes = (at : ℕ) → at < length bytes → ¬ (HasMarkAt bytes at)

-- what is told of bytes that came: the mark is in them; or it isn't, and no more are to come
abbrev pub TellsMark : Bool → List ℕ → Option (List ℕ) → Type 0
TellsMark true bytes left = (at : ℕ) × HasMarkAt bytes at
TellsMark false bytes left = HasNoMark bytes × IsAtEnd left

-- all bytes are the kept ones and, behind them, what was read
abbrev pub IsBehind : List ℕ → List ℕ → Option (List ℕ) → Option (List ℕ) → Type 0
IsBehind kept all old new = (read : List ℕ) × (all ≡ kept ++ read) × Gives old read new
