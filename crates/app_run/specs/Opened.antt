-- The shop that `feed` begins with.
use Rattle.std.specs.Prelude.{◌≡◌, ℕ, List, [], Option, Some, None, bytes_eq, codes, if◌then◌else◌}
use Rattle.sha2.specs.Sha256.{sha256}
use Rattle.sqlite_trees.specs.declared.store.Store.{Ghosts}
use Rattle.sqlite.specs.Held.{state}
use Rattle.model_rows.specs.Lists.{State, empty}
use Rattle.model_answers.specs.House.{House}
use Rattle.file_tables.specs.declared.sql.SqlTables.{SqlTables}
use Rattle.file_tables.specs.Shops.{HoldsWhileOpen, IsOfHouse}

-- the digest of the token `feed`
unfoldable pub feed_digest : List ℕ
feed_digest = sha256 (codes "feed")

-- that one token is known, with the number 1
abbrev pub feed_tokens : List ℕ → Option ℕ
feed_tokens digest = if bytes_eq feed_digest digest then Some 1 else None

-- the organizer `house`, the event `hall`, and no token; and the same with that one
abbrev pub bare_house : House
bare_house = record { organizer = codes "house"; event = codes "hall"; tokens = λ digest. None; next_token = 1 }

-- the organizer `house` and the event `hall`, where the token `feed` is known
abbrev pub feed_house : House
feed_house = record { organizer = codes "house"; event = codes "hall"; tokens = feed_tokens; next_token = 2 }

-- an office without rows, of the organizer `house` and the event `hall`, over tables of the same names that hold it, keep no answer, and
-- know that house
pub record IsFreshShop {S : Type 0} (g : Ghosts S) (tables : SqlTables S) (organizer event : List ℕ) (office : State) : Type 0 where
  pub organizer_is : organizer ≡ codes "house"
  pub event_is : event ≡ codes "hall"
  pub empty_is : office ≡ empty
  pub row_is : (tables.head.organizer ≡ organizer) × (tables.head.event ≡ event)
  pub holds : HoldsWhileOpen tables.head tables.next_row (state g tables.connection) empty []
  pub knows : IsOfHouse tables.head tables.next_row (state g tables.connection) feed_house
