-- What a shop's database holds after a command.
use Rattle.std.specs.Prelude.{◌≡◌, ◌⊎◌, ℕ, List, Some, None, Result, Err, IfOk, IfErr, OnOk, OnErr, IsTrue, map}
use Rattle.sqlite_trees.specs.declared.store.Store.{Ghosts}
use Rattle.sqlite_trees.specs.Tree.{Trees}
use Rattle.sqlite.specs.Effect.{Database}
use Rattle.sqlite.specs.Held.{state}
use Rattle.sqlite.specs.State.{State as Connected, HasCleanDisk, Survives}
use Rattle.sqlite.specs.declared.connection.Connection.{Connection}
use Rattle.file_schema.specs.Blank.{blank_schema}
use Rattle.file_schema.specs.Tables.{schema}
use Rattle.file_schema.specs.Clean.{LeavesNoMore}
use Rattle.file_schema.specs.Whole.{IsStill, LeavesWhole, MayBeWritten, WritesNone}
use Rattle.model_rows.specs.Lists.{State}
use Rattle.model_answers.specs.declared.kept.Kept.{Kept}
use Rattle.model_answers.specs.House.{House}
use Rattle.file_rows.specs.declared.rows.ShopRow.{ShopRow}
use Rattle.file_rows.specs.Tables.{Tables, Holds}
use Rattle.file_meaning.specs.Stands.{Stand}
use Rattle.file_tables.specs.Begun.{IsBegun, token_added}
use Rattle.file_tables.specs.Held.{number_of}
use Rattle.file_tables.specs.Shops.{HoldsWhileOpen, IsOfHouse, KnowsWhileOpen, house_of_rows}
use Rattle.file_tables.specs.Known.{TablesKnow}
use Rattle.file_tables.specs.declared.sql.SqlTables.{SqlTables}
use Rattle.file_tables.specs.Made.{IsMade, first_shop}
use Rattle.file_tables.specs.Tokens.{AddsNext, HasNoRoom, IsNumbered, head_after, house_with, next_one, token_raised}
use Rattle.file_scan.specs.declared.error.OpenError.{OpenError}
use Rattle.file_open.specs.Opened.{IsReason}
use Rattle.web_cli.specs.declared.fault.RunFault.{RunFault}
use Rattle.web_cli.specs.declared.fault.RunFault.TheVariants as faults
use Rattle.file_scan.specs.Rests.{IsAt, IsOpenAt}
use Rattle.app_files.specs.Faults.{fault_of_opening}

-- a shop was made for this organizer and this event
abbrev pub HoldsNewShop : List ℕ → List ℕ → Connected → Connected → Type 0
HoldsNewShop organizer event old new = (head : ShopRow) × (next : ℕ) × IsMade (first_shop organizer event) old head next new

-- Of tables with this row of the shop: the connection was open, over a disk that returned what was written. Whatever house they knew, they
-- know the same with the digest by this number, which is the one that it had, or else the next one, and every other digest as it was; so does
-- what a crash leaves; and whatever office and answers they held, they hold.
pub record GetsToken (head : ShopRow) (next : ℕ) (digest : List ℕ) (number : ℕ) (old new : Connected) : Type 0 where
  pub clean : HasCleanDisk old
  pub was_open : IsTrue old.is_open
  pub numbered : (house : House) → KnowsWhileOpen head next old house → IsNumbered (house.tokens digest) head.next_token number
  pub knows : (house : House) → IsOfHouse head next old house
      → let after = head_after (house.tokens digest) head in IsOfHouse after next new (house_with digest number after.next_token house)
  pub holds : (house : House) → KnowsWhileOpen head next old house → (s : State) (ks : List Kept) → HoldsWhileOpen head next old s ks → HoldsWhileOpen (head_after (house.tokens digest) head) next new s ks

-- The trees held a shop's tables. What they hold now is the same office with the same answers; they know the same house with the digest by
-- this number, which is the one that it had, or else the next one, and every other digest as it was; and so does what a crash leaves.
pub record KnowsToken (db : Trees) (digest : List ℕ) (number : ℕ) (new : Connected) : Type 0 where
  pub tables : Tables
  pub held : Holds db tables
  pub head : ShopRow
  pub next : ℕ
  pub office : State
  pub stand : Stand head tables office (map (λ r. r.kept) tables.kept)
  pub numbered : IsNumbered (number_of tables.tokens digest) head.next_token number
  pub holds : HoldsWhileOpen (head_after (number_of tables.tokens digest) head) next new office (map (λ r. r.kept) tables.kept)
  pub knows :
      let after = head_after (number_of tables.tokens digest) head in
      IsOfHouse after next new (house_with digest number after.next_token (house_of_rows head tables.tokens))

-- the shop in these trees doesn't know the digest, and has all the tokens that it may have
pub record IsFullFor (db : Trees) (digest : List ℕ) : Type 0 where
  pub tables : Tables
  pub held : Holds db tables
  pub head : ShopRow
  pub office : State
  pub stand : Stand head tables office (map (λ r. r.kept) tables.kept)
  pub full : HasNoRoom (number_of tables.tokens digest) head.next_token

-- the trees held a shop's tables that didn't know the digest, and these hold them with it as their next token
pub record HasNextToken (db : Trees) (digest : List ℕ) (after : Trees) : Type 0 where
  pub tables : Tables
  pub held : Holds db tables
  pub head : ShopRow
  pub office : State
  pub stand : Stand head tables office (map (λ r. r.kept) tables.kept)
  pub is_new : number_of tables.tokens digest ≡ None
  pub holds : Holds after (token_added (token_raised head) (next_one head digest) tables)

-- for want of memory, or because the store refused a call or failed
abbrev pub IsOfStore : RunFault → Type 0
IsOfStore fault = (fault ≡ faults.Memory) ⊎ (fault ≡ faults.Store)

-- 60 is told of a database that has something, and any other fault of the store alone
abbrev pub IsNotMadeFor : Database → RunFault → Type 0
IsNotMadeFor db fault = ((fault ≡ faults.NotAShop) × (¬ (db.schema ≡ blank_schema))) ⊎ IsOfStore fault

-- A fault is told for the reason that the file isn't opened; or of a shop that takes no token, 16 because it has no room for one, and any
-- other fault of the store alone.
abbrev pub IsToldFor : Database → List ℕ → RunFault → Type 0
IsToldFor db digest fault =
    ((error : OpenError) × (fault ≡ fault_of_opening error) × IsReason db error)
    ⊎ (((fault ≡ faults.Full) × (db.schema ≡ schema → IsFullFor db.trees digest)) ⊎ IsOfStore fault)

-- A shop was made in the database, or nothing has changed and it is told why not, 60 where there was a table, and only there; and a crash
-- leaves all of it or nothing.
pub record MakesShopIn {S : Type 0} (g : Ghosts S) (organizer event : List ℕ) (old : Connected) (left : Connection S) (outcome : Result (Unit {0}) RunFault) : Type 0 where
  pub made : HasCleanDisk (state g left) → OnOk outcome (HoldsNewShop organizer event old (state g left))
  pub none : HasCleanDisk (state g left) → OnErr outcome (IsStill old (state g left))
  pub blank : ¬ (old.now.schema ≡ blank_schema) → outcome ≡ Err faults.NotAShop
  pub cause : IfErr outcome (IsNotMadeFor old.now)
  pub crash : Survives old (state g left) (MayBeWritten blank_schema (λ (_ : Unit {0}) db after. IsBegun (first_shop organizer event) after) old)

-- Over tables that were opened the token was added, or nothing has changed and it is told why not: 16 where there is no room for it, and
-- else for the store alone. A crash leaves what one before it could have left, or the tables with the token as their next one; and nothing
-- new where a house that they knew had the token.
pub record AddsOver {S : Type 0} (g : Ghosts S) (tables : SqlTables S) (digest : List ℕ) (left : Connection S) (outcome : Result ℕ RunFault) : Type 0 where
  pub gets : IfOk outcome (λ number. HasCleanDisk (state g left) → GetsToken tables.head tables.next_row digest number (state g tables.connection) (state g left))
  pub cause : IfErr outcome (λ fault. (fault ≡ faults.Full) ⊎ IsOfStore fault)
  pub full : outcome ≡ Err faults.Full → HasCleanDisk (state g left) → (house : House) → TablesKnow g tables house → HasNoRoom (house.tokens digest) tables.head.next_token
  pub full_open : outcome ≡ Err faults.Full → HasCleanDisk (state g left) → IsTrue (state g tables.connection).is_open
  pub clean : HasCleanDisk (state g left) → HasCleanDisk (state g tables.connection)
  pub none : WritesNone g tables.connection left schema outcome
  pub crash : LeavesWhole g tables.connection left schema (λ (_ : Unit {0}). AddsNext tables.head digest)
  pub known_crash : HasCleanDisk (state g left) → (house : House) → TablesKnow g tables house → (number : ℕ) → house.tokens digest ≡ Some number
      → LeavesNoMore g tables.connection left

-- The shop in the database got this token, or nothing has changed and it is told why not; and a crash leaves what one before it could have
-- left, or the shop with the token, which is new then.
pub record AddsTokenIn {S : Type 0} (g : Ghosts S) (digest : List ℕ) (old : Connected) (left : Connection S) (outcome : Result ℕ RunFault) : Type 0 where
  pub added : IfOk outcome (λ number. HasCleanDisk (state g left) → (db : Database) → IsAt db old → db.schema ≡ schema → KnowsToken db.trees digest number (state g left))
  pub cause : IfErr outcome (λ fault. HasCleanDisk (state g left) → (db : Database) → IsOpenAt db old → IsToldFor db digest fault)
  pub none : HasCleanDisk (state g left) → IsTrue (state g left).is_open → (db : Database) → IsAt db old → db.schema ≡ schema → OnErr outcome (IsAt db (state g left))
  pub crash : HasCleanDisk (state g left) → (db : Database) → IsAt db old → db.schema ≡ schema → (trees : Trees) → (state g left).may_leave trees → old.may_leave trees ⊎ HasNextToken db.trees digest trees
