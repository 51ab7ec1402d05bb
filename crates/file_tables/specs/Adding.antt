-- What a token that is added leaves of the tables of a shop in a file.
use Rattle.std.specs.Prelude.{◌≡◌, ◌⊎◌, ℕ, List, Some, None, Result, Err, IfOk, OnOk, OnErr, IsTrue}
use Rattle.sqlite_trees.specs.declared.store.Store.{Ghosts}
use Rattle.sqlite_trees.specs.Tree.{Trees}
use Rattle.sqlite.specs.Held.{state}
use Rattle.sqlite.specs.State.{HasCleanDisk}
use Rattle.file_schema.specs.Clean.{WhileClean, LeavesNoMore}
use Rattle.file_schema.specs.Outcomes.{OnOkWhileClean, WasOpen}
use Rattle.file_schema.specs.Tables.{schema}
use Rattle.file_schema.specs.Whole.{WritesNone}
use Rattle.model_rows.specs.Lists.{State}
use Rattle.model_answers.specs.declared.kept.Kept.{Kept}
use Rattle.model_answers.specs.ShopView.{ShopView, IsSame}
use Rattle.file_rows.specs.Tables.{Tables, Holds}
use Rattle.file_tables.specs.declared.error.TokenError.{TokenError}
use Rattle.file_tables.specs.declared.error.TokenError.TheVariants.{Full}
use Rattle.file_tables.specs.declared.sql.SqlTables.{SqlTables}
use Rattle.file_tables.specs.Shops.{Leaves, LeavesHouse}
use Rattle.file_tables.specs.Known.{TablesHold, TablesKnow, OfKnownHouse}
use Rattle.file_tables.specs.Whole.{LeavesMade}
use Rattle.file_tables.specs.Tokens.{house_with, IsNumbered, HasNoRoom, AddsNext, head_after, tables_after}

-- A digest that stands keeps its number, and nothing changes. Any other gets the next one, all of it or nothing, in a crash too. The office and
-- the kept answers stay as they are.
pub record AddsToken {S : Type 0} (g : Ghosts S) (old new : SqlTables S) (digest : List ℕ) (result : Result ℕ TokenError) : Type 0 where
  -- the answer is the digest's number, on an open connection
  pub number : OfKnownHouse g old new (λ house. IfOk result (IsNumbered (house.tokens digest) old.head.next_token))
  pub was_open : OnOkWhileClean g old.connection new.connection WasOpen result
  -- the token is refused as one too many only where a new digest has no room, on an open connection
  pub full : OfKnownHouse g old new (λ house. result ≡ Err Full → HasNoRoom (house.tokens digest) old.head.next_token)
  pub full_open : WhileClean g old.connection new.connection (λ was is. result ≡ Err Full → IsTrue was.is_open)
  -- the shop's row and the rows of all tables are those after the digest, and rows are numbered on from where they were
  pub head : OfKnownHouse g old new (λ house. OnOk result (new.head ≡ head_after (house.tokens digest) old.head))
  pub head_none : OnErr result (new.head ≡ old.head)
  pub next_row : new.next_row ≡ old.next_row
  pub tables : OfKnownHouse g old new (λ house. IsTrue (state g new.connection).is_open
      → OnOk result ((t : Tables) → Holds (state g old.connection).now.trees t → Holds (state g new.connection).now.trees (tables_after (house.tokens digest) old.head digest t)))
  -- the tables know their house with this digest, and so does what a crash leaves, where it knew the house before
  pub knows : OfKnownHouse g old new (λ house. IfOk result (λ number. TablesKnow g new (house_with digest number new.head.next_token house)))
  pub leaves_house : OfKnownHouse g old new (λ house. LeavesHouse (state g old.connection) house
      → IfOk result (λ number. LeavesHouse (state g new.connection) (house_with digest number new.head.next_token house)))
  -- a refusal changes nothing
  pub none : WritesNone g old.connection new.connection schema result
  -- the tables hold the office and the answers that they held
  pub holds : HasCleanDisk (state g new.connection) → (s : State) (ks : List Kept) → TablesHold g old s ks → TablesHold g new s ks
  -- a crash leaves what it could have left before, or the next token added; where the digest had a number, the first
  pub crash : LeavesMade g old.connection new.connection schema (AddsNext old.head digest)
  pub known_crash : OfKnownHouse g old new (λ house. (number : ℕ) → house.tokens digest ≡ Some number → LeavesNoMore g old.connection new.connection)
  -- a crash leaves a shop that it could have left before, or the office and the answers that the tables held
  pub leaves : (left : ShopView) → Leaves (state g new.connection) left
      → Leaves (state g old.connection) left ⊎ ((s : State) (ks : List Kept) → TablesHold g old s ks → IsSame left (record { state = s; kept = ks }))
  -- once a new digest is in, a crash leaves what the connection sees
  pub settled : OfKnownHouse g old new (λ house. house.tokens digest ≡ None
      → OnOk result ((db : Trees) → (state g new.connection).may_leave db → db ≡ (state g new.connection).now.trees))
