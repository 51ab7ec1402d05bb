-- What the file of a shop holds of its office, what it knows of its house, and what a crash may leave of both.
use Rattle.std.specs.Prelude.{◌≡◌, ℕ, false, List, [], ◌∷◌, IsTrue, IsPermutation}
use Rattle.std.proofs.lemmas.List.Sorted.{IsPermutation-trans}
use Rattle.sqlite_trees.specs.Tree.{Trees}
use Rattle.sqlite.specs.Effect.{Database, IsDatabase}
use Rattle.sqlite.specs.State.{State as Connected, HasCleanDisk}
use Rattle.file_schema.specs.Tables.{schema}
use Rattle.model_rows.specs.Lists.{State}
use Rattle.model_answers.specs.declared.kept.Kept.{Kept}
use Rattle.model_answers.specs.House.{House}
use Rattle.model_answers.specs.ShopView.{ShopView, IsSame}
use Rattle.file_rows.specs.declared.rows.ShopRow.{ShopRow}
use Rattle.file_rows.specs.declared.rows.Token.{Token}
use Rattle.file_rows.specs.Tables.{Tables, Holds}
use Rattle.file_meaning.specs.Free.{IsFree}
use Rattle.file_meaning.specs.Stands.{Stand}
use Rattle.file_meaning.specs.Typed.{IsTypedShop}
use Rattle.file_tables.specs.Held.{number_of}

-- the connection shows what was committed, outside a transaction; it has a shop's tables, which hold this office and these
-- answers, and this is the shop's row; all values are what their types promise, and each token's number is below the next one;
-- and rows without an id of their own may be numbered from here on
pub record Keeps (head : ShopRow) (next : ℕ) (c : Connected) (s : State) (answers : List Kept) : Type 0 where
  pub known : c.now.schema ≡ schema
  pub outside : c.in_transaction ≡ false
  pub settled : c.now ≡ c.committed
  pub tables : Tables
  pub held : Holds c.now.trees tables
  pub stand : Stand head tables s answers
  pub typed : IsTypedShop head tables
  pub free : IsFree next tables

-- while the connection is open, its tables hold this office and these answers
abbrev pub HoldsWhileOpen : ShopRow → ℕ → Connected → State → List Kept → Type 0
HoldsWhileOpen head next c s answers = IsTrue c.is_open → Keeps head next c s answers

-- the house that the shop's row and its tokens tell
abbrev pub house_of_rows : ShopRow → List Token → House
house_of_rows shop tokens = record { organizer = shop.organizer; event = shop.event; tokens = number_of tokens; next_token = shop.next_token }

-- the trees hold a shop's tables; this is the shop's row, and with their tokens it tells this house
pub record Tells (trees : Trees) (head : ShopRow) (house : House) : Type 0 where
  pub tables : Tables
  pub held : Holds trees tables
  pub shop_is : tables.shop ≡ head ∷ []
  pub told : house ≡ house_of_rows head tables.tokens

-- the database has a shop's tables, which tell this house, and rows may be numbered from here on
pub record Knows (head : ShopRow) (next : ℕ) (db : Database) (house : House) : Type 0 where
  pub known : db.schema ≡ schema
  pub tells : Tells db.trees head house
  pub free : IsFree next tells.tables

-- an open connection shows tables that tell this house
abbrev pub KnowsWhileOpen : ShopRow → ℕ → Connected → House → Type 0
KnowsWhileOpen head next c house = IsTrue c.is_open → Knows head next c.now house

-- the trees list our schema, so that whoever opens them sees tables that are declared as ours
abbrev pub AreDeclared : Trees → Type 0
AreDeclared trees = IsDatabase (record { schema = schema; trees = trees })

-- whatever a crash leaves is declared as ours and tells this house
abbrev pub LeavesHouse : Connected → House → Type 0
LeavesHouse c house = (trees : Trees) → c.may_leave trees → AreDeclared trees × ((head : ShopRow) × Tells trees head house)

-- the connection knows this house while it is open, and so does what a crash leaves
pub record IsOfHouse (head : ShopRow) (next : ℕ) (c : Connected) (house : House) : Type 0 where
  pub now : KnowsWhileOpen head next c house
  pub left : LeavesHouse c house

-- whatever shop these trees hold, with values that are what their types promise, is this one
abbrev pub HoldNoOther : Trees → ShopView → Type 0
HoldNoOther trees left = (head : ShopRow) (tables : Tables) (it : ShopView) → Holds trees tables → Stand head tables it.state it.kept → IsTypedShop head tables → IsSame left it

-- The disk has returned what was written, and a crash may leave trees that hold no other shop than this. Of trees that hold none so it is
-- with each shop: where all that a crash may leave are some shops, it leaves one of them, and nothing else.
pub record Leaves (c : Connected) (left : ShopView) : Type 0 where
  pub clean : HasCleanDisk c
  pub trees : Trees
  pub may : c.may_leave trees
  pub only : HoldNoOther trees left

-- the order of the answers doesn't matter
pub holds_reordered : (head : ShopRow) (next : ℕ) (c : Connected) (s : State) (ks js : List Kept) → HoldsWhileOpen head next c s ks → IsPermutation ks js → HoldsWhileOpen head next c s js
holds_reordered head next c s ks js held more is_open =
    let it = held is_open in
    let st = it.stand in
    record {
      known = it.known;
      outside = it.outside;
      settled = it.settled;
      tables = it.tables;
      held = it.held;
      stand = record { shop_is = st.shop_is; moment = st.moment; next = st.next; rows = st.rows; ordered = st.ordered; used = st.used; exits = st.exits; redeemed = st.redeemed; spents = st.spents; kept = IsPermutation-trans _ ks js st.kept more };
      typed = it.typed;
      free = it.free;
    }
