-- A shop's file that was brought to this program's version, and what a crash may leave of one that is being brought to it.
use Rattle.std.specs.Prelude.{◌≡◌, ◌≤◌, ℕ, [], ◌∷◌, IsTrue}
use Rattle.sqlite_trees.specs.Tree.{Trees}
use Rattle.sqlite_trees.specs.declared.store.Store.{Ghosts}
use Rattle.sqlite_schema.specs.declared.schema.Schema.{Schema}
use Rattle.sqlite.specs.Effect.{Database}
use Rattle.sqlite.specs.Held.{Held, state}
use Rattle.sqlite.specs.State.{State as Connected, HasCleanDisk, Survives}
use Rattle.file_schema.specs.Tables.{this_version}
use Rattle.file_schema.specs.Versions.{schema_of_version}
use Rattle.model_rows.specs.Lists.{State}
use Rattle.file_rows.specs.declared.rows.ShopRow.{ShopRow}
use Rattle.file_rows.specs.Tables.{Tables, Holds, HoldsAt}
use Rattle.file_scan.specs.Rests.{IsOpenAt}
use Rattle.file_tables.specs.Begun.{of_this_version}
use Rattle.file_tables.specs.Shops.{AreDeclared}
use Rattle.file_open.specs.Opened.{answers_in}
use Rattle.file_open.specs.Supplied.{brought}
use Rattle.file_open.specs.Upgraded.{HoldsShopAt}

-- the database is declared as that version is, and the one row of its table `shop` tells that version
pub record IsOfVersion (version : ℕ) (db : Database) : Type 0 where
  pub known : db.schema ≡ schema_of_version version
  pub tables : Tables
  pub held : HoldsAt version db.trees tables
  pub shop : ShopRow
  pub alone : tables.shop ≡ shop ∷ []
  pub version_is : shop.version ≡ version

-- The file held a shop of that version, and holds it as one of this program's: the same box office with the same answers, in the same rows
-- but for the version, and with the rows that the version lacked.
pub record IsMigrated (from : ℕ) (old new : Connected) : Type 0 where
  pub head : ShopRow
  pub tables : Tables
  pub office : State
  pub held : HoldsShopAt from head tables office (answers_in tables) old
  pub holds : HoldsShopAt this_version (of_this_version head) (brought from head tables) office (answers_in tables) new

-- A file of a version of ours that was being brought to this program's. Where the open connection showed what was committed, the shop's row
-- tells that version and no other. Where the file was declared as that version is, it held a shop, and these trees hold that shop wholly, as
-- one of this program's.
pub record MayBeMigrated (old : Connected) (trees : Trees) : Type 0 where
  pub was_open : IsTrue old.is_open
  pub from : ℕ
  pub first : 1 ≤ from
  pub last : from ≤ this_version
  pub head : ShopRow
  pub tables : Tables
  pub office : State
  pub version_is : IsOpenAt old.now old → (version : ℕ) → IsOfVersion version old.now → version ≡ from
  pub held : IsOpenAt old.now old → old.now.schema ≡ schema_of_version from → HoldsShopAt from head tables office (answers_in tables) old
  pub holds : IsOpenAt old.now old → old.now.schema ≡ schema_of_version from → AreDeclared trees × Holds trees (brought from head tables)

-- ---- what a call leaves of a connection

-- over a disk that returned what was written: where the open connection showed what was committed, declared so, it stands so to what is left
abbrev pub WhereDeclared : {S : Type 0} → Schema → Ghosts S → Held S → Held S → (Connected → Connected → Type 0) → Type 0
WhereDeclared known g old new Relates = HasCleanDisk (state g new) → IsOpenAt (state g old).now (state g old) → (state g old).now.schema ≡ known → Relates (state g old) (state g new)

-- this holds where the connection that is left is open, over a disk that returned what was written
abbrev pub WhileOpen : {S : Type 0} → Ghosts S → Held S → Type 0 → Type 0
WhileOpen g new holds = HasCleanDisk (state g new) → IsTrue (state g new).is_open → holds

-- a crash leaves what it could have left before, or the shop as one of this program's version
abbrev pub LeavesMigrated : {S : Type 0} → Ghosts S → Held S → Held S → Type 0
LeavesMigrated g old new = Survives (state g old) (state g new) (MayBeMigrated (state g old))
