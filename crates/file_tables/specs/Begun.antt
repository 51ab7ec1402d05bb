-- A shop before its first change, and what a new version and a new token make of its tables.
use Rattle.std.specs.Prelude.{◌≡◌, ℕ, List, ◌++◌}
use Rattle.sqlite_trees.specs.declared.store.Store.{Ghosts}
use Rattle.sqlite.specs.Effect.{Database}
use Rattle.sqlite.specs.Held.{Held, state}
use Rattle.file_schema.specs.Blank.{blank_schema}
use Rattle.file_schema.specs.Tables.{schema, this_version}
use Rattle.file_rows.specs.declared.rows.ExitRow.{ExitRow}
use Rattle.file_rows.specs.declared.rows.ShopRow.{ShopRow}
use Rattle.file_rows.specs.declared.rows.SpentRow.{SpentRow}
use Rattle.file_rows.specs.declared.rows.Token.{Token}
use Rattle.file_rows.specs.Changes.{with_shop, without_shop, with_token}
use Rattle.file_rows.specs.Tables.{Tables, Holds, HoldsAt, no_rows}
use Rattle.file_tables.specs.Whole.{LeavesMade}

-- no row but the shop's own
abbrev pub first_tables : ShopRow → Tables
first_tables shop = with_shop shop no_rows

-- the database has a shop's tables, with no row but the shop's own
pub record IsBegun (shop : ShopRow) (db : Database) : Type 0 where
  pub known : db.schema ≡ schema
  pub held : Holds db.trees (first_tables shop)

-- what becomes of a database that had no table
abbrev pub BecomesBegun : ShopRow → Database → Database → Type 0
BecomesBegun shop db after = IsBegun shop after

-- the connection sees a database that has a table, an index or a view already
abbrev pub HasTables : {S : Type 0} → Ghosts S → Held S → Type 0
HasTables g c = ¬ ((state g c).now.schema ≡ blank_schema)

-- a crash leaves what it could have left before, or a shop's tables with no row but the shop's own
abbrev pub LeavesBegun : {S : Type 0} → Ghosts S → Held S → Held S → ShopRow → Type 0
LeavesBegun g old new shop = LeavesMade g old new blank_schema (BecomesBegun shop)

-- the shop's row of an earlier version, once its tables are of this one
abbrev pub of_this_version : ShopRow → ShopRow
of_this_version head = record head { version = this_version }

-- the shop's row is this one, and all else as it was
abbrev pub with_head : ShopRow → Tables → Tables
with_head shop t = with_shop shop (without_shop 1 t)

-- with these rows of exits beside those that stand
abbrev pub with_exits : List ExitRow → Tables → Tables
with_exits exits t = record t { exits = exits ++ t.exits }

-- with these rows of what is spent of vouchers beside those that stand
abbrev pub with_spents : List SpentRow → Tables → Tables
with_spents spents t = record t { spents = spents ++ t.spents }

-- what becomes of a database of that version which is brought to this one: of the tables that it hadn't, these rows of exits and of what is
-- spent are added to two, and the others have none
pub record IsUpgraded (shop : ShopRow) (exits : List ExitRow) (spents : List SpentRow) (from : ℕ) (db after : Database) : Type 0 where
  pub known : after.schema ≡ schema
  pub holds : (t : Tables) → HoldsAt from db.trees t → Holds after.trees (with_head shop (with_spents spents (with_exits exits t)))

-- the tables with a token more, and with this shop's row
abbrev pub token_added : ShopRow → Token → Tables → Tables
token_added shop token t = with_token token (with_head shop t)

-- what a new token makes of a database over the schema
pub record HasToken (shop : ShopRow) (token : Token) (db after : Database) : Type 0 where
  pub known : after.schema ≡ schema
  pub holds : (t : Tables) → Holds db.trees t → Holds after.trees (token_added shop token t)
