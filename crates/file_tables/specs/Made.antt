-- A shop's file that was just made.
use Rattle.std.specs.Prelude.{◌≡◌, ℕ, List, [], IsTrue}
use Rattle.sqlite.specs.State.{State as Connected}
use Rattle.file_schema.specs.Tables.{schema, this_version}
use Rattle.model_rows.specs.Lists.{empty, first_ids}
use Rattle.file_rows.specs.declared.rows.ShopRow.{ShopRow}
use Rattle.file_rows.specs.Tables.{Holds}
use Rattle.file_tables.specs.Begun.{first_tables}
use Rattle.model_answers.specs.ShopView.{ShopView, IsSame}
use Rattle.file_tables.specs.Shops.{HoldsWhileOpen, IsOfHouse, Leaves, house_of_rows}

-- the shop's row before its first change: this version, moment 0, and each id begins with 1
abbrev pub first_shop : List ℕ → List ℕ → ShopRow
first_shop organizer event = record { version = this_version; organizer = organizer; event = event; moment = 0; next = first_ids; next_token = 1 }

-- a shop that has no rows and keeps no answers
abbrev pub nothing_yet : ShopView
nothing_yet = record { state = empty; kept = [] }

-- The connection was open and is. The tables are a shop's, with its first row alone; they hold an office without rows and no answer,
-- and know its house with no token; rows are numbered on from 1; a crash leaves them so.
pub record IsMade (first : ShopRow) (old : Connected) (head : ShopRow) (next : ℕ) (new : Connected) : Type 0 where
  pub was_open : IsTrue old.is_open
  pub is_open : IsTrue new.is_open
  pub head_is : head ≡ first
  pub next_is : next ≡ 1
  pub known : new.now.schema ≡ schema
  pub held : Holds new.now.trees (first_tables first)
  pub holds : HoldsWhileOpen head next new empty []
  pub knows : IsOfHouse head next new (house_of_rows first [])
  pub leaves : (left : ShopView) → Leaves new left → IsSame left nothing_yet
