-- A shop's file of an earlier version, and what is opened of it once it was brought to this one.
use Rattle.std.specs.Prelude.{◌≡◌, ℕ, List, IsTrue}
use Rattle.sqlite_trees.specs.declared.store.Store.{Ghosts}
use Rattle.sqlite.specs.Effect.{Database}
use Rattle.sqlite.specs.Held.{Held, state}
use Rattle.sqlite.specs.State.{State as Connected}
use Rattle.file_schema.specs.Tables.{schema}
use Rattle.file_schema.specs.Versions.{schema_of_version}
use Rattle.model_rows.specs.Lists.{State}
use Rattle.model_invariant.specs.Sound.{IsSound}
use Rattle.model_answers.specs.declared.kept.Kept.{Kept}
use Rattle.model_answers.specs.ShopView.{IsSame}
use Rattle.file_rows.specs.declared.rows.ExitRow.{ExitRow}
use Rattle.file_rows.specs.declared.rows.ShopRow.{ShopRow}
use Rattle.file_rows.specs.declared.rows.SpentRow.{SpentRow}
use Rattle.file_rows.specs.Tables.{Tables, HoldsAt}
use Rattle.file_meaning.specs.Stands.{Stand}
use Rattle.file_meaning.specs.Typed.{IsTypedShop}
use Rattle.file_scan.specs.Reading.{OfOpen}
use Rattle.file_tables.specs.Begun.{of_this_version}
use Rattle.file_tables.specs.Shops.{IsOfHouse, house_of_rows}
use Rattle.file_open.specs.Opened.{IsFaultless, IsOpened, answers_in, shop_in}
use Rattle.file_open.specs.Supplied.{tables_supplied, AreLacking}

-- tables hold an office with the answers that they have, and are what their types promise
abbrev pub StandTyped : ShopRow → State → Tables → Type 0
StandTyped head s t = Stand head t s (answers_in t) × IsTypedShop (of_this_version head) t

-- An open connection shows what was committed, in tables of that version, which hold this sound box office with these answers, where the rows
-- that they lack are supplied. All values but the version are what their types promise.
pub record HoldsShopAt (version : ℕ) (head : ShopRow) (t : Tables) (s : State) (answers : List Kept) (c : Connected) : Type 0 where
  pub is_open : IsTrue c.is_open
  pub settled : c.now ≡ c.committed
  pub known : c.now.schema ≡ schema_of_version version
  pub held : HoldsAt version c.now.trees t
  pub stand : Stand head (tables_supplied version t) s answers
  pub typed : IsTypedShop (of_this_version head) (tables_supplied version t)
  pub sound : IsSound s

-- Exits and sums are just the rows that the tables of that version lack. Where an open connection showed what is declared as that version
-- is, it holds them as the shop of this row and this office.
pub record HoldsLacking {S : Type 0} (own : ℕ) (g : Ghosts S) (old new : Held S) (head : ShopRow) (out : List ExitRow) (spent : List SpentRow) (t : Tables) (s : State) : Type 0 where
  pub lacking : AreLacking own t out spent
  pub held : OfOpen g old new (λ db. db.schema ≡ schema_of_version own → HoldsShopAt own head t s (answers_in t) (state g new))

-- The tables are declared as ours, and the file is refused for want of memory or because the store fails, and never with 60, 61 or 62.
-- What it is opened as is that shop, of this version: its row, its box office, its answers, and its house with the numbers of its tokens.
pub record IsOpenedAsBefore (head : ShopRow) (t : Tables) (s : State) (answers : List Kept) (db : Database) (opened : Connected) : Type 0 where
  pub known : db.schema ≡ schema
  pub no_fault : IsFaultless db
  pub same : (shop : ShopRow) (next : ℕ) (z : State) (o : IsOpened db.trees shop next z opened)
      → (shop ≡ of_this_version head) × IsSame (shop_in z o.tables) (record { state = s; kept = answers })
  pub house : (shop : ShopRow) (next : ℕ) (z : State) → IsOpened db.trees shop next z opened → IsOfHouse shop next opened (house_of_rows head t.tokens)
