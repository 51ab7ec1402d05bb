-- The box office: lists of rows in order of id, next ids, and its moment.
use Rattle.std.specs.Prelude.{ℕ, ◌==◌, ◌&&◌, List, [], Option, filter}
use Rattle.base_tables.specs.Tables.{row_at}
use Rattle.model_catalogue.specs.CatalogueLists.{CatalogueLists}
use Rattle.model_rows.specs.declared.rows.Voucher.{Voucher}
use Rattle.model_rows.specs.declared.rows.CartPos.{CartPos}
use Rattle.model_rows.specs.declared.rows.Order.{Order}
use Rattle.model_rows.specs.declared.rows.OrderPos.{OrderPos}
use Rattle.model_rows.specs.declared.rows.Waiting.{Waiting}
use Rattle.model_rows.specs.declared.rows.CheckinList.{CheckinList}
use Rattle.model_rows.specs.declared.rows.Checkin.{Checkin}
use Rattle.model_rows.specs.declared.rows.NextIds.{NextIds}

-- what is for sale, and the rows of sales and of the door: each table as a list in order of id
pub record Lists : Type 0 where
  pub catalogue : CatalogueLists
  pub vouchers : List Voucher
  pub carts : List CartPos
  pub orders : List Order
  pub positions : List OrderPos
  pub waiting : List Waiting
  pub checkin_lists : List CheckinList
  pub checkins : List Checkin

-- the rows, the ids that new rows get, and the moment
pub record State : Type 0 where
  pub lists : Lists
  pub next : NextIds
  pub moment : ℕ

-- the voucher of this id, if there is one
abbrev pub voucher_at : ℕ → Lists → Option Voucher
voucher_at id lists = row_at (λ r. r.id) id lists.vouchers

-- the cart position of this id, if there is one
abbrev pub cart_at : ℕ → Lists → Option CartPos
cart_at id lists = row_at (λ r. r.id) id lists.carts

-- the order of this number, if there is one
abbrev pub order_at : ℕ → Lists → Option Order
order_at id lists = row_at (λ r. r.id) id lists.orders

-- the order position of this id, if there is one
abbrev pub position_at : ℕ → Lists → Option OrderPos
position_at id lists = row_at (λ r. r.id) id lists.positions

-- the positions of an order, by id
abbrev pub positions_of : ℕ → Lists → List OrderPos
positions_of order lists = filter (λ p. order == p.order) lists.positions

-- the waiting entry of this id, if there is one
abbrev pub waiting_at : ℕ → Lists → Option Waiting
waiting_at id lists = row_at (λ r. r.id) id lists.waiting

-- the check-in list of this id, if there is one
abbrev pub checkin_list_at : ℕ → Lists → Option CheckinList
checkin_list_at id lists = row_at (λ r. r.id) id lists.checkin_lists

-- the check-in of this id, if there is one
abbrev pub checkin_at : ℕ → Lists → Option Checkin
checkin_at id lists = row_at (λ r. r.id) id lists.checkins

-- the check-ins of a position by a list, by id
abbrev pub checkins_by : ℕ → ℕ → Lists → List Checkin
checkins_by list position lists = filter (λ c. c.list == list && c.position == position) lists.checkins

-- no table has a row
abbrev pub no_rows : Lists
no_rows = record { catalogue = record { items = []; variations = []; quotas = [] }; vouchers = []; carts = []; orders = []; positions = []; waiting = []; checkin_lists = []; checkins = [] }

-- ids count from 1 in each table
abbrev pub first_ids : NextIds
first_ids = record { item = 1; variation = 1; quota = 1; voucher = 1; cart = 1; order = 1; position = 1; waiting = 1; list = 1; checkin = 1 }

-- a box office before its first change
abbrev pub empty : State
empty = record { lists = no_rows; next = first_ids; moment = 0 }
