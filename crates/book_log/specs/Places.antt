-- The rows that changes touch, and the last place in a log that touches a row.
use Rattle.std.specs.Prelude.{◌≡◌, ℕ, suc, ◌<◌, Bool, ◌&&◌, ◌==◌, List, [], ◌∷◌, length, take, Option, Some, None, count_by, if◌then◌else◌, slice_index_or}
use Rattle.std.specs.List.{list_any}
use Rattle.base_tables.specs.Tables.{row_at, with_row}
use Rattle.model_rows.specs.declared.changes.Change.{Change}
use Rattle.model_rows.specs.declared.changes.Change.TheVariants.{PutItem, PutVariation, PutQuota, PutVoucher, PutCart, PutOrder, PutPosition, PutWaiting, DropVoucher, DropCart, DropWaiting, PutCheckinList, PutCheckin}
use Rattle.book_log.specs.declared.change_log.Table.{Table}
use Rattle.book_log.specs.declared.change_log.Table.TheVariants.{Items, Variations, Quotas, Vouchers, Carts, Orders, Positions, Waiting, CheckinLists, Checkins}
use Rattle.book_log.specs.declared.touched.Touch.{Touch}

-- the place of a table among the ten
abbrev pub number : Table → ℕ
number Items = 0
number Variations = 1
number Quotas = 2
number Vouchers = 3
number Carts = 4
number Orders = 5
number Positions = 6
number Waiting = 7
number CheckinLists = 8
number Checkins = 9

-- the number of the table whose row a change puts or drops
abbrev pub table_of : Change → ℕ
table_of (PutItem row) = 0
table_of (PutVariation row) = 1
table_of (PutQuota row) = 2
table_of (PutVoucher row) = 3
table_of (DropVoucher id) = 3
table_of (PutCart row) = 4
table_of (DropCart id) = 4
table_of (PutOrder row) = 5
table_of (PutPosition row) = 6
table_of (PutWaiting row) = 7
table_of (DropWaiting id) = 7
table_of (PutCheckinList row) = 8
table_of (PutCheckin row) = 9

-- the id of that row
abbrev pub id_of : Change → ℕ
id_of (PutItem row) = row.id
id_of (PutVariation row) = row.id
id_of (PutQuota row) = row.id
id_of (PutVoucher row) = row.id
id_of (DropVoucher id) = id
id_of (PutCart row) = row.id
id_of (DropCart id) = id
id_of (PutOrder row) = row.id
id_of (PutPosition row) = row.id
id_of (PutWaiting row) = row.id
id_of (DropWaiting id) = id
id_of (PutCheckinList row) = row.id
id_of (PutCheckin row) = row.id

-- the change puts or drops the row of this table and id
abbrev pub touches : ℕ → ℕ → Change → Bool
touches table id change = table_of change == table && id_of change == id

-- the change puts or drops a row of this table
abbrev pub is_of : ℕ → Change → Bool
is_of table change = table_of change == table

-- some change puts or drops a row of this table
abbrev pub touches_table : ℕ → List Change → Bool
touches_table table changes = list_any (is_of table) changes

-- the place behind the later one, or the first place where there is none and it passes
abbrev pub further : Bool → Option ℕ → Option ℕ
further here (Some place) = Some (suc place)
further here None = if here then Some 0 else None

-- the last place whose change passes
abbrev pub last_place : {T : Type 0} → (T → Bool) → List T → Option ℕ
last_place passes [] = None
last_place passes (change ∷ changes) = further (passes change) (last_place passes changes)

-- the place that is kept of a row, if one is
abbrev pub kept_place : Option Touch → Option ℕ
kept_place None = None
kept_place (Some touch) = touch.place

-- the place that is kept of the row of this id
abbrev pub place_in : ℕ → List Touch → Option ℕ
place_in id touches = kept_place (row_at (λ t. t.id) id touches)

-- the rows touched, with this place kept of the row of an id
abbrev pub with_kept_place : ℕ → Option ℕ → List Touch → List Touch
with_kept_place id place touches = with_row (λ t. t.id) (record { id = id; place = place }) touches

-- the place before this one where a log touches the same row
abbrev pub place_before : ℕ → Change → List Change → Option ℕ
place_before place change log = last_place (touches (table_of change) (id_of change)) (take place log)

-- the index of a log: for each row the last place that touches it, for each place the one before it of the same row, and
-- for each table how many changes are of it
pub record IsIndex (log : List Change) (tables : List (List Touch)) (before : List (Option ℕ)) (counts : List ℕ) : Type 0 where
  pub ten : length tables ≡ 10
  pub lasts : (table id : ℕ) → table < 10 → place_in id (slice_index_or tables table []) ≡ last_place (touches table id) log
  pub count : length before ≡ length log
  pub befores : (place : ℕ) (d : Change) → place < length log → slice_index_or before place None ≡ place_before place (slice_index_or log place d) log
  pub all_counted : length counts ≡ 10
  pub counted : (table : ℕ) → table < 10 → slice_index_or counts table 0 ≡ count_by (is_of table) log
