-- What changes do to the lists: each puts or drops one row; next ids and the moment are set at the end.
use Rattle.std.specs.Prelude.{ℕ, List, [], ◌∷◌, map}
use Rattle.base_tables.specs.Tables.{with_row, without_row}
use Rattle.model_rows.specs.declared.rows.NextIds.{NextIds}
use Rattle.model_rows.specs.declared.changes.Change.{Change}
use Rattle.model_rows.specs.declared.changes.Change.TheVariants.{PutItem, PutVariation, PutQuota, PutVoucher, PutCart, PutOrder, PutPosition, PutWaiting, DropVoucher, DropCart, DropWaiting, PutCheckinList, PutCheckin}
use Rattle.model_rows.specs.Lists.{Lists, State}

-- a row that is put stands in the place of its id, and one that is dropped is gone
abbrev pub after_change : Change → Lists → Lists
after_change (PutItem row) lists = record lists { catalogue = record lists.catalogue { items = with_row (λ r. r.id) row lists.catalogue.items } }
after_change (PutVariation row) lists = record lists { catalogue = record lists.catalogue { variations = with_row (λ r. r.id) row lists.catalogue.variations } }
after_change (PutQuota row) lists = record lists { catalogue = record lists.catalogue { quotas = with_row (λ r. r.id) row lists.catalogue.quotas } }
after_change (PutVoucher row) lists = record lists { vouchers = with_row (λ r. r.id) row lists.vouchers }
after_change (PutCart row) lists = record lists { carts = with_row (λ r. r.id) row lists.carts }
after_change (PutOrder row) lists = record lists { orders = with_row (λ r. r.id) row lists.orders }
after_change (PutPosition row) lists = record lists { positions = with_row (λ r. r.id) row lists.positions }
after_change (PutWaiting row) lists = record lists { waiting = with_row (λ r. r.id) row lists.waiting }
after_change (DropVoucher id) lists = record lists { vouchers = without_row (λ r. r.id) id lists.vouchers }
after_change (DropCart id) lists = record lists { carts = without_row (λ r. r.id) id lists.carts }
after_change (DropWaiting id) lists = record lists { waiting = without_row (λ r. r.id) id lists.waiting }
after_change (PutCheckinList row) lists = record lists { checkin_lists = with_row (λ r. r.id) row lists.checkin_lists }
after_change (PutCheckin row) lists = record lists { checkins = with_row (λ r. r.id) row lists.checkins }

-- the lists after changes, made in order
abbrev pub after_all : List Change → Lists → Lists
after_all [] lists = lists
after_all (change ∷ changes) lists = after_all changes (after_change change lists)

-- changes, with the next ids that stand afterwards
pub record Changed : Type 0 where
  pub list : List Change
  pub next : NextIds

-- the box office with the changes, at a moment
abbrev pub changes_applied : Changed → ℕ → State → State
changes_applied changes moment state = record { lists = after_all changes.list state.lists; next = changes.next; moment = moment }

-- the box office with one more change
abbrev pub change_applied : Change → State → State
change_applied change state = record state { lists = after_change change state.lists }

-- the box office without the cart positions of these ids
abbrev pub without_carts : List ℕ → State → State
without_carts ids state = record state { lists = after_all (map DropCart ids) state.lists }
