-- What keeps the door's tables: a list of items that stand, a check-in with a new nonce, and each other change.
use Rattle.std.proofs.Common.{◌≡◌, ℕ, ◌<◌, Bool, true, false, eqb, List, [], ◌∷◌, Option, Some, refl, ap, ◌∙◌, subst, sym, arith}
use Rattle.std.specs.Prelude.{is_some, if◌then◌else◌}
use Rattle.std.specs.List.{list_any, AllByRecursion}
use Rattle.base_tables.specs.Tables.{row_at, with_row}
use Rattle.base_tables.proofs.Edits.{row_at-with_row}
use Rattle.model_catalogue.specs.declared.rows.Item.{Item}
use Rattle.model_rows.specs.declared.rows.OrderPos.{OrderPos}
use Rattle.model_rows.specs.declared.rows.CheckinList.{CheckinList}
use Rattle.model_rows.specs.declared.rows.Checkin.{Checkin}
use Rattle.model_rows.specs.declared.changes.Change.TheVariants.{PutItem, PutPosition, PutCheckinList, PutCheckin}
use Rattle.model_rows.specs.Lists.{Lists, State, no_rows}
use Rattle.model_rows.specs.Change.{after_change}
use Rattle.model_rows.specs.Numbered.{with_checkin}
use Rattle.model_rows.proofs.EachRow.{all_weaker, all-with_row, with_row_cases, neither_first, neither_second}
use Rattle.model_invariant.specs.Checkins.{has_item, HasItems, IsCheckedIn, repeats, AreOnce, IsDoorOf}
use Rattle.model_invariant.specs.Shown.{is_repeated}

-- what stood stands where a row is put
still_stands : {T : Type 0} (key : T → ℕ) (row : T) (id : ℕ) (rows : List T) → is_some (row_at key id rows) ≡ true → is_some (row_at key id (with_row key row rows)) ≡ true
still_stands {T} key row id rows h = ap (λ (o : Option T). is_some o) (row_at-with_row key id row rows) ∙ by_id (eqb (key row) id) (row_at key id rows) h
  where
    by_id : (b : Bool) (found : Option T) → is_some found ≡ true → is_some (if b then Some row else found) ≡ true
    by_id true found e = refl
    by_id false found e = e

-- with a check-in behind all others, whose nonce is new
pub once_put : (row : Checkin) (rows : List Checkin) → AllByRecursion (λ c. c.id < row.id) rows → is_repeated row rows ≡ false → AreOnce rows → AreOnce (with_row (λ r. r.id) row rows)
once_put row [] below new h = (tt, tt)
once_put row (c ∷ cs) below new h =
    let more = once_put row cs below.1 (neither_second (repeats c row) (list_any (λ d. repeats d row) cs) new) h.1 in
    with_row_cases (λ r. r.id) AreOnce row c cs
    (λ lt. (all-with_row (λ r. r.id) (λ d. repeats c d ≡ false) row cs (neither_first (repeats c row) (list_any (λ d. repeats d row) cs) new) h.0, more))
    (λ e. absurd (omega (arith, below.0, e)))
    (λ lt. absurd (omega (arith, below.0, lt)))

-- a shop without rows has a door
pub door_none : IsDoorOf no_rows
door_none = record { limited = tt; checked = tt; nonces = tt }

module _ (lists : Lists) (h : IsDoorOf lists) where
  -- an item that is put, new or changed
  pub door_put_item : (row : Item) → IsDoorOf (after_change (PutItem row) lists)
  door_put_item row = record {
    limited = all_weaker (HasItems lists.catalogue.items) (HasItems (after_change (PutItem row) lists).catalogue.items) (λ l has. record {
      rise = has.rise;
      stand = all_weaker (λ id. has_item lists.catalogue.items id ≡ true) (λ id. has_item (after_change (PutItem row) lists).catalogue.items id ≡ true) (λ id e. still_stands (λ (r : Item). r.id) row id lists.catalogue.items e) l.limit_products has.stand;
    }) lists.checkin_lists h.limited;
    checked = h.checked;
    nonces = h.nonces;
  }

  -- an order position that is put
  pub door_put_position : (row : OrderPos) → IsDoorOf (after_change (PutPosition row) lists)
  door_put_position row = record {
    limited = h.limited;
    checked = all_weaker (IsCheckedIn lists.checkin_lists lists.positions) (IsCheckedIn lists.checkin_lists (after_change (PutPosition row) lists).positions) (λ c is. record {
      list = is.list;
      position = still_stands (λ (r : OrderPos). r.id) row c.position lists.positions is.position;
    }) lists.checkins h.checked;
    nonces = h.nonces;
  }

  -- a list whose items rise and stand
  pub door_put_list : (row : CheckinList) → HasItems lists.catalogue.items row → IsDoorOf (after_change (PutCheckinList row) lists)
  door_put_list row has = record {
    limited = all-with_row (λ r. r.id) (HasItems lists.catalogue.items) row lists.checkin_lists has h.limited;
    checked = all_weaker (IsCheckedIn lists.checkin_lists lists.positions) (IsCheckedIn (after_change (PutCheckinList row) lists).checkin_lists lists.positions) (λ c is. record {
      list = still_stands (λ (r : CheckinList). r.id) row c.list lists.checkin_lists is.list;
      position = is.position;
    }) lists.checkins h.checked;
    nonces = h.nonces;
  }

  -- a check-in of a position by a list that stand, behind all others and with a new nonce, or none
  pub door_put_checkin : (row : Checkin) → AllByRecursion (λ c. c.id < row.id) lists.checkins → IsCheckedIn lists.checkin_lists lists.positions row → is_repeated row lists.checkins ≡ false → IsDoorOf (after_change (PutCheckin row) lists)
  door_put_checkin row below is new = record {
    limited = h.limited;
    checked = all-with_row (λ r. r.id) (IsCheckedIn lists.checkin_lists lists.positions) row lists.checkins is h.checked;
    nonces = once_put row lists.checkins below new h.nonces;
  }

-- a new check-in, which gets the next id; that ids stay numbered is `numbered_put`, for these tables as for any
pub door_new_checkin : (state : State) (row : Checkin) → row.id ≡ state.next.checkin → AllByRecursion (λ c. c.id < state.next.checkin) state.lists.checkins → IsCheckedIn state.lists.checkin_lists state.lists.positions row → is_repeated row state.lists.checkins ≡ false → IsDoorOf state.lists → IsDoorOf (with_checkin row state).lists
door_new_checkin state row e below is new h = door_put_checkin state.lists h row (subst (λ (n : ℕ). AllByRecursion (λ c. c.id < n) state.lists.checkins) (sym e) below) is new
