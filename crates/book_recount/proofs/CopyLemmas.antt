-- A copy of the rows that count has the same counts, and so it has after the same changes.
use Rattle.std.proofs.Common.{◌≡◌, ℕ, ◌+◌, ◌<◌, ◌≤◌, List, [], ◌∷◌, ◌++◌, map, refl, sym, ap, ◌∙◌, arith, append-nil, append_assoc}
use Rattle.std.specs.List.{AllByRecursion}
use Rattle.std.proofs.lemmas.Bool.Decides.{nat_tests}
use Rattle.base_tables.specs.Tables.{with_row, InOrderFrom, AreInOrder}
use Rattle.model_catalogue.specs.declared.rows.Quota.{Quota}
use Rattle.model_rows.specs.declared.changes.Change.{Change}
use Rattle.model_rows.specs.declared.changes.Change.TheVariants.{PutItem, PutVariation, PutQuota, PutVoucher, PutCart, PutOrder, PutPosition, PutWaiting, DropVoucher, DropCart, DropWaiting, PutCheckinList, PutCheckin}
use Rattle.model_rows.specs.declared.rows.CartPos.{CartPos}
use Rattle.model_rows.specs.declared.rows.Checkin.{Checkin}
use Rattle.model_rows.specs.declared.rows.NextIds.{NextIds}
use Rattle.model_rows.specs.declared.rows.Order.{Order}
use Rattle.model_rows.specs.declared.rows.OrderPos.{OrderPos}
use Rattle.model_rows.specs.declared.rows.Voucher.{Voucher}
use Rattle.model_rows.specs.declared.rows.Waiting.{Waiting as Entry}
use Rattle.model_rows.specs.Change.{Changed, after_change, after_all, changes_applied}
use Rattle.model_rows.specs.CountRows.{CountRows, counts_after}
use Rattle.model_rows.specs.Kept.{IsKept}
use Rattle.model_rows.specs.Lists.{Lists, State, no_rows, empty}
use Rattle.model_rows.specs.Usage.{usage_of, blocked_by}
use Rattle.book_recount.specs.Copied.{counted_rows, puts_of}

-- ---- rows in order that are put one after another are the list that they are

abbrev all_put : {T : Type 0} → (T → ℕ) → List T → List T → List T
all_put key [] rows = rows
all_put key (r ∷ rs) rows = all_put key rs (with_row key r rows)

module _ {T : Type 0} (key : T → ℕ) where
  at_end : (row : T) (rows : List T) → AllByRecursion (λ r. key r < key row) rows → with_row key row rows ≡ rows ++ row ∷ []
  at_end row [] h = refl
  at_end row (r ∷ rs) h = grind (arith, nat_tests, h.0, at_end row rs h.1)

  lower : (n m : ℕ) (rows : List T) → n ≤ m → AllByRecursion (λ r. key r < n) rows → AllByRecursion (λ r. key r < m) rows
  lower n m [] le h = tt
  lower n m (r ∷ rs) le h = (omega (arith, h.0, le), lower n m rs le h.1)

  one_more : (n : ℕ) (row : T) (rows : List T) → key row < n → AllByRecursion (λ r. key r < n) rows → AllByRecursion (λ r. key r < n) (rows ++ row ∷ [])
  one_more n row [] lt h = (lt, tt)
  one_more n row (r ∷ rs) lt h = (h.0, one_more n row rs lt h.1)

  put_behind : (n : ℕ) (rows before : List T) → InOrderFrom key n rows → AllByRecursion (λ r. key r < n) before → all_put key rows before ≡ before ++ rows
  put_behind n [] before h low = sym (append-nil before)
  put_behind n (r ∷ rs) before h low =
      ap (all_put key rs) (at_end r before (lower n (key r) before h.0 low))
      ∙ put_behind (key r + 1) rs (before ++ r ∷ []) h.1 (one_more (key r + 1) r before (omega arith) (lower n (key r + 1) before (omega (arith, h.0)) low))
      ∙ append_assoc before (r ∷ []) rs

  filled : (rows : List T) → AreInOrder key rows → all_put key rows [] ≡ rows
  filled rows h = put_behind 0 rows [] h tt

-- ---- table by table

quotas_put : (rows : List Quota) (l : Lists) → after_all (map (λ r. PutQuota r) rows) l ≡ record l { catalogue = record l.catalogue { quotas = all_put (λ r. r.id) rows l.catalogue.quotas } }
quotas_put [] l = refl
quotas_put (r ∷ rs) l = quotas_put rs (after_change (PutQuota r) l)

vouchers_put : (rows : List Voucher) (l : Lists) → after_all (map (λ r. PutVoucher r) rows) l ≡ record l { vouchers = all_put (λ r. r.id) rows l.vouchers }
vouchers_put [] l = refl
vouchers_put (r ∷ rs) l = vouchers_put rs (after_change (PutVoucher r) l)

orders_put : (rows : List Order) (l : Lists) → after_all (map (λ r. PutOrder r) rows) l ≡ record l { orders = all_put (λ r. r.id) rows l.orders }
orders_put [] l = refl
orders_put (r ∷ rs) l = orders_put rs (after_change (PutOrder r) l)

positions_put : (rows : List OrderPos) (l : Lists) → after_all (map (λ r. PutPosition r) rows) l ≡ record l { positions = all_put (λ r. r.id) rows l.positions }
positions_put [] l = refl
positions_put (r ∷ rs) l = positions_put rs (after_change (PutPosition r) l)

carts_put : (rows : List CartPos) (l : Lists) → after_all (map (λ r. PutCart r) rows) l ≡ record l { carts = all_put (λ r. r.id) rows l.carts }
carts_put [] l = refl
carts_put (r ∷ rs) l = carts_put rs (after_change (PutCart r) l)

waiting_put : (rows : List Entry) (l : Lists) → after_all (map (λ r. PutWaiting r) rows) l ≡ record l { waiting = all_put (λ r. r.id) rows l.waiting }
waiting_put [] l = refl
waiting_put (r ∷ rs) l = waiting_put rs (after_change (PutWaiting r) l)

checkins_put : (rows : List Checkin) (l : Lists) → after_all (map (λ r. PutCheckin r) rows) l ≡ record l { checkins = all_put (λ r. r.id) rows l.checkins }
checkins_put [] l = refl
checkins_put (r ∷ rs) l = checkins_put rs (after_change (PutCheckin r) l)

-- one list of changes behind another
both_put : (xs ys : List Change) (a b c : Lists) → after_all xs a ≡ b → after_all ys b ≡ c → after_all (xs ++ ys) a ≡ c
both_put [] ys a b c first then = ap (after_all ys) first ∙ then
both_put (x ∷ xs) ys a b c first then = both_put xs ys (after_change x a) b c first then

module _ (lists : Lists) (n : ℕ) (kept : IsKept n lists) (quotas : AreInOrder (λ r. r.id) lists.catalogue.quotas) where
  abbrev with_quotas : Lists
  with_quotas = record no_rows { catalogue = record { items = []; variations = []; quotas = lists.catalogue.quotas } }

  abbrev with_vouchers : Lists
  with_vouchers = record with_quotas { vouchers = lists.vouchers }

  abbrev with_orders : Lists
  with_orders = record with_vouchers { orders = lists.orders }

  abbrev with_positions : Lists
  with_positions = record with_orders { positions = lists.positions }

  abbrev with_carts : Lists
  with_carts = record with_positions { carts = lists.carts }

  abbrev with_waiting : Lists
  with_waiting = record with_carts { waiting = lists.waiting }

  pub copied : after_all (puts_of lists) no_rows ≡ counted_rows lists
  copied =
      let a = quotas_put lists.catalogue.quotas no_rows ∙ ap (λ (l : List Quota). record no_rows { catalogue = record { items = []; variations = []; quotas = l } }) (filled (λ (r : Quota). r.id) lists.catalogue.quotas quotas) in
      let b = vouchers_put lists.vouchers with_quotas ∙ ap (λ (l : List Voucher). record with_quotas { vouchers = l }) (filled (λ (r : Voucher). r.id) lists.vouchers kept.vouchers.in_order) in
      let c = orders_put lists.orders with_vouchers ∙ ap (λ (l : List Order). record with_vouchers { orders = l }) (filled (λ (r : Order). r.id) lists.orders kept.orders.in_order) in
      let d = positions_put lists.positions with_orders ∙ ap (λ (l : List OrderPos). record with_orders { positions = l }) (filled (λ (r : OrderPos). r.id) lists.positions kept.positions.in_order) in
      let e = carts_put lists.carts with_positions ∙ ap (λ (l : List CartPos). record with_positions { carts = l }) (filled (λ (r : CartPos). r.id) lists.carts kept.carts.in_order) in
      let f = waiting_put lists.waiting with_carts ∙ ap (λ (l : List Entry). record with_carts { waiting = l }) (filled (λ (r : Entry). r.id) lists.waiting kept.waiting.in_order) in
      let g = checkins_put lists.checkins with_waiting ∙ ap (λ (l : List Checkin). record with_waiting { checkins = l }) (filled (λ (r : Checkin). r.id) lists.checkins kept.checkins.in_order) in
      let q : List Change = map (λ r. PutQuota r) lists.catalogue.quotas in
      let v : List Change = map (λ r. PutVoucher r) lists.vouchers in
      let o : List Change = map (λ r. PutOrder r) lists.orders in
      let p : List Change = map (λ r. PutPosition r) lists.positions in
      let k : List Change = map (λ r. PutCart r) lists.carts in
      let w : List Change = map (λ r. PutWaiting r) lists.waiting in
      let i : List Change = map (λ r. PutCheckin r) lists.checkins in
      let two = both_put q v no_rows with_quotas with_vouchers a b in
      let three = both_put (q ++ v) o no_rows with_vouchers with_orders two c in
      let four = both_put (q ++ v ++ o) p no_rows with_orders with_positions three d in
      let five = both_put (q ++ v ++ o ++ p) k no_rows with_positions with_carts four e in
      let six = both_put (q ++ v ++ o ++ p ++ k) w no_rows with_carts with_waiting five f in
      both_put (q ++ v ++ o ++ p ++ k ++ w) i no_rows with_waiting (counted_rows lists) six g

  -- a book that was empty, with these changes
  pub copy_is : (list : List Change) (changes : Changed) (at : ℕ) (old new : State) → list ≡ puts_of lists → changes.list ≡ list → old ≡ empty → new ≡ changes_applied changes at old → new.lists ≡ counted_rows lists
  copy_is list changes at old new list_is changes_is old_is new_is =
      ap (λ (s : State). s.lists) new_is ∙ ap (λ (s : State). after_all changes.list s.lists) old_is ∙ ap (λ (l : List Change). after_all l no_rows) (changes_is ∙ list_is) ∙ copied

-- ---- the same changes

one_change : (change : Change) (lists : Lists) → counted_rows (after_change change (counted_rows lists)) ≡ counted_rows (after_change change lists)
one_change (PutItem row) lists = refl
one_change (PutVariation row) lists = refl
one_change (PutQuota row) lists = refl
one_change (PutVoucher row) lists = refl
one_change (PutCart row) lists = refl
one_change (PutOrder row) lists = refl
one_change (PutPosition row) lists = refl
one_change (PutWaiting row) lists = refl
one_change (DropVoucher id) lists = refl
one_change (DropCart id) lists = refl
one_change (DropWaiting id) lists = refl
one_change (PutCheckinList row) lists = refl
one_change (PutCheckin row) lists = refl

all_changes : (changes : List Change) (a b : Lists) → counted_rows a ≡ counted_rows b → counted_rows (after_all changes a) ≡ counted_rows (after_all changes b)
all_changes [] a b same = same
all_changes (c ∷ cs) a b same = all_changes cs (after_change c a) (after_change c b) (sym (one_change c a) ∙ ap (λ (l : Lists). counted_rows (after_change c l)) same ∙ one_change c b)

-- what is told of an office reads no other rows
by_counted : (before : State) (lists : Lists) (next : NextIds) (at : ℕ) → counts_after before (record { lists = lists; next = next; moment = at }) ≡ counts_after before (record { lists = counted_rows lists; next = next; moment = at })
unfolding usage_of blocked_by
by_counted before lists next at = refl

pub told_by_copy : (before : State) (copy : Lists) (changes : List Change) (next : NextIds) (at : ℕ) → copy ≡ counted_rows before.lists → counts_after before (record { lists = after_all changes copy; next = next; moment = at }) ≡ counts_after before (record { lists = after_all changes before.lists; next = next; moment = at })
told_by_copy before copy changes next at is =
    by_counted before (after_all changes copy) next at
    ∙ ap (λ (l : Lists). counts_after before (record { lists = l; next = next; moment = at })) (all_changes changes copy before.lists (ap counted_rows is))
    ∙ sym (by_counted before (after_all changes before.lists) next at)

-- what is told of a copy after changes
pub told_after : (before copy old new : State) (rows : CountRows) (changes : Changed) (at : ℕ) → rows ≡ counts_after before new → new ≡ changes_applied changes at old → old ≡ copy → copy.lists ≡ counted_rows before.lists → rows ≡ counts_after before (changes_applied changes at before)
told_after before copy old new rows changes at rows_are new_is old_is copy_is =
    rows_are ∙ ap (counts_after before) (new_is ∙ ap (changes_applied changes at) old_is) ∙ told_by_copy before copy.lists changes.list changes.next at copy_is
