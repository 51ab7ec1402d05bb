-- A change keeps the rows of a file those of the box office.
use Rattle.std.proofs.Common.{◌≡◌, ℕ, ◌==◌, nat_lt, Bool, true, false, cond, not, List, [], ◌∷◌, ◌++◌, map, filter, Some, None, is_some, refl, sym, ap, subst, ◌∙◌}
use Rattle.std.specs.List.{AllByRecursion}
use Rattle.std.specs.List.Sorted.{IsPermutation}
use Rattle.std.proofs.lemmas.List.Sorted.{IsPermutation-trans, IsPermutation-cons, IsPermutation-map}
use Rattle.sqlite_trees.proofs.ListLemmas.{IsPermutation-filter, filter-map}
use Rattle.base_tables.specs.Tables.{row_at, with_row, without_row, AreInOrder}
use Rattle.model_rows.specs.declared.changes.Change.{Change}
use Rattle.model_rows.specs.declared.changes.Change.TheVariants.{PutItem, PutVariation, PutQuota, PutVoucher, PutCart, PutOrder, PutPosition, PutWaiting, DropVoucher, DropCart, DropWaiting, PutCheckinList, PutCheckin}
use Rattle.model_rows.specs.Change.{after_change}
use Rattle.model_rows.specs.Lists.{Lists}
use Rattle.model_rows.specs.declared.rows.OrderPos.{OrderPos}
use Rattle.file_rows.specs.declared.rows.PositionRow.{PositionRow}
use Rattle.model_invariant.proofs.EachTable as Each
use Rattle.file_rows.specs.Changes.{head_of_quota, head_of_voucher, head_of_position, head_of_list}
use Rattle.file_meaning.specs.Links.{Link, links, all_links, links_but}
use Rattle.file_meaning.specs.Rows.{OfficeRows, releases_of, budgets_of, discounts_of}
use Rattle.file_meaning.specs.RowsAfter.{put_row, rows_after}
use Rattle.file_meaning.specs.Stands.{AreRowsOf, AreOrdered, MembersRise, ItemsRise, IsRising}
use Rattle.file_meaning.proofs.Order.{put_in, put_stays, drop_stays}
use Rattle.file_meaning.proofs.Counting.{found_part, same_found_in, none_of}
use Rattle.file_meaning.proofs.Links.{links_put, links_added, links_dropped}
use Rattle.file_meaning.proofs.Told.{order_of_parts}
use Rattle.file_meaning.proofs.EachRow.{set_items, set_variations, set_quotas, set_quota_items, set_quota_variations, set_quota_release, set_vouchers, set_voucher_budget, set_carts, set_orders, set_positions, set_position_discount, set_waiting, set_checkin_lists, set_list_items, set_checkins}

-- a table with a row that is put, and the list with it
pub row_put : {T : Type 0} (key : T → ℕ) (row : T) (xs ys : List T) → AreInOrder key ys → IsPermutation xs ys → IsPermutation (put_row key row xs) (with_row key row ys)
row_put key row xs ys h same =
    IsPermutation-trans _ _ _ (IsPermutation-cons row _ _ (IsPermutation-filter (λ r. not (key r == key row)) xs ys same)) (put_in key 0 row ys h)

pub row_dropped : {T : Type 0} (key : T → ℕ) (id : ℕ) (xs ys : List T) → IsPermutation xs ys → IsPermutation (without_row key id xs) (without_row key id ys)
row_dropped key id xs ys same = IsPermutation-filter (λ r. not (key r == id)) xs ys same

-- the same where the table has a part of each row
same_tests : {T U : Type 0} (key : T → ℕ) (part : T → U) (of : U → ℕ) → ((r : T) → of (part r) ≡ key r) → (row : T) (ys : List T) → filter (λ x. not (of (part x) == of (part row))) ys ≡ without_row key (key row) ys
same_tests key part of is row [] = refl
same_tests key part of is row (y ∷ ys) = rw (is y, is row, same_tests key part of is row ys)

pub part_put : {T U : Type 0} (key : T → ℕ) (part : T → U) (of : U → ℕ) → ((r : T) → of (part r) ≡ key r) → (row : T) (xs : List U) (ys : List T) → AreInOrder key ys → IsPermutation xs (map part ys)
    → IsPermutation (put_row of (part row) xs) (map part (with_row key row ys))
part_put key part of is row xs ys h same =
    let others : IsPermutation (without_row of (of (part row)) xs) (map part (without_row key (key row) ys)) =
    subst (IsPermutation (without_row of (of (part row)) xs)) (filter-map (λ u. not (of u == of (part row))) part ys ∙ ap (λ l. map part l) (same_tests key part of is row ys)) (IsPermutation-filter (λ u. not (of u == of (part row))) xs (map part ys) same) in
    IsPermutation-trans _ _ _ (IsPermutation-cons (part row) _ _ others) (IsPermutation-map part (row ∷ without_row key (key row) ys) (with_row key row ys) (put_in key 0 row ys h))

none_tests : {T U : Type 0} (key : T → ℕ) (part : T → U) (of : U → ℕ) → ((r : T) → of (part r) ≡ key r) → (id : ℕ) (ys : List T) → filter (λ x. not (of (part x) == id)) ys ≡ without_row key id ys
none_tests key part of is id [] = refl
none_tests key part of is id (y ∷ ys) = rw (is y, none_tests key part of is id ys)

pub part_dropped : {T U : Type 0} (key : T → ℕ) (part : T → U) (of : U → ℕ) → ((r : T) → of (part r) ≡ key r) → (id : ℕ) (xs : List U) (ys : List T) → IsPermutation xs (map part ys) → IsPermutation (without_row of id xs) (map part (without_row key id ys))
part_dropped key part of is id xs ys same =
    subst (IsPermutation (without_row of id xs)) (filter-map (λ u. not (of u == id)) part ys ∙ ap (λ l. map part l) (none_tests key part of is id ys)) (IsPermutation-filter (λ u. not (of u == id)) xs (map part ys) same)

-- where no row of an id stands, none goes with it
none_goes : {T : Type 0} (key : T → ℕ) (id : ℕ) (rows : List T) → row_at key id rows ≡ None → without_row key id rows ≡ rows
none_goes key id [] none = refl
none_goes key id (r ∷ rows) none =
    elim (key r == id) as (λ b. cond b (Some r) (row_at key id rows) ≡ None → cond (not b) (r ∷ without_row key id rows) (without_row key id rows) ≡ r ∷ rows) [
      | true ↦ λ e. absurd cc
      | false ↦ λ e. ap (λ l. r ∷ l) (none_goes key id rows e)
    ] none

-- an order position that is put has its discount in the place of that of the one that stood
discounts_put : (row : OrderPos) (positions : List OrderPos) (rows : List PositionRow) (ls : List Link) → AreInOrder (λ p. p.id) positions → IsPermutation rows (map head_of_position positions)
    → IsPermutation ls (all_links (λ p. p.id) discounts_of positions) → (stands : Bool) → is_some (row_at (λ r. r.id) row.id rows) ≡ stands
    → IsPermutation (links (λ p. p.id) discounts_of row ++ cond stands (links_but row.id ls) ls) (all_links (λ p. p.id) discounts_of (with_row (λ p. p.id) row positions))
discounts_put row positions rows ls o heads same true is = links_put (λ p. p.id) discounts_of row positions ls o same
discounts_put row positions rows ls o heads same false is =
    let found = same_found_in (λ (r : PositionRow). r.id) row.id rows (map head_of_position positions) (order_of_parts (λ (p : OrderPos). p.id) head_of_position (λ r. r.id) (λ p. refl) 0 positions o) heads in
    let none : is_some (row_at (λ (p : OrderPos). p.id) row.id positions) ≡ false = sym (found_part (λ (p : OrderPos). p.id) head_of_position (λ r. r.id) (λ p. refl) row.id positions) ∙ ap is_some (sym found) ∙ is in
    links_added (λ p. p.id) discounts_of row positions ls o (none_goes (λ p. p.id) row.id positions (none_of _ none)) same

pub kept_rows : (change : Change) (lists : Lists) (rows : OfficeRows) → AreOrdered lists → AreRowsOf lists rows → AreRowsOf (after_change change lists) (rows_after change rows)
kept_rows (PutItem row) lists rows o h = set_items h (row_put (λ r. r.id) row rows.items lists.catalogue.items o.ids.items h.items)
kept_rows (PutVariation row) lists rows o h = set_variations h (row_put (λ r. r.id) row rows.variations lists.catalogue.variations o.ids.variations h.variations)
kept_rows (PutQuota row) lists rows o h =
    set_quotas
    (set_quota_items
    (set_quota_variations
    (set_quota_release h (links_put (λ q. q.id) releases_of row lists.catalogue.quotas rows.quota_release o.ids.quotas h.quota_release))
    (links_put (λ q. q.id) (λ q. q.variations) row lists.catalogue.quotas rows.quota_variations o.ids.quotas h.quota_variations))
    (links_put (λ q. q.id) (λ q. q.items) row lists.catalogue.quotas rows.quota_items o.ids.quotas h.quota_items))
    (part_put (λ r. r.id) head_of_quota (λ r. r.id) (λ r. refl) row rows.quotas lists.catalogue.quotas o.ids.quotas h.quotas)
kept_rows (PutVoucher row) lists rows o h =
    set_vouchers
    (set_voucher_budget h (links_put (λ v. v.id) budgets_of row lists.vouchers rows.voucher_budget o.ids.vouchers h.voucher_budget))
    (part_put (λ r. r.id) head_of_voucher (λ r. r.id) (λ r. refl) row rows.vouchers lists.vouchers o.ids.vouchers h.vouchers)
kept_rows (PutCart row) lists rows o h = set_carts h (row_put (λ r. r.id) row rows.carts lists.carts o.ids.carts h.carts)
kept_rows (PutOrder row) lists rows o h = set_orders h (row_put (λ r. r.id) row rows.orders lists.orders o.ids.orders h.orders)
kept_rows (PutPosition row) lists rows o h =
    set_positions
    (set_position_discount h (discounts_put row lists.positions rows.positions rows.position_discount o.ids.positions h.positions h.position_discount (is_some (row_at (λ r. r.id) row.id rows.positions)) refl))
    (part_put (λ r. r.id) head_of_position (λ r. r.id) (λ r. refl) row rows.positions lists.positions o.ids.positions h.positions)
kept_rows (PutWaiting row) lists rows o h = set_waiting h (row_put (λ r. r.id) row rows.waiting lists.waiting o.ids.waiting h.waiting)
kept_rows (DropVoucher id) lists rows o h =
    set_vouchers
    (set_voucher_budget h (links_dropped (λ v. v.id) budgets_of id lists.vouchers rows.voucher_budget h.voucher_budget))
    (part_dropped (λ r. r.id) head_of_voucher (λ r. r.id) (λ r. refl) id rows.vouchers lists.vouchers h.vouchers)
kept_rows (DropCart id) lists rows o h = set_carts h (row_dropped (λ r. r.id) id rows.carts lists.carts h.carts)
kept_rows (DropWaiting id) lists rows o h = set_waiting h (row_dropped (λ r. r.id) id rows.waiting lists.waiting h.waiting)
kept_rows (PutCheckinList row) lists rows o h =
    set_checkin_lists
    (set_list_items h (links_put (λ l. l.id) (λ l. l.limit_products) row lists.checkin_lists rows.list_items o.ids.checkin_lists h.list_items))
    (part_put (λ r. r.id) head_of_list (λ r. r.id) (λ r. refl) row rows.checkin_lists lists.checkin_lists o.ids.checkin_lists h.checkin_lists)
kept_rows (PutCheckin row) lists rows o h = set_checkins h (row_put (λ r. r.id) row rows.checkins lists.checkins o.ids.checkins h.checkins)

-- ---- the order of ids

pub put_all : {T : Type 0} (P : T → Type 0) (key : T → ℕ) (row : T) (rows : List T) → P row → AllByRecursion P rows → AllByRecursion P (with_row key row rows)
put_all P key row [] p h = (p, tt)
put_all P key row (r ∷ rows) p h =
    elim (nat_lt (key r) (key row)) as (λ b. AllByRecursion P (cond b (r ∷ with_row key row rows) (cond (key r == key row) (row ∷ rows) (row ∷ r ∷ rows)))) [
      | true ↦ (h.0, put_all P key row rows p h.1)
      | false ↦ elim (key r == key row) as (λ b. AllByRecursion P (cond b (row ∷ rows) (row ∷ r ∷ rows))) [
        | true ↦ (p, h.1)
        | false ↦ (p, h)
      ]
    ]

pub kept_order : (change : Change) (lists : Lists) → IsRising change → AreOrdered lists → AreOrdered (after_change change lists)
kept_order (PutItem row) lists r o = record { ids = Each.set_items o.ids (put_stays (λ r. r.id) row lists.catalogue.items o.ids.items); members = o.members; limits = o.limits }
kept_order (PutVariation row) lists r o = record { ids = Each.set_variations o.ids (put_stays (λ r. r.id) row lists.catalogue.variations o.ids.variations); members = o.members; limits = o.limits }
kept_order (PutQuota row) lists r o = record {
  ids = Each.set_quotas o.ids (put_stays (λ r. r.id) row lists.catalogue.quotas o.ids.quotas);
  members = put_all MembersRise (λ r. r.id) row lists.catalogue.quotas r o.members;
  limits = o.limits;
}
kept_order (PutVoucher row) lists r o = record { ids = Each.set_vouchers o.ids (put_stays (λ r. r.id) row lists.vouchers o.ids.vouchers); members = o.members; limits = o.limits }
kept_order (PutCart row) lists r o = record { ids = Each.set_carts o.ids (put_stays (λ r. r.id) row lists.carts o.ids.carts); members = o.members; limits = o.limits }
kept_order (PutOrder row) lists r o = record { ids = Each.set_orders o.ids (put_stays (λ r. r.id) row lists.orders o.ids.orders); members = o.members; limits = o.limits }
kept_order (PutPosition row) lists r o = record { ids = Each.set_positions o.ids (put_stays (λ r. r.id) row lists.positions o.ids.positions); members = o.members; limits = o.limits }
kept_order (PutWaiting row) lists r o = record { ids = Each.set_waiting o.ids (put_stays (λ r. r.id) row lists.waiting o.ids.waiting); members = o.members; limits = o.limits }
kept_order (DropVoucher id) lists r o = record { ids = Each.set_vouchers o.ids (drop_stays (λ r. r.id) id lists.vouchers o.ids.vouchers); members = o.members; limits = o.limits }
kept_order (DropCart id) lists r o = record { ids = Each.set_carts o.ids (drop_stays (λ r. r.id) id lists.carts o.ids.carts); members = o.members; limits = o.limits }
kept_order (DropWaiting id) lists r o = record { ids = Each.set_waiting o.ids (drop_stays (λ r. r.id) id lists.waiting o.ids.waiting); members = o.members; limits = o.limits }
kept_order (PutCheckinList row) lists r o = record {
  ids = Each.set_checkin_lists o.ids (put_stays (λ r. r.id) row lists.checkin_lists o.ids.checkin_lists);
  members = o.members;
  limits = put_all ItemsRise (λ r. r.id) row lists.checkin_lists r o.limits;
}
kept_order (PutCheckin row) lists r o = record { ids = Each.set_checkins o.ids (put_stays (λ r. r.id) row lists.checkins o.ids.checkins); members = o.members; limits = o.limits }
