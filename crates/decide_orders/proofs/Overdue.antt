-- What is done to one row after another is what is done to all of them at once.
use Rattle.std.proofs.Common.{◌≡◌, ℕ, ◌+◌, ◌<◌, ◌≤◌, Bool, true, false, not, cond, eqb, List, [], ◌∷◌, ◌++◌, map, filter, Option, Some, None, refl, sym, ap, ◌∙◌, subst, arith}
use Rattle.std.specs.Prelude.{if◌then◌else◌, nat_lt}
use Rattle.std.specs.List.{AllByRecursion}
use Rattle.std.proofs.lemmas.Bool.Decides.{nat_tests}
use Rattle.base_tables.specs.Tables.{row_at, with_row, without_row, InOrderFrom, AreInOrder}
use Rattle.model_rows.specs.declared.changes.Change.{Change}
use Rattle.model_rows.specs.declared.changes.Change.TheVariants.{PutOrder, DropCart}
use Rattle.model_rows.specs.declared.rows.CartPos.{CartPos}
use Rattle.model_rows.specs.declared.rows.Order.{Order}
use Rattle.model_rows.specs.Change.{after_all, without_carts}
use Rattle.model_rows.specs.Conditions.{is_live_cart}
use Rattle.model_rows.specs.Lists.{Lists, State}
use Rattle.model_rows.proofs.EachRow.{all_weaker, key-row_at}
use Rattle.model_rows.specs.Due.{is_due, due_orders, dead_carts}
use Rattle.decide_orders.specs.Expired.{expired_row, expired_if_due, orders_expired, expired_changes, carts_dropped}
use Rattle.decide_orders.specs.Steps.{put_expired, expired_in, with_orders, expired_at, each_expired, expiry_of, each_expiry}

-- the ids of some of the rows, which are all from n on
module _ {T : Type 0} (key : T → ℕ) (test : T → Bool) where
  ids_from : (n : ℕ) (rows : List T) → InOrderFrom key n rows → AllByRecursion (λ id. n ≤ id) (map key (filter test rows))
  ids_from n [] h = tt
  ids_from n (r ∷ rs) h = by_test (test r) (all_weaker (λ id. key r + 1 ≤ id) (λ id. n ≤ id) (λ id le. omega (arith, le, h.0)) (map key (filter test rs)) (ids_from (key r + 1) rs h.1))
    where
      by_test : (b : Bool) → AllByRecursion (λ id. n ≤ id) (map key (filter test rs)) → AllByRecursion (λ id. n ≤ id) (map key (cond b (r ∷ filter test rs) (filter test rs)))
      by_test true more = (h.0, more)
      by_test false more = more

-- ORDERS

abbrev each_in : List ℕ → List Order → List Order
each_in [] orders = orders
each_in (id ∷ ids) orders = each_in ids (expired_in id orders)

-- a row before the id stays
found_behind : (r : Order) (id : ℕ) (rs : List Order) → r.id < id → row_at (λ o. o.id) id (r ∷ rs) ≡ row_at (λ o. o.id) id rs
found_behind r id rs lt = grind (arith, nat_tests, lt)

put_behind : (r : Order) (id : ℕ) (rs : List Order) → r.id < id → (found : Option Order) → row_at (λ o. o.id) id rs ≡ found → put_expired (r ∷ rs) found ≡ r ∷ put_expired rs found
put_behind r id rs lt None is = refl
put_behind r id rs lt (Some o) is =
    let own : o.id ≡ id = key-row_at (λ (x : Order). x.id) id rs o is in
    let before : nat_lt r.id o.id ≡ true = grind (arith, nat_tests, lt, own) in
    ap (λ b. if b then r ∷ with_row (λ (x : Order). x.id) (expired_row o) rs else (if eqb r.id o.id then expired_row o ∷ rs else expired_row o ∷ r ∷ rs)) before

behind : (r : Order) (id : ℕ) (rs : List Order) → r.id < id → expired_in id (r ∷ rs) ≡ r ∷ expired_in id rs
behind r id rs lt = ap (put_expired (r ∷ rs)) (found_behind r id rs lt) ∙ put_behind r id rs lt (row_at (λ o. o.id) id rs) refl

each_behind : (r : Order) (ids : List ℕ) (rs : List Order) → AllByRecursion (λ id. r.id < id) ids → each_in ids (r ∷ rs) ≡ r ∷ each_in ids rs
each_behind r [] rs h = refl
each_behind r (id ∷ ids) rs h = ap (each_in ids) (behind r id rs h.0) ∙ each_behind r ids (expired_in id rs) h.1

expiry_behind : (r : Order) (ids : List ℕ) (rs : List Order) → AllByRecursion (λ id. r.id < id) ids → each_expiry ids (r ∷ rs) ≡ each_expiry ids rs
expiry_behind r [] rs h = refl
expiry_behind r (id ∷ ids) rs h =
    let here = ap expiry_of (found_behind r id rs h.0) in
    let rest = ap (each_expiry ids) (behind r id rs h.0) ∙ expiry_behind r ids (expired_in id rs) h.1 in
    λ i. here i ++ rest i

-- the first row
found_first : (r : Order) (rs : List Order) → row_at (λ o. o.id) r.id (r ∷ rs) ≡ Some r
found_first r rs = grind (arith, nat_tests)

put_first : (r : Order) (rs : List Order) → with_row (λ o. o.id) (expired_row r) (r ∷ rs) ≡ expired_row r ∷ rs
put_first r rs = grind (arith, nat_tests)

first_in : (r : Order) (rs : List Order) → expired_in r.id (r ∷ rs) ≡ expired_row r ∷ rs
first_in r rs = ap (put_expired (r ∷ rs)) (found_first r rs) ∙ put_first r rs

module _ (at : ℕ) where
  abbrev due_ids : List Order → List ℕ
  due_ids rows = map (λ o. o.id) (filter (is_due at) rows)

  each_due : (n : ℕ) (rows : List Order) → InOrderFrom (λ o. o.id) n rows → each_in (due_ids rows) rows ≡ map (expired_if_due at) rows
  each_due n [] h = refl
  each_due n (r ∷ rs) h = by_test (is_due at r) (ids_from (λ (o : Order). o.id) (is_due at) (r.id + 1) rs h.1) (each_due (r.id + 1) rs h.1)
    where
      by_test : (b : Bool) → AllByRecursion (λ id. r.id + 1 ≤ id) (due_ids rs) → each_in (due_ids rs) rs ≡ map (expired_if_due at) rs → each_in (map (λ o. o.id) (cond b (r ∷ filter (is_due at) rs) (filter (is_due at) rs))) (r ∷ rs) ≡ (if b then expired_row r else r) ∷ map (expired_if_due at) rs
      by_test true above rest = ap (each_in (due_ids rs)) (first_in r rs) ∙ each_behind (expired_row r) (due_ids rs) rs (all_weaker (λ id. r.id + 1 ≤ id) (λ id. r.id < id) (λ id le. omega (arith, le)) (due_ids rs) above) ∙ ap (λ (l : List Order). expired_row r ∷ l) rest
      by_test false above rest = each_behind r (due_ids rs) rs (all_weaker (λ id. r.id + 1 ≤ id) (λ id. r.id < id) (λ id le. omega (arith, le)) (due_ids rs) above) ∙ ap (λ (l : List Order). r ∷ l) rest

  expiry_due : (n : ℕ) (rows : List Order) → InOrderFrom (λ o. o.id) n rows → each_expiry (due_ids rows) rows ≡ map PutOrder (map expired_row (filter (is_due at) rows))
  expiry_due n [] h = refl
  expiry_due n (r ∷ rs) h = by_test (is_due at r) (ids_from (λ (o : Order). o.id) (is_due at) (r.id + 1) rs h.1) (expiry_due (r.id + 1) rs h.1)
    where
      by_test : (b : Bool) → AllByRecursion (λ id. r.id + 1 ≤ id) (due_ids rs) → each_expiry (due_ids rs) rs ≡ map PutOrder (map expired_row (filter (is_due at) rs)) → each_expiry (map (λ o. o.id) (cond b (r ∷ filter (is_due at) rs) (filter (is_due at) rs))) (r ∷ rs) ≡ map PutOrder (map expired_row (cond b (r ∷ filter (is_due at) rs) (filter (is_due at) rs)))
      by_test true above rest =
          let here = ap expiry_of (found_first r rs) in
          let more = ap (each_expiry (due_ids rs)) (first_in r rs) ∙ expiry_behind (expired_row r) (due_ids rs) rs (all_weaker (λ id. r.id + 1 ≤ id) (λ id. r.id < id) (λ id le. omega (arith, le)) (due_ids rs) above) ∙ rest in
          λ i. here i ++ more i
      by_test false above rest = expiry_behind r (due_ids rs) rs (all_weaker (λ id. r.id + 1 ≤ id) (λ id. r.id < id) (λ id le. omega (arith, le)) (due_ids rs) above) ∙ rest

each_is : (ids : List ℕ) (state : State) → each_expired ids state ≡ with_orders (each_in ids state.lists.orders) state
each_is [] state = refl
each_is (id ∷ ids) state = each_is ids (expired_at id state)

-- expiring one after another the orders that are due
pub expired_at_once : (state : State) → AreInOrder (λ o. o.id) state.lists.orders → each_expired (due_orders state.moment state.lists) state ≡ orders_expired state
unfolding orders_expired
expired_at_once state order = each_is (due_orders state.moment state.lists) state ∙ ap (λ (l : List Order). with_orders l state) (each_due state.moment 0 state.lists.orders order)

pub expiry_at_once : (state : State) → AreInOrder (λ o. o.id) state.lists.orders → each_expiry (due_orders state.moment state.lists) state.lists.orders ≡ expired_changes state
expiry_at_once state order = expiry_due state.moment 0 state.lists.orders order

-- what is changed leads there
expiry_leads : (ids : List ℕ) (state : State) → after_all (each_expiry ids state.lists.orders) state.lists ≡ (each_expired ids state).lists
expiry_leads [] state = refl
expiry_leads (id ∷ ids) state = by_found (expiry_leads ids) (row_at (λ o. o.id) id state.lists.orders)
  where
    by_found : ((s : State) → after_all (each_expiry ids s.lists.orders) s.lists ≡ (each_expired ids s).lists) → (found : Option Order) → after_all (expiry_of found ++ each_expiry ids (put_expired state.lists.orders found)) state.lists ≡ (each_expired ids (with_orders (put_expired state.lists.orders found) state)).lists
    by_found more None = more state
    by_found more (Some order) = more (with_orders (put_expired state.lists.orders (Some order)) state)

pub expiry_leads_there : (state : State) → AreInOrder (λ o. o.id) state.lists.orders → after_all (expired_changes state) state.lists ≡ (orders_expired state).lists
expiry_leads_there state order =
    ap (λ (changes : List Change). after_all changes state.lists) (sym (expiry_at_once state order))
    ∙ expiry_leads (due_orders state.moment state.lists) state
    ∙ ap (λ (s : State). s.lists) (expired_at_once state order)

-- CART POSITIONS

abbrev each_out : List ℕ → List CartPos → List CartPos
each_out [] carts = carts
each_out (id ∷ ids) carts = each_out ids (without_row (λ c. c.id) id carts)

out_behind : (r : CartPos) (id : ℕ) (rs : List CartPos) → r.id < id → without_row (λ c. c.id) id (r ∷ rs) ≡ r ∷ without_row (λ c. c.id) id rs
out_behind r id rs lt = grind (arith, nat_tests, lt)

each_out_behind : (r : CartPos) (ids : List ℕ) (rs : List CartPos) → AllByRecursion (λ id. r.id < id) ids → each_out ids (r ∷ rs) ≡ r ∷ each_out ids rs
each_out_behind r [] rs h = refl
each_out_behind r (id ∷ ids) rs h = ap (each_out ids) (out_behind r id rs h.0) ∙ each_out_behind r ids (without_row (λ c. c.id) id rs) h.1

-- none of the rows behind has the id
out_above : (n id : ℕ) (rows : List CartPos) → id < n → InOrderFrom (λ c. c.id) n rows → without_row (λ c. c.id) id rows ≡ rows
out_above n id [] lt h = refl
out_above n id (r ∷ rs) lt h = grind (arith, nat_tests, h.0, lt, out_above (r.id + 1) id rs (omega (arith, h.0, lt)) h.1)

out_first : (r : CartPos) (rs : List CartPos) → InOrderFrom (λ c. c.id) (r.id + 1) rs → without_row (λ c. c.id) r.id (r ∷ rs) ≡ rs
out_first r rs h = grind (arith, nat_tests, out_above (r.id + 1) r.id rs (omega arith) h)

module _ (at : ℕ) where
  abbrev dead_ids : List CartPos → List ℕ
  dead_ids rows = map (λ c. c.id) (filter (λ c. not (is_live_cart at c)) rows)

  each_dead : (n : ℕ) (rows : List CartPos) → InOrderFrom (λ c. c.id) n rows → each_out (dead_ids rows) rows ≡ filter (is_live_cart at) rows
  each_dead n [] h = refl
  each_dead n (r ∷ rs) h = by_test (is_live_cart at r) (ids_from (λ (c : CartPos). c.id) (λ c. not (is_live_cart at c)) (r.id + 1) rs h.1) (each_dead (r.id + 1) rs h.1)
    where
      by_test : (b : Bool) → AllByRecursion (λ id. r.id + 1 ≤ id) (dead_ids rs) → each_out (dead_ids rs) rs ≡ filter (is_live_cart at) rs → each_out (map (λ c. c.id) (cond (not b) (r ∷ filter (λ c. not (is_live_cart at c)) rs) (filter (λ c. not (is_live_cart at c)) rs))) (r ∷ rs) ≡ cond b (r ∷ filter (is_live_cart at) rs) (filter (is_live_cart at) rs)
      by_test true above rest = each_out_behind r (dead_ids rs) rs (all_weaker (λ id. r.id + 1 ≤ id) (λ id. r.id < id) (λ id le. omega (arith, le)) (dead_ids rs) above) ∙ ap (λ (l : List CartPos). r ∷ l) rest
      by_test false above rest = ap (each_out (dead_ids rs)) (out_first r rs h.1) ∙ rest

without_is : (ids : List ℕ) (state : State) → without_carts ids state ≡ record state { lists = record state.lists { carts = each_out ids state.lists.carts } }
without_is [] state = refl
without_is (id ∷ ids) state = without_is ids (record state { lists = record state.lists { carts = without_row (λ c. c.id) id state.lists.carts } })

-- deleting one after another the cart positions that are dead
pub dropped_at_once : (state : State) → AreInOrder (λ c. c.id) state.lists.carts → without_carts (dead_carts state.moment state.lists) state ≡ carts_dropped state
unfolding carts_dropped
dropped_at_once state order = without_is (dead_carts state.moment state.lists) state ∙ ap (λ (l : List CartPos). record state { lists = record state.lists { carts = l } }) (each_dead state.moment 0 state.lists.carts order)
