-- What is spent of vouchers' budgets as rows change, and what keeps within budgets: rows that are tested, and positions that are priced in turn.
use Rattle.std.proofs.Common.{◌≡◌, ℕ, ◌+◌, ◌-◌, ◌≤◌, Bool, true, false, ◌&&◌, eqb, cond, List, [], ◌∷◌, ◌++◌, map, Option, Some, None, refl, sym, ap, ◌∙◌, subst, sum_by, arith}
use Rattle.std.specs.Prelude.{◌||◌, if◌then◌else◌, filter, is_some, IfSome}
use Rattle.std.specs.List.{AllByRecursion, list_any, list_all}
use Rattle.std.proofs.lemmas.Bool.Decides.{nat_tests}
use Rattle.std.proofs.lemmas.List.Sums.{sum_by-append, sum_by-cons, sum_by-le-sum_by}
use Rattle.base_tables.specs.Tables.{row_at, AreInOrder, sum_at}
use Rattle.base_tables.proofs.Edits.{row_at-with_row, sum_by-with_row}
use Rattle.base_tables.proofs.Places.{with_row_in_order}
use Rattle.model_rows.specs.declared.rows.Order.{Order}
use Rattle.model_rows.specs.declared.rows.OrderPos.{OrderPos}
use Rattle.model_rows.specs.declared.rows.Voucher.{Voucher}
use Rattle.model_rows.specs.declared.changes.Change.TheVariants.{PutOrder, PutPosition, DropCart}
use Rattle.model_rows.specs.Conditions.{is_in_force, names}
use Rattle.model_rows.specs.Lists.{Lists, voucher_at, order_at, position_at, positions_of}
use Rattle.model_rows.specs.Change.{after_change, after_all}
use Rattle.model_rows.specs.Usage.{stands_as, spends, spent}
use Rattle.model_rows.specs.Budgets.{covers, is_within_by, is_within, are_within, HasBudget, AllWithinBudget, named_discounts}
use Rattle.model_rows.specs.Ordered.{AllOrdered}
use Rattle.model_rows.proofs.EachRow.{all_weaker, all_both, neither_first, neither_second}
use Rattle.model_rows.proofs.Found.{each_found}
use Rattle.model_rows.proofs.Orders.{sum_by_swap}

-- ROWS THAT ARE TESTED

-- a row that names a voucher
named_is : (id : ℕ) (name : Option ℕ) → names id name ≡ true → name ≡ Some id
named_is id None e = absurd (cc)
named_is id (Some voucher) e =
    let same : voucher ≡ id = grind (arith, nat_tests, e) in
    ap (λ n. Some n) same

-- so much is within the budget, as the test says
pub is_covered : (budget : Option ℕ) (amount : ℕ) → covers budget amount ≡ true → IfSome budget (λ b. amount ≤ b)
is_covered None amount h = tt
is_covered (Some b) amount h = grind (arith, nat_tests, h)

-- the test says so
pub covers_it : (budget : Option ℕ) (amount : ℕ) → IfSome budget (λ b. amount ≤ b) → covers budget amount ≡ true
covers_it None amount h = refl
covers_it (Some b) amount h = grind (arith, nat_tests, h)

less_within : (budget : Option ℕ) (less more : ℕ) → less ≤ more → IfSome budget (λ b. more ≤ b) → IfSome budget (λ b. less ≤ b)
less_within None less more le h = tt
less_within (Some b) less more le h = omega (arith, h, le)

found_within : (lists : Lists) (v : ℕ) (ps : List OrderPos) → list_any (λ p. names v p.voucher) ps ≡ true → are_within lists ps ≡ true → is_within lists (Some v) ≡ true
found_within lists v [] named h = absurd (cc)
found_within lists v (p ∷ ps) named h = by_name (names v p.voucher) refl named (is_within lists p.voucher) refl h (found_within lists v ps)
  where
    by_name : (b : Bool) → names v p.voucher ≡ b → (b || list_any (λ q. names v q.voucher) ps) ≡ true → (c : Bool) → is_within lists p.voucher ≡ c → (c && list_all (λ q. is_within lists q.voucher) ps) ≡ true → (list_any (λ q. names v q.voucher) ps ≡ true → list_all (λ q. is_within lists q.voucher) ps ≡ true → is_within lists (Some v) ≡ true) → is_within lists (Some v) ≡ true
    by_name b e some false f h more = absurd (cc)
    by_name true e some true f h more = ap (is_within lists) (sym (named_is v p.voucher e)) ∙ f
    by_name false e some true f h more = more some h

-- where the test of the vouchers that some positions name passes, and no more is spent of any other, all are within their budgets
module _ (before after : Lists) (same : after.vouchers ≡ before.vouchers) (rows : List OrderPos) where
  pub tested_rows : AreInOrder (λ r. r.id) before.vouchers → ((v : ℕ) → list_any (λ p. names v p.voucher) rows ≡ false → spent v after ≤ spent v before) → are_within after rows ≡ true → AllWithinBudget before → AllWithinBudget after
  tested_rows o others test h =
      subst (AllByRecursion (HasBudget after)) (sym same)
      (all_weaker (λ v. (voucher_at v.id before ≡ Some v) × HasBudget before v) (HasBudget after) (λ v both. keeps v both.0 both.1) before.vouchers
      (all_both (λ v. voucher_at v.id before ≡ Some v) (HasBudget before) before.vouchers (each_found (λ r. r.id) 0 before.vouchers o) h))
    where
      keeps : (v : Voucher) → voucher_at v.id before ≡ Some v → HasBudget before v → HasBudget after v
      keeps v stands had = by_name (list_any (λ p. names v.id p.voucher) rows) refl
        where
          found : voucher_at v.id after ≡ Some v
          found = ap (λ (vs : List Voucher). row_at (λ (r : Voucher). r.id) v.id vs) same ∙ stands

          by_name : (b : Bool) → list_any (λ p. names v.id p.voucher) rows ≡ b → HasBudget after v
          by_name false e = less_within v.budget (spent v.id after) (spent v.id before) (others v.id e) had
          by_name true e = is_covered v.budget (spent v.id after) (ap (is_within_by after) (sym found) ∙ found_within after v.id rows e test)

-- AN ORDER THAT IS PUT

module _ (row : Order) (lists : Lists) where
  abbrev after : Lists
  after = after_change (PutOrder row) lists

  -- what a position spends, where its order is in force or not
  abbrev gives : ℕ → Bool → OrderPos → ℕ
  gives v force p = if names v p.voucher && force then p.discount else 0

  abbrev own_gives : ℕ → Bool → OrderPos → ℕ
  own_gives v force p = if eqb row.id p.order then gives v force p else 0

  abbrev was : Bool
  was = stands_as is_in_force (order_at row.id lists)

  each : (v : ℕ) (p : OrderPos) → spends v after p + own_gives v was p ≡ spends v lists p + own_gives v (is_in_force row.status) p
  each v p = ap (λ (o : Option Order). gives v (stands_as is_in_force o) p + own_gives v was p) (row_at-with_row (λ r. r.id) p.order row lists.orders) ∙ by_own (eqb row.id p.order) refl
    where
      by_own : (b : Bool) → eqb row.id p.order ≡ b → gives v (stands_as is_in_force (if b then Some row else order_at p.order lists)) p + (if b then gives v was p else 0) ≡ spends v lists p + (if b then gives v (is_in_force row.status) p else 0)
      by_own true e =
          let same : row.id ≡ p.order = grind (arith, nat_tests, e) in
          omega (arith, ap (λ (n : ℕ). gives v (stands_as is_in_force (order_at n lists)) p) same)
      by_own false e = refl

  -- what its positions spent goes, and comes by its new status
  pub order_spends : (v : ℕ) → spent v after + sum_by (own_gives v was) lists.positions ≡ spent v lists + sum_by (own_gives v (is_in_force row.status)) lists.positions
  order_spends v = sum_by_swap (spends v after) (own_gives v was) (spends v lists) (own_gives v (is_in_force row.status)) lists.positions (each v)

  -- an order whose positions don't name the voucher spends nothing of it
  unnamed : (v : ℕ) (force : Bool) (ps : List OrderPos) → list_any (λ p. names v p.voucher) (filter (λ p. eqb row.id p.order) ps) ≡ false → sum_by (own_gives v force) ps ≡ 0
  unnamed v force [] h = refl
  unnamed v force (p ∷ ps) h = omega (arith, sum_by-cons (own_gives v force) p ps, both.0, unnamed v force ps both.1)
    where
      by_order : (b : Bool) → list_any (λ q. names v q.voucher) (cond b (p ∷ filter (λ q. eqb row.id q.order) ps) (filter (λ q. eqb row.id q.order) ps)) ≡ false → ((let n : ℕ = if b then gives v force p else 0 in n ≡ 0)) × (list_any (λ q. names v q.voucher) (filter (λ q. eqb row.id q.order) ps) ≡ false)
      by_order true h = (ap (λ (n : Bool). if n && force then p.discount else 0) (neither_first (names v p.voucher) (list_any (λ q. names v q.voucher) (filter (λ q. eqb row.id q.order) ps)) h), neither_second (names v p.voucher) (list_any (λ q. names v q.voucher) (filter (λ q. eqb row.id q.order) ps)) h)
      by_order false h = (refl, h)

      both : (own_gives v force p ≡ 0) × (list_any (λ q. names v q.voucher) (filter (λ q. eqb row.id q.order) ps) ≡ false)
      both = by_order (eqb row.id p.order) h

  fewer : (v : ℕ) (p : OrderPos) → (now before : Bool) → (now ≡ true → before ≡ true) → own_gives v now p ≤ own_gives v before p
  fewer v p now before h = by_tests (eqb row.id p.order) (names v p.voucher) now before h
    where
      by_tests : (own named now before : Bool) → (now ≡ true → before ≡ true) → (if own then (if named && now then p.discount else 0) else 0) ≤ (if own then (if named && before then p.discount else 0) else 0)
      by_tests false named now before h = omega arith
      by_tests true false now before h = omega arith
      by_tests true true false before h = omega arith
      by_tests true true true true h = omega arith
      by_tests true true true false h = absurd (cc (h refl))

  -- an order that was in force, or isn't afterwards, spends no more than it did
  pub kept_order : (is_in_force row.status ≡ true → was ≡ true) → AllWithinBudget lists → AllWithinBudget after
  kept_order kept h = all_weaker (HasBudget lists) (HasBudget after) (λ v had. less_within v.budget (spent v.id after) (spent v.id lists) (omega (arith, order_spends v.id, sum_by-le-sum_by (own_gives v.id (is_in_force row.status)) (own_gives v.id was) lists.positions (λ p. fewer v.id p (is_in_force row.status) was kept))) had) lists.vouchers h

  -- where the test of the vouchers that its positions name passes, all are within their budgets
  pub tested_order : AreInOrder (λ r. r.id) lists.vouchers → are_within after (positions_of row.id lists) ≡ true → AllWithinBudget lists → AllWithinBudget after
  tested_order o test h = tested_rows lists after refl (positions_of row.id lists) o others test h
    where
      others : (v : ℕ) → list_any (λ p. names v p.voucher) (positions_of row.id lists) ≡ false → spent v after ≤ spent v lists
      others v e = omega (arith, order_spends v, unnamed v was lists.positions e, unnamed v (is_in_force row.status) lists.positions e)

  -- the same by the discounts of its positions
  given : (b : Bool) (n : ℕ) → (if b && true then n else 0) ≡ (if b then n else 0)
  given true n = refl
  given false n = refl

  none_given : (b : Bool) (n : ℕ) → ◌≡◌ {A = ℕ} (if b && false then n else 0) 0
  none_given true n = refl
  none_given false n = refl

  abbrev own_discounts : ℕ → List OrderPos → ℕ
  own_discounts v ps = named_discounts v (filter (λ p. eqb row.id p.order) ps)

  own_sum : (v : ℕ) (force : Bool) (ps : List OrderPos) → sum_by (own_gives v force) ps ≡ (if force then own_discounts v ps else 0)
  own_sum v true [] = refl
  own_sum v false [] = refl
  own_sum v force (p ∷ ps) = sum_by-cons (own_gives v force) p ps ∙ by_tests (eqb row.id p.order) force (sum_by (own_gives v force) ps) (own_sum v force ps)
    where
      rest : List OrderPos
      rest = filter (λ q. eqb row.id q.order) ps

      by_tests : (own force : Bool) (sum : ℕ) → sum ≡ (if force then named_discounts v rest else 0) → (if own then gives v force p else 0) + sum ≡ (if force then named_discounts v (cond own (p ∷ rest) rest) else 0)
      by_tests true true sum e = omega (arith, e, given (names v p.voucher) p.discount, sum_by-cons (λ q. if names v q.voucher then q.discount else 0) p rest)
      by_tests true false sum e = omega (arith, e, none_given (names v p.voucher) p.discount)
      by_tests false true sum e = omega (arith, e)
      by_tests false false sum e = omega (arith, e)

  -- its positions take their discounts back if it was in force, and spend them if it is now
  pub spent_order : (v : ℕ) → spent v after + (if was then named_discounts v (positions_of row.id lists) else 0) ≡ spent v lists + (if is_in_force row.status then named_discounts v (positions_of row.id lists) else 0)
  spent_order v = omega (arith, order_spends v, own_sum v was lists.positions, own_sum v (is_in_force row.status) lists.positions)

  -- a new order has no positions, and spends nothing
  no_own : (v : ℕ) (force : Bool) (ps : List OrderPos) → order_at row.id lists ≡ None → AllByRecursion (λ p. is_some (order_at p.order lists) ≡ true) ps → sum_by (own_gives v force) ps ≡ 0
  no_own v force [] absent h = refl
  no_own v force (p ∷ ps) absent h = omega (arith, sum_by-cons (own_gives v force) p ps, by_order (eqb row.id p.order) refl, no_own v force ps absent h.1)
    where
      by_order : (b : Bool) → eqb row.id p.order ≡ b → ◌≡◌ {A = ℕ} (if b then gives v force p else 0) 0
      by_order true e =
          let same : row.id ≡ p.order = grind (arith, nat_tests, e) in
          let none : is_some (order_at p.order lists) ≡ false = ap (λ (n : ℕ). is_some (order_at n lists)) (sym same) ∙ ap (λ (o : Option Order). is_some o) absent in
          let some = h.0 in
          absurd (cc (none, some))
      by_order false e = refl

  pub new_order_spends : order_at row.id lists ≡ None → AllOrdered lists → (v : ℕ) → spent v after ≡ spent v lists
  new_order_spends absent ordered v = omega (arith, order_spends v, no_own v was lists.positions absent ordered, no_own v (is_in_force row.status) lists.positions absent ordered)

-- POSITIONS THAT ARE PUT

-- a position brings what it spends, and the one of its id spends nothing any more
pub position_spends : (row : OrderPos) (lists : Lists) → AreInOrder (λ p. p.id) lists.positions → (v : ℕ) → spent v (after_change (PutPosition row) lists) + sum_at (spends v lists) (position_at row.id lists) ≡ spent v lists + spends v lists row
position_spends row lists order v = sum_by-with_row (λ p. p.id) (spends v lists) 0 row lists.positions order

-- what a position spends is at most its discount, and that only where it names the voucher
named_spends : (v : ℕ) (lists : Lists) (row : OrderPos) → spends v lists row ≤ (if names v row.voucher then row.discount else 0)
named_spends v lists row = by_tests (names v row.voucher) (stands_as is_in_force (order_at row.order lists))
  where
    by_tests : (named force : Bool) → (if named && force then row.discount else 0) ≤ (if named then row.discount else 0)
    by_tests true true = omega arith
    by_tests true false = omega arith
    by_tests false force = omega arith

-- positions that are put one after another spend at most their discounts
pub positions_spend : (rows : List OrderPos) (lists : Lists) → AreInOrder (λ p. p.id) lists.positions → (v : ℕ) → spent v (after_all (map PutPosition rows) lists) ≤ spent v lists + named_discounts v rows
positions_spend [] lists order v = omega arith
positions_spend (row ∷ rows) lists order v = omega (
  arith,
  positions_spend rows (after_change (PutPosition row) lists) (with_row_in_order (λ p. p.id) 0 row lists.positions (omega arith) order) v,
  position_spends row lists order v,
  named_spends v lists row,
  sum_by-cons (λ p. if names v p.voucher then p.discount else 0) row rows,
)

-- rows that don't name the voucher have no discounts of it
pub unnamed_discounts : (v : ℕ) (rows : List OrderPos) → list_any (λ p. names v p.voucher) rows ≡ false → named_discounts v rows ≡ 0
unnamed_discounts v [] e = refl
unnamed_discounts v (row ∷ rows) e = omega (
  arith,
  sum_by-cons (λ p. if names v p.voucher then p.discount else 0) row rows,
  ap (λ (b : Bool). if b then row.discount else 0) (neither_first (names v row.voucher) (list_any (λ p. names v p.voucher) rows) e),
  unnamed_discounts v rows (neither_second (names v row.voucher) (list_any (λ p. names v p.voucher) rows) e),
)

pub discounts_append : (v : ℕ) (rows more : List OrderPos) → named_discounts v (rows ++ more) ≡ named_discounts v rows + named_discounts v more
discounts_append v rows more = sum_by-append (λ p. if names v p.voucher then p.discount else 0) rows more

-- cart positions that go spend nothing
pub carts_spend : (ids : List ℕ) (lists : Lists) (v : ℕ) → spent v (after_all (map DropCart ids) lists) ≡ spent v lists
carts_spend [] lists v = refl
carts_spend (id ∷ ids) lists v = carts_spend ids (after_change (DropCart id) lists) v

-- PRICED IN TURN

-- a price takes off no more than is left, where its discount is no more than that
abbrev pub IsFrugal : ℕ → ℕ → ℕ → ℕ → OrderPos → Type 0
IsFrugal id budget before here row = names id row.voucher ≡ true → row.discount ≤ budget - (before + here)

-- each of these rows is, after those before it
abbrev pub AreFrugal : ℕ → ℕ → ℕ → ℕ → List OrderPos → Type 0
AreFrugal id budget before here [] = Unit {0}
AreFrugal id budget before here (row ∷ rows) = IsFrugal id budget before here row × AreFrugal id budget before (here + named_discounts id (row ∷ [])) rows

one_row : (id : ℕ) (row : OrderPos) → named_discounts id (row ∷ []) ≡ (if names id row.voucher then row.discount else 0)
one_row id row = by_name (names id row.voucher)
  where
    by_name : (b : Bool) → 0 + (if b then row.discount else 0) ≡ (if b then row.discount else 0)
    by_name true = omega arith
    by_name false = refl

-- so all of them together stay within the budget
pub frugal_within : (id budget before here : ℕ) (rows : List OrderPos) → before + here ≤ budget → AreFrugal id budget before here rows → before + here + named_discounts id rows ≤ budget
frugal_within id budget before here [] le h = omega (arith, le)
frugal_within id budget before here (row ∷ rows) le h =
    let first : here + named_discounts id (row ∷ []) + before ≤ budget = by_name (names id row.voucher) refl in
    omega (arith, frugal_within id budget before (here + named_discounts id (row ∷ [])) rows (omega (arith, first)) h.1, sum_by-cons (λ p. if names id p.voucher then p.discount else 0) row rows, one_row id row)
  where
    by_name : (b : Bool) → names id row.voucher ≡ b → here + named_discounts id (row ∷ []) + before ≤ budget
    by_name true e = omega (arith, le, h.0 e, one_row id row, ap (λ (n : Bool). if n then row.discount else 0) e)
    by_name false e = omega (arith, le, one_row id row, ap (λ (n : Bool). if n then row.discount else 0) e)
