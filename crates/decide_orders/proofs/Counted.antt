-- The positions of a new order: as many as are asked for, numbered from 1, each with a secret of its own.
use Rattle.std.proofs.Common.{◌≡◌, ◌≢◌, ℕ, ◌+◌, ◌<◌, ◌≤◌, true, List, [], ◌∷◌, ◌++◌, append_assoc, append-nil, length, map, Option, Some, None, Result, Ok, Err, eqb, refl, sym, ap, ◌∙◌, subst, subst₂, arith}
use Rattle.std.specs.Prelude.{is_some, nat_lt}
use Rattle.std.specs.List.{AllByRecursion}
use Rattle.std.proofs.lemmas.Bool.Decides.{nat_tests}
use Rattle.base_values.proofs.Decided.{gave, gave_below, gave_it, gave_unit, unrefused}
use Rattle.base_tables.specs.Tables.{row_at, with_row}
use Rattle.base_values.specs.declared.draw.Draw.{Draw}
use Rattle.model_rows.specs.declared.rows.Order.{Order}
use Rattle.model_rows.specs.declared.rows.OrderPos.{OrderPos}
use Rattle.model_rows.specs.declared.rows.OrderRows.{OrderRows}
use Rattle.model_rows.specs.declared.changes.Change.TheVariants.{DropCart}
use Rattle.model_rows.specs.Lists.{State}
use Rattle.model_rows.specs.Change.{after_all}
use Rattle.model_rows.proofs.EachRow.{all_weaker, all-with_row, found_below}
use Rattle.model_invariant.specs.Ids.{AreNumbered}
use Rattle.model_invariant.specs.Positions.{most_positions, CountFrom, AreWhole, AllHavePositions}
use Rattle.model_invariant.specs.Shown.{AreOrdered}
use Rattle.model_invariant.specs.Secrets.{has_own_secret}
use Rattle.model_invariant.proofs.ByNumber.{counted_is}
use Rattle.model_invariant.proofs.Positions.{last_put, whole_created}
use Rattle.model_invariant.proofs.Secrets.{made_ends}
use Rattle.model_commands.specs.declared.orders.NewOrder.{NewOrder}
use Rattle.model_commands.specs.declared.carts.Asked.{Asked}
use Rattle.model_commands.specs.declared.orders.OrderRefusal.{OrderRefusal}
use Rattle.model_commands.specs.declared.orders.OrderRefusal.TheVariants.{Voucher as OfVoucher}
use Rattle.decide_orders.specs.Sold.{sold_for}
use Rattle.decide_orders.specs.Created.{position_row, position_for, rows_for, position_put, with_positions, counts_test, order_created}
use Rattle.decide_orders.specs.Steps.{AreCounted}
use Rattle.decide_orders.proofs.Puts.{put_is, carts_keep_orders, carts_keep_positions}

-- an order that is made asks for 1 to 500 positions
pub record AreFew (new : NewOrder) : Type 0 where
  pub some : 0 < length new.positions
  pub few : length new.positions ≤ most_positions

pub created_few : (new : NewOrder) (draw : Draw) (before : State) (made : State × OrderRows) → order_created new draw before ≡ Ok made → AreFew new
unfolding order_created
created_few new draw before made h =
    let (counts, h1) = gave_unit (counts_test new) _ h in
    let (some, c1) = unrefused (eqb (length new.positions) 0) _ _ counts in
    let (few, c2) = unrefused (nat_lt most_positions (length new.positions)) _ _ c1 in
    record { some = grind (arith, nat_tests, some); few = grind (arith, nat_tests, few) }

-- the rows of what is asked for: their numbers count on, their secrets end in them, and there are as many
pub record AreRows (number : ℕ) (asked : List Asked) (rows : List OrderPos) : Type 0 where
  pub counted : CountFrom number rows
  pub secrets : AllByRecursion (λ p. has_own_secret p ≡ true) rows
  pub all : length rows ≡ length asked

module _ (draw : Draw) (state : State) where
  numbered_row : (front : List OrderPos) (id number : ℕ) (asked : Asked) (row : OrderPos) → position_for draw state front id number asked ≡ Ok row → (row.positionid ≡ number) × (has_own_secret row ≡ true)
  unfolding position_for
  numbered_row front id number asked row h =
      let (sold, is, h1) = gave_below OfVoucher (sold_for asked front state) _ h in
      subst (λ (r : OrderPos). (r.positionid ≡ number) × (has_own_secret r ≡ true)) (gave_it (position_row draw state.next.order id number sold) row h1) (refl, made_ends draw state.next.order number)

  pub are_rows : (front : List OrderPos) (id number : ℕ) (asked : List Asked) (rows : List OrderPos) → rows_for draw state front id number asked ≡ Ok rows → AreRows number asked rows
  are_rows front id number [] rows h = subst (AreRows number []) (gave_it [] rows h) (record { counted = tt; secrets = tt; all = refl })
  are_rows front id number (entry ∷ more) rows h =
      let (row, first, h1) = gave (position_for draw state front id number entry) _ h in
      let (others, rest, h2) = gave (rows_for draw state (front ++ row ∷ []) (id + 1) (number + 1) more) _ h1 in
      let one = numbered_row front id number entry row first in
      let are = are_rows (front ++ row ∷ []) (id + 1) (number + 1) more others rest in
      subst (AreRows number (entry ∷ more)) (gave_it (row ∷ others) rows h2) (record { counted = (one.0, are.counted); secrets = (one.1, are.secrets); all = omega (arith, are.all) })

-- puts leave the orders, and put the positions behind those that stand
pub record StandBehind (rows : List OrderPos) (state put : State) : Type 0 where
  pub orders : put.lists.orders ≡ state.lists.orders
  pub positions : put.lists.positions ≡ state.lists.positions ++ rows

pub stand_behind : (rows : List OrderPos) (id : ℕ) (state put : State) → AreCounted id rows → AllByRecursion (λ r. r.id < id) state.lists.positions → with_positions rows (Ok state) ≡ Ok put → StandBehind rows state put
stand_behind [] id state put counted below h =
    let same : state ≡ put = cc (h) in
    record { orders = ap (λ (s : State). s.lists.orders) (sym same); positions = ap (λ (s : State). s.lists.positions) (sym same) ∙ sym (append-nil state.lists.positions) }
stand_behind (row ∷ rows) id state put counted below h = by_put (position_put row state) refl h (λ made on. stand_behind rows (id + 1) made put counted.1 on)
  where
    by_put : (done : Result State OrderRefusal) → position_put row state ≡ done → with_positions rows done ≡ Ok put → ((made : State) → AllByRecursion (λ r. r.id < id + 1) made.lists.positions → with_positions rows (Ok made) ≡ Ok put → StandBehind rows made put) → StandBehind (row ∷ rows) state put
    by_put (Err refusal) e h more = absurd (cc (h))
    by_put (Ok made) e h more =
        let is = (put_is row state made e).is in
        let later = all-with_row (λ r. r.id) (λ r. r.id < id + 1) row state.lists.positions (omega (arith, counted.0)) (all_weaker (λ r. r.id < id) (λ r. r.id < id + 1) (λ r lt. omega (arith, lt)) state.lists.positions below) in
        let rest = more made (subst (λ (s : State). AllByRecursion (λ r. r.id < id + 1) s.lists.positions) is later) h in
        let above = all_weaker (λ r. r.id < id) (λ r. r.id < row.id) (λ r lt. omega (arith, lt, counted.0)) state.lists.positions below in
        let behind : made.lists.positions ≡ state.lists.positions ++ (row ∷ []) = ap (λ (s : State). s.lists.positions) (sym is) ∙ last_put row state.lists.positions above in
        record {
          orders = rest.orders ∙ ap (λ (s : State). s.lists.orders) (sym is);
          positions = rest.positions ∙ ap (λ (ps : List OrderPos). ps ++ rows) behind ∙ append_assoc state.lists.positions (row ∷ []) rows;
        }

-- no position is of an order that isn't there yet
none_of_next : (next : ℕ) (orders : List Order) (positions : List OrderPos) → AllByRecursion (λ o. o.id < next) orders → AllByRecursion (λ p. is_some (row_at (λ o. o.id) p.order orders) ≡ true) positions → AllByRecursion (λ p. p.order ≢ next) positions
none_of_next next orders positions below stand = all_weaker (λ p. is_some (row_at (λ o. o.id) p.order orders) ≡ true) (λ p. p.order ≢ next) (λ p e. other p.order e) positions stand
  where
    by_found : (order : ℕ) (found : Option Order) → row_at (λ o. o.id) order orders ≡ found → is_some found ≡ true → order ≢ next
    by_found order None e s = absurd (cc)
    by_found order (Some o) e s = λ same. omega (arith, same, found_below (λ (o : Order). o.id) order next orders o e below)

    other : (order : ℕ) → is_some (row_at (λ o. o.id) order orders) ≡ true → order ≢ next
    other order e = by_found order (row_at (λ o. o.id) order orders) refl e

-- so where each order had its positions, each has them with the new order and its rows
pub created_whole : (new : NewOrder) (draw : Draw) (before : State) (made : State × OrderRows) (row : Order) (rows : List OrderPos) (ids : List ℕ) (put : State) → order_created new draw before ≡ Ok made
    → AreNumbered (λ r. r.id) before.next.order before.lists.orders → AreNumbered (λ r. r.id) before.next.position before.lists.positions → AreOrdered before.lists.orders before.lists.positions
    → row.id ≡ before.next.order → rows_for draw before [] before.next.position 1 new.positions ≡ Ok rows → AreCounted before.next.position rows → AllByRecursion (λ p. p.order ≡ before.next.order) rows
    → with_positions rows (Ok (record before { lists = record (after_all (map DropCart ids) before.lists) { orders = with_row (λ r. r.id) row (after_all (map DropCart ids) before.lists).orders } })) ≡ Ok put
    → AllHavePositions put.lists.orders put.lists.positions
created_whole new draw before made row rows ids put done orders positions ordered id asked counted own puts =
    let few = created_few new draw before made done in
    let are = are_rows draw before [] before.next.position 1 new.positions rows asked in
    let keeps = carts_keep_positions ids before.lists in
    let behind = stand_behind rows before.next.position (record before { lists = record (after_all (map DropCart ids) before.lists) { orders = with_row (λ r. r.id) row (after_all (map DropCart ids) before.lists).orders } }) put counted (subst (λ (ps : List OrderPos). AllByRecursion (λ p. p.id < before.next.position) ps) (sym keeps) positions.below) puts in
    let whole : AreWhole rows = record { some = omega (arith, are.all, few.some); few = omega (arith, are.all, few.few); counted = subst (CountFrom 1) (sym (counted_is 1 rows are.counted)) are.counted } in
    subst₂ (λ (os : List Order) (ps : List OrderPos). AllHavePositions os ps)
    (sym (behind.orders ∙ ap (λ (os : List Order). with_row (λ r. r.id) row os) (carts_keep_orders ids before.lists)))
    (sym (behind.positions ∙ ap (λ (ps : List OrderPos). ps ++ rows) keeps))
    (whole_created row before.lists.orders before.lists.positions rows
    (subst (λ (n : ℕ). AllByRecursion (λ o. o.id < n) before.lists.orders) (sym id) orders.below)
    (subst (λ (n : ℕ). AllByRecursion (λ p. p.order ≢ n) before.lists.positions) (sym id) (none_of_next before.next.order before.lists.orders before.lists.positions orders.below ordered.each.stand))
    (subst (λ (n : ℕ). AllByRecursion (λ p. p.order ≡ n) rows) (sym id) own)
    whole ordered.whole)
