-- An order that is made takes too much of no quota, where the vouchers of its positions heed quotas.
use Rattle.std.proofs.Common.{◌≡◌, ℕ, ◌+◌, ◌<◌, false, List, [], ◌∷◌, map, Some, Result, Ok, Err, refl, sym, ap, ◌∙◌, subst, arith}
use Rattle.std.specs.List.{AllByRecursion}
use Rattle.std.proofs.lemmas.Bool.Decides.{nat_tests}
use Rattle.base_values.specs.declared.draw.Draw.{Draw}
use Rattle.base_tables.proofs.Edits.{row_at-with_row}
use Rattle.model_catalogue.specs.declared.rows.Quota.{Quota}
use Rattle.model_rows.specs.declared.rows.OrderPos.{OrderPos}
use Rattle.model_rows.specs.declared.rows.OrderRows.{OrderRows}
use Rattle.model_rows.specs.declared.rows.Own.TheVariants.{Position}
use Rattle.model_rows.specs.declared.changes.Change.TheVariants.{PutPosition}
use Rattle.model_rows.specs.Lists.{Lists, State, position_at}
use Rattle.model_rows.specs.Change.{after_change}
use Rattle.model_rows.specs.Over.{is_over, is_over_size, ignores}
use Rattle.model_rows.specs.Takes.{places_used, IsWithin, TakesNoMore}
use Rattle.model_rows.proofs.Takes.{none_passes, within}
use Rattle.model_commands.specs.declared.orders.NewOrder.{NewOrder}
use Rattle.model_commands.specs.declared.orders.OrderRefusal.{OrderRefusal}
use Rattle.decide_orders.specs.Created.{position_put, with_positions, with_order_row, order_created}
use Rattle.decide_orders.specs.Steps.{AreCounted}
use Rattle.decide_orders.proofs.Created.{created_is, created_moment, created_none_over}
use Rattle.decide_orders.proofs.Puts.{put_is}
use Rattle.decide_orders.proofs.Revivals.{weighs_positions}
use Rattle.decide_orders.proofs.Rows.{counted}

found_new : (row : OrderPos) (lists : Lists) → position_at row.id (after_change (PutPosition row) lists) ≡ Some row
found_new row lists = let e = row_at-with_row (λ (r : OrderPos). r.id) row.id row lists.positions in grind (arith, nat_tests, e)

found_old : (p row : OrderPos) (lists : Lists) → p.id < row.id → position_at p.id (after_change (PutPosition row) lists) ≡ position_at p.id lists
found_old p row lists lt = let e = row_at-with_row (λ (r : OrderPos). r.id) p.id row lists.positions in grind (arith, nat_tests, e, lt)

-- a position of a lower id still stands
stays : (p : OrderPos) (rows : List OrderPos) (id : ℕ) (state after : State) → p.id < id → AreCounted id rows → position_at p.id state.lists ≡ Some p → with_positions rows (Ok state) ≡ Ok after → position_at p.id after.lists ≡ Some p
stays p [] id state after lt counted e h = let same : state ≡ after = cc (h) in subst (λ (s : State). position_at p.id s.lists ≡ Some p) same e
stays p (row ∷ rows) id state after lt counted e h = by_put (position_put row state) refl h (λ made stood. stays p rows (id + 1) made after (omega (arith, lt)) counted.1 stood)
  where
    by_put : (put : Result State OrderRefusal) → position_put row state ≡ put → with_positions rows put ≡ Ok after → ((made : State) → position_at p.id made.lists ≡ Some p → with_positions rows (Ok made) ≡ Ok after → position_at p.id after.lists ≡ Some p) → position_at p.id after.lists ≡ Some p
    by_put (Err refusal) f h more = absurd (cc (h))
    by_put (Ok made) f h more =
        let below : p.id < row.id = omega (arith, lt, counted.0) in
        more made (subst (λ (s : State). position_at p.id s.lists ≡ Some p) (put_is row state made f).is (found_old p row state.lists below ∙ e)) h

-- each that is put stands
puts_stand : (rows : List OrderPos) (id : ℕ) (state after : State) → AreCounted id rows → with_positions rows (Ok state) ≡ Ok after → AllByRecursion (λ p. position_at p.id after.lists ≡ Some p) rows
puts_stand [] id state after counted h = tt
puts_stand (row ∷ rows) id state after counted h = by_put (position_put row state) refl h (λ made. puts_stand rows (id + 1) made after counted.1)
  where
    by_put : (put : Result State OrderRefusal) → position_put row state ≡ put → with_positions rows put ≡ Ok after → ((made : State) → with_positions rows (Ok made) ≡ Ok after → AllByRecursion (λ p. position_at p.id after.lists ≡ Some p) rows) → AllByRecursion (λ p. position_at p.id after.lists ≡ Some p) (row ∷ rows)
    by_put (Err refusal) f h more = absurd (cc (h))
    by_put (Ok made) f h more =
        let stood : position_at row.id made.lists ≡ Some row = subst (λ (s : State). position_at row.id s.lists ≡ Some row) (put_is row state made f).is (found_new row state.lists) in
        (stays row rows (id + 1) made after (omega (arith, counted.0)) counted.1 stood h, more made h)

all_within : (before after : State) (rows : List OrderPos) → after.moment ≡ before.moment → AllByRecursion (λ p. position_at p.id after.lists ≡ Some p) rows
    → AllByRecursion (λ p. ignores after.lists p.voucher ≡ false) rows → (quotas : List Quota)
    → AllByRecursion (λ quota. is_over before.lists after.lists before.moment (map (λ p. Position p.id) rows) quota ≡ false) quotas
    → AllByRecursion (λ quota. IsWithin quota.size (places_used before quota) (places_used after quota)) quotas
all_within before after rows moment stand heed [] h = tt
all_within before after rows moment stand heed (quota ∷ quotas) h =
    let weighs = weighs_positions after.lists before.moment quota rows stand heed ∙ ap (λ at. places_used (record after { moment = at }) quota) (sym moment) in
    (within quota.size (places_used before quota) (places_used after quota) (subst (λ (n : ℕ). is_over_size quota.size (places_used before quota) n ≡ false) weighs h.0), all_within before after rows moment stand heed quotas h.1)

pub created_takes_no_more : (new : NewOrder) (draw : Draw) (before after : State) (made : OrderRows) → AllByRecursion (λ p. ignores after.lists p.voucher ≡ false) made.positions → order_created new draw before ≡ Ok (after, made) → TakesNoMore before after
created_takes_no_more new draw before after made heed h =
    let m = created_is new draw before after made h in
    let start = before.next.position in
    let state = with_order_row made.order new.consume_carts before in
    let stand = subst (λ (s : State). AllByRecursion (λ p. position_at p.id s.lists ≡ Some p) made.positions) m.is_after (puts_stand made.positions start state m.put (counted draw before [] start 1 new.positions made.positions m.are_rows) m.puts) in
    let none = none_passes (is_over before.lists after.lists before.moment (map (λ p. Position p.id) made.positions)) after.lists.catalogue.quotas (created_none_over new draw before after made h) in
    all_within before after made.positions (created_moment new draw before after made h) stand heed after.lists.catalogue.quotas none
