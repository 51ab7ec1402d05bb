-- What an order that is made spends of budgets: no more than its discounts. Where the test of its rows passes, all are within their budgets.
use Rattle.std.proofs.Common.{◌≡◌, ℕ, ◌+◌, ◌≤◌, true, List, [], ◌∷◌, map, None, Result, Ok, Err, refl, sym, ap, ◌∙◌, subst, arith}
use Rattle.base_tables.specs.Tables.{AreInOrder}
use Rattle.model_rows.specs.declared.rows.Order.{Order}
use Rattle.model_rows.specs.declared.rows.OrderPos.{OrderPos}
use Rattle.model_rows.specs.declared.changes.Change.TheVariants.{PutPosition}
use Rattle.model_rows.specs.Budgets.{are_within, AllWithinBudget, named_discounts}
use Rattle.model_rows.specs.Change.{after_all, after_change, without_carts}
use Rattle.model_rows.specs.Consumed.{carts_consumed}
use Rattle.model_rows.specs.Lists.{Lists, State, order_at}
use Rattle.model_rows.specs.Usage.{spent}
use Rattle.model_rows.proofs.Budgets.{carts_spend, new_order_spends, positions_spend, tested_rows, unnamed_discounts}
use Rattle.model_rows.proofs.EachRow.{next_absent}
use Rattle.model_invariant.specs.Sound.{IsSound}
use Rattle.model_invariant.proofs.SoundOrders.{sound_drop_carts}
use Rattle.model_commands.specs.declared.orders.OrderRefusal.{OrderRefusal}
use Rattle.decide_orders.specs.Created.{position_put, with_positions, with_order_row}
use Rattle.decide_orders.proofs.Puts.{put_is, carts_keep_positions, carts_keep_vouchers}

-- positions that are put one after another
puts_lists : (rows : List OrderPos) (state put : State) → with_positions rows (Ok state) ≡ Ok put → put.lists ≡ after_all (map PutPosition rows) state.lists
puts_lists [] state put h = let same : state ≡ put = cc (h) in ap (λ (s : State). s.lists) (sym same)
puts_lists (row ∷ rows) state put h = by_put (position_put row state) refl h (λ made. puts_lists rows made put)
  where
    by_put : (done : Result State OrderRefusal) → position_put row state ≡ done → with_positions rows done ≡ Ok put → ((made : State) → with_positions rows (Ok made) ≡ Ok put → put.lists ≡ after_all (map PutPosition rows) made.lists) → put.lists ≡ after_all (map PutPosition (row ∷ rows)) state.lists
    by_put (Err refusal) e h more = absurd (cc (h))
    by_put (Ok made) e h more = more made h ∙ ap (λ (s : State). after_all (map PutPosition rows) s.lists) (sym (put_is row state made e).is)

positions_keep_vouchers : (rows : List OrderPos) (lists : Lists) → (after_all (map PutPosition rows) lists).vouchers ≡ lists.vouchers
positions_keep_vouchers [] lists = refl
positions_keep_vouchers (row ∷ rows) lists = positions_keep_vouchers rows (after_change (PutPosition row) lists)

module _ (row : Order) (carts : List (List ℕ)) (state : State) (next : row.id ≡ state.next.order) (sound : IsSound state) where
  abbrev ids : List ℕ
  ids = carts_consumed carts state.lists

  abbrev left : Lists
  left = (without_carts ids state).lists

  abbrev placed : State
  placed = with_order_row row carts state

  left_sound : IsSound (without_carts ids state)
  left_sound = sound_drop_carts ids state sound

  absent : order_at row.id left ≡ None
  absent = subst (λ (id : ℕ). order_at id left ≡ None) (sym next) (next_absent (λ (o : Order). o.id) state.next.order left.orders left_sound.ids.orders.below)

  -- the order itself spends nothing
  placed_spends : (v : ℕ) → spent v placed.lists ≡ spent v state.lists
  placed_spends v = new_order_spends row left absent left_sound.ordered.each.stand v ∙ carts_spend ids state.lists v

  in_order : AreInOrder (λ p. p.id) placed.lists.positions
  in_order = subst (λ (ps : List OrderPos). AreInOrder (λ p. p.id) ps) (sym (carts_keep_positions ids state.lists)) sound.ids.positions.in_order

  module _ (rows : List OrderPos) (put : State) (puts : with_positions rows (Ok placed) ≡ Ok put) where
    -- and its positions at most their discounts
    pub made_spends : (v : ℕ) → spent v put.lists ≤ spent v state.lists + named_discounts v rows
    made_spends v = omega (arith, ap (spent v) (puts_lists rows placed put puts), positions_spend rows placed.lists in_order v, placed_spends v)

    pub made_keeps_vouchers : put.lists.vouchers ≡ state.lists.vouchers
    made_keeps_vouchers =
        ap (λ (l : Lists). l.vouchers) (puts_lists rows placed put puts)
        ∙ positions_keep_vouchers rows placed.lists
        ∙ carts_keep_vouchers ids state.lists

    -- where the test passes, no more is spent of any voucher than its budget
    pub made_within : are_within put.lists rows ≡ true → AllWithinBudget put.lists
    made_within test =
        tested_rows state.lists put.lists made_keeps_vouchers rows sound.ids.vouchers.in_order
        (λ v none. omega (arith, made_spends v, unnamed_discounts v rows none))
        test sound.budgets
