-- What refuses for a budget: the test of all rows of an order alone. It refuses no order whose positions give no price, and no cart position.
use Rattle.std.proofs.Common.{◌≡◌, ◌≢◌, ℕ, ◌+◌, Bool, true, false, ◌==◌, List, [], ◌∷◌, ◌++◌, length, map, Option, Some, None, Result, Ok, Err, refl, ◌∙◌}
use Rattle.std.specs.Prelude.{◌&&◌, nat_lt}
use Rattle.std.specs.List.{AllByRecursion}
use Rattle.std.specs.Option.{ok_or}
use Rattle.base_values.specs.Deciding.{◌>>=◌, ◌>>◌, check, refuse_if, refuse_some, map_err}
use Rattle.base_values.specs.declared.draw.Draw.{Draw}
use Rattle.model_catalogue.specs.CatalogueLists.{base_price}
use Rattle.model_catalogue.specs.declared.refusal.CatalogueRefusal.TheVariants.{NoItem, Full}
use Rattle.model_catalogue.specs.declared.rows.Product.{Product}
use Rattle.model_rows.specs.declared.changes.Change.TheVariants.{PutCart, PutPosition}
use Rattle.model_rows.specs.declared.rows.CartPos.{CartPos}
use Rattle.model_rows.specs.declared.rows.Order.{Order}
use Rattle.model_rows.specs.declared.rows.OrderPos.{OrderPos}
use Rattle.model_rows.specs.declared.rows.Own.TheVariants.{Cart, Position}
use Rattle.model_rows.specs.declared.rows.Voucher.{Voucher}
use Rattle.model_rows.specs.Budgets.{are_within}
use Rattle.model_rows.specs.Change.{after_change, change_applied}
use Rattle.model_rows.specs.Conditions.{is_live_voucher}
use Rattle.model_rows.specs.Fits.{fits}
use Rattle.model_rows.specs.Full.{takes_cart, takes_order, takes_positions}
use Rattle.model_rows.specs.Headroom.{has_use}
use Rattle.model_rows.specs.Lists.{State}
use Rattle.model_rows.specs.Named.{voucher_of}
use Rattle.model_rows.specs.Numbered.{with_cart}
use Rattle.model_rows.specs.Over.{first_over}
use Rattle.model_invariant.specs.Positions.{most_positions}
use Rattle.model_invariant.specs.Sound.{IsSound}
use Rattle.model_commands.specs.declared.carts.Asked.{Asked}
use Rattle.model_commands.specs.declared.carts.NewCart.{NewCart}
use Rattle.model_commands.specs.declared.orders.NewOrder.{NewOrder}
use Rattle.model_commands.specs.declared.orders.OrderRefusal.{OrderRefusal}
use Rattle.model_commands.specs.declared.orders.OrderRefusal.TheVariants.{Voucher as OfVoucher, BadCart, Empty, TooMany}
use Rattle.model_commands.specs.declared.vouchers.VoucherRefusal.{VoucherRefusal}
use Rattle.model_commands.specs.declared.vouchers.VoucherRefusal.TheVariants.{Catalogue, NoHeadroom, NoVoucher, OverBudget, SoldOut, VoucherExpired, WrongProduct}
use Rattle.decide_orders.specs.CartId.{cart_id_test}
use Rattle.decide_orders.specs.Carts.{cart_row, has_use_for, cart_placed, position_added, row_of_sold}
use Rattle.decide_orders.specs.Created.{order_row, position_row, position_for, rows_for, position_put, with_positions, with_ids_used, with_order_row, order_placed, counts_test, order_created}
use Rattle.decide_orders.specs.Sold.{sold_for, sold_at, price_with, product_for_sale, voucher_asked}
use Rattle.decide_orders.specs.Usable.{usable}
use Rattle.decide_orders.proofs.InTurn.{asked_fit}
use Rattle.decide_orders.proofs.Spending.{made_keeps_vouchers, made_spends}

-- ---- steps that refuse otherwise

module _ {A B E : Type 0} (e : E) where
  then_other : (step : Result A E) (next : A → Result B E) → step ≢ Err e → ((x : A) → step ≡ Ok x → next x ≢ Err e) → (step >>= next) ≢ Err e
  then_other (Ok x) next other more = more x refl
  then_other (Err f) next other more = λ h. other (cc (h))

module _ {A E : Type 0} (e : E) where
  test_other : (step : Result (Unit {0}) E) (next : Result A E) → step ≢ Err e → next ≢ Err e → (step >> next) ≢ Err e
  test_other (Ok tt) next other more = more
  test_other (Err f) next other more = λ h. other (cc (h))

  found_other : (o : Option A) (f : E) → f ≢ e → ok_or o f ≢ Err e
  found_other (Some x) f other = λ h. absurd (cc (h))
  found_other None f other = λ h. other (cc (h))

module _ {E : Type 0} (e : E) where
  check_other : (holds : Bool) (f : E) → f ≢ e → check holds f ≢ Err e
  check_other true f other = λ h. absurd (cc (h))
  check_other false f other = λ h. other (cc (h))

  unless_other : (holds : Bool) (f : E) → f ≢ e → refuse_if holds f ≢ Err e
  unless_other true f other = λ h. other (cc (h))
  unless_other false f other = λ h. absurd (cc (h))

  some_other : {A : Type 0} (f : A → E) (o : Option A) → ((x : A) → f x ≢ e) → refuse_some f o ≢ Err e
  some_other f None other = λ h. absurd (cc (h))
  some_other f (Some x) other = λ h. other x (cc (h))

  given : {A : Type 0} (x : A) → (let r : Result A E = Ok x in r ≢ Err e)
  given x = λ h. absurd (cc (h))

  -- a refusal of a lower layer
  below_other : {A D : Type 0} (own : D → E) (step : Result A D) → ((d : D) → step ≡ Err d → own d ≢ e) → map_err own step ≢ Err e
  below_other own (Ok x) other = λ h. absurd (cc (h))
  below_other own (Err d) other = λ h. other d refl (cc (h))

-- ---- what is sold

abbrev Is : {A : Type 0} → Result A VoucherRefusal → Type 0
Is result = result ≢ Err OverBudget

usable_other : (state : State) (product : Product) (voucher : Voucher) → Is (usable state.lists.catalogue state.moment product voucher)
usable_other state product voucher =
    test_other OverBudget (check (is_live_voucher state.moment voucher) VoucherExpired) _ (check_other OverBudget (is_live_voucher state.moment voucher) VoucherExpired (λ h. absurd (cc (h))))
    (test_other OverBudget (check (fits state.lists.catalogue voucher product) WrongProduct) (Ok tt) (check_other OverBudget (fits state.lists.catalogue voucher product) WrongProduct (λ h. absurd (cc (h)))) (given OverBudget tt))

voucher_other : (code : Option (List ℕ)) (state : State) (product : Product) → Is (voucher_asked code state product)
unfolding voucher_asked
voucher_other None state product = given OverBudget None
voucher_other (Some code) state product =
    then_other OverBudget (ok_or (voucher_of code state.lists) NoVoucher) _ (found_other OverBudget (voucher_of code state.lists) NoVoucher (λ h. absurd (cc (h))))
    (λ voucher is. test_other OverBudget (usable state.lists.catalogue state.moment product voucher) (Ok (Some voucher)) (usable_other state product voucher) (given OverBudget (Some voucher)))

sold_other : (asked : Asked) (front : List OrderPos) (state : State) → Is (sold_for asked front state)
unfolding sold_for
sold_other asked front state =
    then_other OverBudget (map_err Catalogue (product_for_sale asked.item asked.variation state.lists.catalogue)) _ (below_other OverBudget Catalogue (product_for_sale asked.item asked.variation state.lists.catalogue) (λ d is h. absurd (cc (h))))
    (λ product is. then_other OverBudget (voucher_asked asked.voucher state product) _ (voucher_other asked.voucher state product)
    (λ voucher may. then_other OverBudget (ok_or (base_price product state.lists.catalogue) (Catalogue NoItem)) _ (found_other OverBudget (base_price product state.lists.catalogue) (Catalogue NoItem) (λ h. absurd (cc (h))))
    (λ base based. given OverBudget (sold_at asked.price product voucher base (price_with state.lists front voucher base)))))

-- ---- the rows of an order, and their puts

abbrev over : OrderRefusal
over = OfVoucher OverBudget

sold_below : (asked : Asked) (front : List OrderPos) (state : State) → map_err OfVoucher (sold_for asked front state) ≢ Err over
sold_below asked front state = below_other over OfVoucher (sold_for asked front state) (λ d is h. sold_other asked front state (is ∙ cc (h)))

module _ (draw : Draw) (state : State) where
  row_other : (front : List OrderPos) (id number : ℕ) (asked : Asked) → position_for draw state front id number asked ≢ Err over
  unfolding position_for
  row_other front id number asked = then_other over (map_err OfVoucher (sold_for asked front state)) _ (sold_below asked front state) (λ sold is. given over (position_row draw state.next.order id number sold))

  rows_other : (asked : List Asked) (front : List OrderPos) (id number : ℕ) → rows_for draw state front id number asked ≢ Err over
  rows_other [] front id number = given over []
  rows_other (entry ∷ more) front id number =
      then_other over (position_for draw state front id number entry) _ (row_other front id number entry)
      (λ row is. then_other over (rows_for draw state (front ++ row ∷ []) (id + 1) (number + 1) more) _ (rows_other more (front ++ row ∷ []) (id + 1) (number + 1)) (λ others rest. given over (row ∷ others)))

put_other : (row : OrderPos) (state : State) → position_put row state ≢ Err over
unfolding position_put
put_other row state = test_other over (check (has_use state.moment state.lists row.voucher) (OfVoucher NoHeadroom)) (Ok (change_applied (PutPosition row) state)) (check_other over (has_use state.moment state.lists row.voucher) (OfVoucher NoHeadroom) (λ h. absurd (cc (h)))) (given over (change_applied (PutPosition row) state))

puts_other : (rows : List OrderPos) (done : Result State OrderRefusal) → done ≢ Err over → with_positions rows done ≢ Err over
puts_other rows (Err refusal) other = other
puts_other [] (Ok state) other = other
puts_other (row ∷ rows) (Ok state) other = puts_other rows (position_put row state) (put_other row state)

-- ---- an order whose positions give no price

counts_other : (new : NewOrder) → counts_test new ≢ Err over
counts_other new =
    test_other over (refuse_if (length new.positions == 0) Empty) _ (unless_other over (length new.positions == 0) Empty (λ h. absurd (cc (h))))
    (test_other over (refuse_if (nat_lt most_positions (length new.positions)) TooMany) _ (unless_other over (nat_lt most_positions (length new.positions)) TooMany (λ h. absurd (cc (h))))
    (test_other over (refuse_if (nat_lt most_positions (length new.consume_carts)) TooMany) (Ok tt) (unless_other over (nat_lt most_positions (length new.consume_carts)) TooMany (λ h. absurd (cc (h)))) (given over tt)))

-- a test that passes refuses nothing
passes_on : {A : Type 0} (within : Bool) (next : Result A OrderRefusal) → within ≡ true → next ≢ Err over → (check within over >> next) ≢ Err over
passes_on true next is other = other
passes_on false next is other = absurd (cc (is))

placed_other : (row : Order) (rows : List OrderPos) (carts : List (List ℕ)) (state : State) → ((put : State) → with_positions rows (Ok (with_order_row row carts state)) ≡ Ok put → are_within put.lists rows ≡ true) → order_placed row rows carts state ≢ Err over
unfolding order_placed
placed_other row rows carts state within =
    then_other over (with_positions rows (Ok (with_order_row row carts state))) _ (puts_other rows (Ok (with_order_row row carts state)) (given over (with_order_row row carts state)))
    (λ put puts. passes_on (are_within put.lists rows) _ (within put puts)
    (test_other over (refuse_some (λ quota. OfVoucher (SoldOut quota)) (first_over state.lists put.lists state.moment (map (λ p. Position p.id) rows))) _ (some_other over (λ quota. OfVoucher (SoldOut quota)) (first_over state.lists put.lists state.moment (map (λ p. Position p.id) rows)) (λ quota h. absurd (cc (h))))
    (test_other over (check (takes_order state && takes_positions (length rows) state) (OfVoucher (Catalogue Full))) _ (check_other over (takes_order state && takes_positions (length rows) state) (OfVoucher (Catalogue Full)) (λ h. absurd (cc (h)))) (given over (with_ids_used (length rows) put, record { order = row; positions = rows })))))

pub asked_prices_fit : (new : NewOrder) (draw : Draw) (state : State) → IsSound state → AllByRecursion (λ a. a.price ≡ None) new.positions → order_created new draw state ≢ Err over
unfolding order_created
asked_prices_fit new draw state sound free =
    test_other over (counts_test new) _ (counts_other new)
    (then_other over (rows_for draw state [] state.next.position 1 new.positions) _ (rows_other draw state new.positions [] state.next.position 1)
    (λ rows are. placed_other (order_row new state) rows new.consume_carts state (λ put puts.
    asked_fit draw state sound.ids.vouchers.in_order sound.budgets new.positions free state.next.position 1 rows are put.lists
    (made_keeps_vouchers (order_row new state) new.consume_carts state refl sound rows put puts)
    (made_spends (order_row new state) new.consume_carts state refl sound rows put puts))))

-- ---- a cart position

cart_id_other : (given_id : Option (List ℕ)) → cart_id_test given_id ≢ Err over
cart_id_other None = given over tt
cart_id_other (Some id) = check_other over _ BadCart (λ h. absurd (cc (h)))

cart_row_other : (new : NewCart) (draw : Draw) (state : State) → cart_row new draw state ≢ Err over
unfolding cart_row
cart_row_other new draw state =
    test_other over (cart_id_test new.cart_id) _ (cart_id_other new.cart_id)
    (then_other over (map_err OfVoucher (sold_for new.asked [] state)) _ (sold_below new.asked [] state) (λ sold is. given over (row_of_sold new draw state sold)))

cart_placed_other : (row : CartPos) (state : State) → cart_placed row state ≢ Err over
unfolding cart_placed
cart_placed_other row state =
    test_other over (check (has_use_for row state) (OfVoucher NoHeadroom)) _ (check_other over (has_use_for row state) (OfVoucher NoHeadroom) (λ h. absurd (cc (h))))
    (test_other over (refuse_some (λ quota. OfVoucher (SoldOut quota)) (first_over state.lists (after_change (PutCart row) state.lists) state.moment (Cart row.id ∷ []))) _ (some_other over (λ quota. OfVoucher (SoldOut quota)) (first_over state.lists (after_change (PutCart row) state.lists) state.moment (Cart row.id ∷ [])) (λ quota h. absurd (cc (h))))
    (test_other over (check (takes_cart state) (OfVoucher (Catalogue Full))) _ (check_other over (takes_cart state) (OfVoucher (Catalogue Full)) (λ h. absurd (cc (h)))) (given over (with_cart row state, row))))

pub no_cart_is_over : (new : NewCart) (draw : Draw) (state : State) → position_added new draw state ≢ Err over
unfolding position_added
no_cart_is_over new draw state =
    then_other over (cart_row new draw state) _ (cart_row_other new draw state) (λ row is. cart_placed_other row state)
