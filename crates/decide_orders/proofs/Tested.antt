-- A test of what was put, and what comes behind it.
use Rattle.std.proofs.Common.{◌≡◌, ◌≢◌, ℕ, Bool, true, false, ◌&&◌, List, ◌∷◌, [], length, map, Option, Some, None, Result, Ok, Err, refl, sym, ap, ◌∙◌}
use Rattle.std.specs.Prelude.{IfErr}
use Rattle.base_values.specs.Deciding.{◌>>◌, check, refuse_some}
use Rattle.model_catalogue.specs.declared.refusal.CatalogueRefusal.TheVariants.{Full}
use Rattle.model_commands.specs.declared.vouchers.VoucherRefusal.TheVariants.{Catalogue, OverBudget, SoldOut}
use Rattle.model_commands.specs.declared.orders.OrderRefusal.{OrderRefusal}
use Rattle.model_commands.specs.declared.orders.OrderRefusal.TheVariants.{Voucher as OfVoucher, Memory}
use Rattle.draft_changes.specs.DraftState.{DraftState, MarkState, IsMarkOf, Extends, now, back}
use Rattle.model_rows.specs.declared.changes.Change.TheVariants.{PutCart, PutOrder}
use Rattle.model_rows.specs.declared.rows.CartPos.{CartPos}
use Rattle.model_rows.specs.declared.rows.Order.{Order}
use Rattle.model_rows.specs.declared.rows.OrderPos.{OrderPos}
use Rattle.model_rows.specs.declared.rows.Own.{Own}
use Rattle.model_rows.specs.declared.rows.Own.TheVariants.{Cart, Position}
use Rattle.model_rows.specs.Budgets.{are_within}
use Rattle.model_rows.specs.Change.{after_change, change_applied}
use Rattle.model_rows.specs.Full.{takes_cart, takes_order, takes_positions}
use Rattle.model_rows.specs.Lists.{State, positions_of}
use Rattle.model_rows.specs.Numbered.{with_cart}
use Rattle.model_rows.specs.Over.{first_over}
use Rattle.model_invariant.specs.Positions.{by_positionid}
use Rattle.decide_orders.specs.Carts.{has_use_for, cart_placed}
use Rattle.decide_orders.specs.Created.{order_placed, with_ids_used, with_order_row, with_positions}
use Rattle.decide_orders.specs.Moves.{have_uses_again, have_budgets_again, over_again, moved_to, revival}
use Rattle.decide_orders.specs.Places.{places_test, sale_test}
use Rattle.decide_orders.proofs.Revivals.{within_sorted}

-- the test since a mark that was taken at the old draft goes by what stood there
pub tested_since : {r : Result (Unit {0}) OrderRefusal} {old mid : DraftState} {mark : MarkState} {own all : List Own} (takes : Bool)
    → Extends old mid → IsMarkOf old mark → back mark old ≡ old → own ≡ all
    → r ≡ places_test (first_over (now (back mark mid)).lists (now mid).lists (now mid).moment own) takes
    → r ≡ places_test (first_over (now old).lists (now mid).lists (now old).moment all) takes
tested_since {r} {old} {mid} {mark} {own} {all} takes extends taken here rows h =
    let was : now (back mark mid) ≡ now old = ap now ((extends.marks mark taken).1 ∙ here) in
    h ∙ (λ i. places_test (first_over (was i).lists (now mid).lists (extends.moment i) (rows i)) takes)

-- and of an order, whose positions are within budgets as these tell
pub sale_tested_since : {r : Result (Unit {0}) OrderRefusal} {old mid : DraftState} {mark : MarkState} {own all : List Own} {tested within : Bool} (takes : Bool)
    → Extends old mid → IsMarkOf old mark → back mark old ≡ old → own ≡ all → tested ≡ within
    → r ≡ sale_test tested (first_over (now (back mark mid)).lists (now mid).lists (now mid).moment own) takes
    → r ≡ sale_test within (first_over (now old).lists (now mid).lists (now old).moment all) takes
sale_tested_since {r} {old} {mid} {mark} {own} {all} {tested} {within} takes extends taken here rows same h =
    let was : now (back mark mid) ≡ now old = ap now ((extends.marks mark taken).1 ∙ here) in
    h ∙ (λ i. sale_test (same i) (first_over (was i).lists (now mid).lists (extends.moment i) (rows i)) takes)

-- and of an order that comes back, whose positions come by their numbers
pub tested_again : {r : Result (Unit {0}) OrderRefusal} {old mid : DraftState} {mark : MarkState} {own : List Own} {positions : List OrderPos} (row : Order)
    → Extends old mid → IsMarkOf old mark → back mark old ≡ old → now mid ≡ change_applied (PutOrder row) (now old)
    → own ≡ map (λ p. Position p.id) (positions_of row.id (now old).lists) → positions ≡ by_positionid (positions_of row.id (now old).lists)
    → r ≡ sale_test (are_within (now mid).lists positions) (first_over (now (back mark mid)).lists (now mid).lists (now mid).moment own) true
    → r ≡ sale_test (have_budgets_again row (now old)) (over_again row (now old)) true
tested_again {r} {old} {mid} {mark} {own} {positions} row extends taken here put rows sorted h =
    let all = positions_of row.id (now old).lists in
    let within : are_within (now mid).lists positions ≡ have_budgets_again row (now old) =
    ap (are_within (now mid).lists) sorted ∙ within_sorted (now mid).lists all ∙ ap (λ (s : State). are_within s.lists all) put in
    sale_tested_since true extends taken here rows within h
    ∙ ap (λ (s : State). sale_test (have_budgets_again row (now old)) (first_over (now old).lists s.lists (now old).moment (map (λ p. Position p.id) all)) true) put

then_then : {A E : Type 0} (a b : Result (Unit {0}) E) (next : Result A E) → (a >> b >> next) ≡ (a >> (b >> next))
then_then (Ok tt) b next = refl
then_then (Err refusal) b next = refl

-- what the test refuses is refused where more comes behind it
refused_on : {A : Type 0} (over : Option ℕ) (takes : Bool) (next : Result A OrderRefusal) {e : OrderRefusal} → places_test over takes ≡ Err e → (refuse_some (λ quota. OfVoucher (SoldOut quota)) over >> (check takes (OfVoucher (Catalogue Full)) >> next)) ≡ Err e
refused_on over takes next h = sym (then_then (refuse_some (λ quota. OfVoucher (SoldOut quota)) over) (check takes (OfVoucher (Catalogue Full))) next) ∙ ap (λ r. r >> next) h

sale_refused_on : {A : Type 0} (within : Bool) (over : Option ℕ) (takes : Bool) (next : Result A OrderRefusal) {e : OrderRefusal} → sale_test within over takes ≡ Err e
    → (check within (OfVoucher OverBudget) >> (refuse_some (λ quota. OfVoucher (SoldOut quota)) over >> (check takes (OfVoucher (Catalogue Full)) >> next))) ≡ Err e
sale_refused_on true over takes next h = refused_on over takes next h
sale_refused_on false over takes next h = cc (h)

sale_passed_on : {A : Type 0} (within : Bool) (over : Option ℕ) (takes : Bool) (next : Result A OrderRefusal) → sale_test within over takes ≡ Ok tt
    → (check within (OfVoucher OverBudget) >> (refuse_some (λ quota. OfVoucher (SoldOut quota)) over >> (check takes (OfVoucher (Catalogue Full)) >> next))) ≡ next
sale_passed_on true None true next h = refl
sale_passed_on true None false next h = absurd (cc (h))
sale_passed_on true (Some quota) takes next h = absurd (cc (h))
sale_passed_on false over takes next h = absurd (cc (h))

-- what a test refuses is refused
pub if_err : {A : Type 0} (tested : Result (Unit {0}) OrderRefusal) (all : Result A OrderRefusal) → ((e : OrderRefusal) → tested ≡ Err e → all ≡ Err e) → IfErr tested (λ e. e ≢ Memory → all ≡ Err e)
if_err (Ok x) all h = tt
if_err (Err e) all h = λ other. h e refl

-- a cart position, an order that is made, and one that comes back, are refused by it
pub cart_refused : (row : CartPos) (state : State) {e : OrderRefusal} → has_use_for row state ≡ true → places_test (first_over state.lists (after_change (PutCart row) state.lists) state.moment (Cart row.id ∷ [])) (takes_cart state) ≡ Err e → cart_placed row state ≡ Err e
unfolding cart_placed
cart_refused row state uses h = rw uses (refused_on (first_over state.lists (after_change (PutCart row) state.lists) state.moment (Cart row.id ∷ [])) (takes_cart state) (Ok (with_cart row state, row)) h)

pub created_refused : (row : Order) (rows : List OrderPos) (carts : List (List ℕ)) (state put : State) {e : OrderRefusal} → with_positions rows (Ok (with_order_row row carts state)) ≡ Ok put
    → sale_test (are_within put.lists rows) (first_over state.lists put.lists state.moment (map (λ p. Position p.id) rows)) (takes_order state && takes_positions (length rows) state) ≡ Err e
    → order_placed row rows carts state ≡ Err e
unfolding order_placed
created_refused row rows carts state put puts h =
    let over = first_over state.lists put.lists state.moment (map (λ p. Position p.id) rows) in
    let takes = takes_order state && takes_positions (length rows) state in
    rw puts (sale_refused_on (are_within put.lists rows) over takes (Ok (with_ids_used (length rows) put, record { order = row; positions = rows })) h)

pub revived_refused : (row : Order) (state : State) {e : OrderRefusal} → have_uses_again row state ≡ true → sale_test (have_budgets_again row state) (over_again row state) true ≡ Err e → revival row state ≡ Err e
unfolding revival
revived_refused row state uses h = rw uses (sale_refused_on (have_budgets_again row state) (over_again row state) true (Ok (moved_to row state)) h)

-- where it passes, the order is put
pub revived_done : (row : Order) (state : State) → have_uses_again row state ≡ true → sale_test (have_budgets_again row state) (over_again row state) true ≡ Ok tt → revival row state ≡ Ok (moved_to row state)
unfolding revival
revived_done row state uses h = rw uses (sale_passed_on (have_budgets_again row state) (over_again row state) true (Ok (moved_to row state)) h)
