-- What the moves of an order rest on.
use Rattle.std.proofs.Common.{◌≡◌, ℕ, ◌+◌, Bool, true, false, cond, eqb, List, [], ◌∷◌, Option, Some, refl, sym, ap, ◌∙◌, count_by, arith}
use Rattle.std.specs.Prelude.{if◌then◌else◌}
use Rattle.std.proofs.lemmas.Bool.Decides.{nat_tests}
use Rattle.model_rows.specs.declared.rows.Order.{Order}
use Rattle.model_rows.specs.declared.rows.Status.{Status}
use Rattle.model_rows.specs.declared.rows.Status.TheVariants.{Pending, Paid, Expired, Cancelled}
use Rattle.model_rows.specs.declared.changes.Change.TheVariants.{PutOrder}
use Rattle.model_rows.specs.Conditions.{is_in_force, names}
use Rattle.model_rows.specs.Lists.{Lists, order_at, positions_of}
use Rattle.model_rows.specs.Change.{after_change}
use Rattle.model_rows.specs.Usage.{stands_as, redeemed}
use Rattle.model_rows.specs.Headroom.{held}
use Rattle.model_rows.proofs.OrderHeadroom.{redeemed_order}
use Rattle.base_tables.specs.Tables.{row_at}
use Rattle.model_commands.specs.declared.orders.Move.{Move}
use Rattle.model_commands.specs.declared.orders.Move.TheVariants.{MarkPaid, MarkPending, MarkExpired, MarkCanceled, Extend}
use Rattle.decide_orders.specs.declared.moves.Transition.{Transition}
use Rattle.decide_orders.specs.Moves.{to, order_revived, transition_of}

-- an order that comes back takes a use for each of its positions that name the voucher
pub uses_more : (row : Order) (lists : Lists) (at v : ℕ) → stands_as is_in_force (order_at row.id lists) ≡ false → is_in_force row.status ≡ true → redeemed v lists + held at v lists + count_by (λ p. names v p.voucher) (positions_of row.id lists) ≡ redeemed v (after_change (PutOrder row) lists) + held at v lists
uses_more row lists at v ended back =
    let own = count_by (λ p. names v p.voucher) (positions_of row.id lists) in
    let none = ap (λ b. if b then own else 0) ended in
    let all = ap (λ b. if b then own else 0) back in
    omega (arith, redeemed_order row lists v, none, all)

-- the order that is found has the number that was looked for
pub found_id : (id : ℕ) (orders : List Order) (order : Order) → row_at (λ r. r.id) id orders ≡ Some order → order.id ≡ id
found_id id [] order h = absurd (cc)
found_id id (r ∷ rs) order h = by_test (eqb r.id id) refl h (found_id id rs order)
  where
    by_test : (b : Bool) → eqb r.id id ≡ b → cond b (Some r) (row_at (λ r. r.id) id rs) ≡ Some order → (row_at (λ r. r.id) id rs ≡ Some order → order.id ≡ id) → order.id ≡ id
    by_test true e h more =
        let same : r ≡ order = cc in
        let is : r.id ≡ id = grind (arith, nat_tests, e) in
        ap (λ (o : Order). o.id) (sym same) ∙ is
    by_test false e h more = more h

some_turn : (a b : Transition) → (let t : Option Transition = Some a in t ≡ Some b) → a ≡ b
some_turn a b h = cc

plain : (status : Status) (turn : Transition) → to status ≡ Some turn → turn.revival ≡ false
plain status turn h = sym (ap (λ (t : Transition). t.revival) (some_turn _ turn h))

same_status : (status : Status) (turn : Transition) → to status ≡ Some turn → is_in_force turn.status ≡ is_in_force status
same_status status turn h = sym (ap (λ (t : Transition). is_in_force t.status) (some_turn _ turn h))

is_revival : (status : Status) (turn : Transition) → order_revived status ≡ Some turn → turn.revival ≡ true
is_revival status turn h = sym (ap (λ (t : Transition). t.revival) (some_turn _ turn h))

comes_back : (status : Status) (turn : Transition) → order_revived status ≡ Some turn → is_in_force turn.status ≡ is_in_force status
comes_back status turn h = sym (ap (λ (t : Transition). is_in_force t.status) (some_turn _ turn h))

-- any other move of an order that isn't in force leaves it so
pub kept_force : (status : Status) (change : Move) (turn : Transition) → transition_of status change ≡ Some turn → turn.revival ≡ false → is_in_force turn.status ≡ true → is_in_force status ≡ true
kept_force Pending change turn h e force = refl
kept_force Paid change turn h e force = refl
kept_force Expired MarkPaid turn h e force = absurd (cc (e, is_revival Paid turn h))
kept_force Expired MarkCanceled turn h e force = absurd (cc (force, same_status Cancelled turn h))
kept_force Expired (Extend end) turn h e force = absurd (cc (e, is_revival Pending turn h))
kept_force Expired MarkPending turn h e force = absurd (cc)
kept_force Expired MarkExpired turn h e force = absurd (cc)
kept_force Cancelled change turn h e force = absurd (cc)
