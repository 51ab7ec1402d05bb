-- That the first entries and positions decide as all of them do.
use Rattle.std.proofs.Common.{◌≡◌, ◌≤◌, ℕ, ◌==◌, Bool, List, true, false, length, take, nat_lt, refl, ap, arith}
use Rattle.std.proofs.lemmas.List.{take_all, length-take-le}
use Rattle.std.proofs.lemmas.Bool.Decides.{nat_tests}
use Rattle.base_values.specs.declared.draw.Draw.{Draw}
use Rattle.model_rows.specs.Lists.{State}
use Rattle.model_commands.specs.declared.carts.Entry.{Entry}
use Rattle.model_commands.specs.declared.orders.NewOrder.{NewOrder}
use Rattle.decide_orders.specs.Bulk.{many_added}
use Rattle.decide_orders.specs.Created.{order_created}

-- one more than a call may have
abbrev enough : ℕ
enough = 501

-- no more than 500 are all there
all_there : {A : Type 0} (xs : List A) → nat_lt 500 (length xs) ≡ false → take enough xs ≡ xs
all_there xs e = let few : length xs ≤ 501 = grind (arith, nat_tests) in take_all 501 xs few

-- of more than 500 the first are more than 500 too
too_many : {A : Type 0} (xs : List A) → nat_lt 500 (length xs) ≡ true → nat_lt 500 (length (take enough xs)) ≡ true
too_many xs e = let many : 501 ≤ length xs = grind (arith, nat_tests) in rw (length-take-le 501 xs many) refl

pub entries_enough : (entries : List Entry) (draw : Draw) (state : State) → many_added (take enough entries) draw state ≡ many_added entries draw state
unfolding many_added
entries_enough entries draw state = by (nat_lt 500 (length entries)) refl
  where
    by : (many : Bool) → nat_lt 500 (length entries) ≡ many → many_added (take enough entries) draw state ≡ many_added entries draw state
    by false e = ap (λ es. many_added es draw state) (all_there entries e)
    by true e = rw (too_many entries e, e) refl

pub positions_enough : (new : NewOrder) (draw : Draw) (state : State)
    → order_created (record new { positions = take enough new.positions }) draw state ≡ order_created new draw state
unfolding order_created
positions_enough new draw state = by (nat_lt 500 (length new.positions)) refl
  where
    by : (many : Bool) → nat_lt 500 (length new.positions) ≡ many
        → order_created (record new { positions = take enough new.positions }) draw state ≡ order_created new draw state
    by false e = ap (λ ps. order_created (record new { positions = ps }) draw state) (all_there new.positions e)
    by true e =
        let some : (length new.positions == 0) ≡ false = grind (arith, nat_tests) in
        let first : (length (take enough new.positions) == 0) ≡ false = let l = too_many new.positions e in grind (arith, nat_tests) in
        rw (first, some, too_many new.positions e, e) refl
