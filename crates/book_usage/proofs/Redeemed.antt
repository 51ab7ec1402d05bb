-- How often orders that stand use a voucher, after a change of one row.
use Rattle.std.proofs.Common.{◌≡◌, ℕ, ◌+◌, ◌≤◌, Bool, true, false, ◌&&◌, None, Some, refl, ap, ◌∙◌, count_by, arith}
use Rattle.std.proofs.lemmas.List.Sums.{count_by-le-length}
use Rattle.base_tables.specs.Tables.{sum_at, AreInOrder}
use Rattle.model_rows.specs.declared.rows.Order.{Order}
use Rattle.model_rows.specs.declared.rows.OrderPos.{OrderPos}
use Rattle.model_rows.specs.declared.changes.Change.TheVariants.{PutOrder, PutPosition}
use Rattle.model_rows.specs.Conditions.{is_in_force, names}
use Rattle.model_rows.specs.Lists.{Lists, order_at, position_at}
use Rattle.model_rows.specs.Change.{after_change}
use Rattle.model_rows.specs.Kept.{IsKept}
use Rattle.model_rows.specs.Usage.{stands_as, uses, redeemed}
use Rattle.model_rows.proofs.Time.{one, same_sums}
use Rattle.model_rows.proofs.Orders.{counts, of_order, order_step, position_step}
use Rattle.book_usage.specs.OfOrder.{count_ordered, if_stands}
use Rattle.book_usage.proofs.OrderSums.{of_one, order_put_is}

abbrev pub named : ℕ → OrderPos → Bool
named id p = names id p.voucher

turned : (a b : Bool) → one (a && b) ≡ one (b && a)
turned true true = refl
turned true false = refl
turned false true = refl
turned false false = refl

uses_is : (id : ℕ) (lists : Lists) → redeemed id lists ≡ count_by (counts is_in_force (named id) lists) lists.positions
uses_is id lists = same_sums (λ p. one (uses id lists p)) (λ p. one (counts is_in_force (named id) lists p)) lists.positions (λ p. turned (named id p) (stands_as is_in_force (order_at p.order lists)))

pub redeemed_order : (id : ℕ) (order : Order) (lists : Lists) → redeemed id (after_change (PutOrder order) lists) + if_stands is_in_force (order_at order.id lists) (count_ordered order.id (named id) lists) ≡ redeemed id lists + if_stands is_in_force (Some order) (count_ordered order.id (named id) lists)
redeemed_order id order lists =
    let after = after_change (PutOrder order) lists in
    let now : count_by (λ p. of_order is_in_force (named id) order p && counts is_in_force (named id) after p) lists.positions ≡ if_stands is_in_force (Some order) (count_ordered order.id (named id) lists) =
    of_one is_in_force (named id) order.id after ∙ ap (λ o. if_stands is_in_force o (count_ordered order.id (named id) lists)) (order_put_is order lists) in
    omega (arith, uses_is id lists, uses_is id after, order_step is_in_force (named id) order lists, of_one is_in_force (named id) order.id lists, now)

pub redeemed_position : (id : ℕ) (p : OrderPos) (lists : Lists) → AreInOrder (λ r. r.id) lists.positions → position_at p.id lists ≡ None → redeemed id (after_change (PutPosition p) lists) ≡ redeemed id lists + one (uses id lists p)
redeemed_position id p lists order new =
    let after = after_change (PutPosition p) lists in
    let none : sum_at (λ q. one (counts is_in_force (named id) lists q)) (position_at p.id lists) ≡ 0 = ap (sum_at (λ q. one (counts is_in_force (named id) lists q))) new in
    omega (arith, uses_is id lists, uses_is id after, position_step is_in_force (named id) p lists order, none, turned (named id p) (stands_as is_in_force (order_at p.order lists)))

pub redeemed_le : (id limit : ℕ) (lists : Lists) → IsKept limit lists → redeemed id lists ≤ limit
redeemed_le id limit lists kept = omega (arith, kept.positions.few, count_by-le-length (uses id lists) lists.positions)
