-- The positions of an order, counted by its status.
use Rattle.std.proofs.Common.{◌≡◌, ℕ, Bool, true, ◌&&◌, eqb, Some, ap, ◌∙◌, count_by, arith}
use Rattle.std.specs.Prelude.{if◌then◌else◌}
use Rattle.std.proofs.lemmas.Bool.Decides.{nat_tests}
use Rattle.base_tables.proofs.Edits.{row_at-with_row}
use Rattle.model_rows.specs.declared.rows.Order.{Order}
use Rattle.model_rows.specs.declared.rows.OrderPos.{OrderPos}
use Rattle.model_rows.specs.declared.rows.Status.{Status}
use Rattle.model_rows.specs.declared.changes.Change.TheVariants.{PutOrder}
use Rattle.model_rows.specs.Lists.{Lists, order_at}
use Rattle.model_rows.specs.Change.{after_change}
use Rattle.model_rows.specs.Usage.{stands_as}
use Rattle.model_rows.proofs.Time.{one, same_sums, gated}
use Rattle.book_usage.specs.OfOrder.{count_ordered, if_stands}

-- the positions of an order have one status
pub of_one : (test : Status → Bool) (more : OrderPos → Bool) (id : ℕ) (lists : Lists) → count_by (λ p. eqb id p.order && (stands_as test (order_at p.order lists) && more p)) lists.positions ≡ if_stands test (order_at id lists) (count_ordered id more lists)
of_one test more id lists =
    same_sums (λ p. one (eqb id p.order && (stands_as test (order_at p.order lists) && more p))) (λ p. one (stands_as test (order_at id lists) && (eqb id p.order && more p))) lists.positions
    (λ p. turned (eqb id p.order) (stands_as test (order_at p.order lists)) (stands_as test (order_at id lists)) (more p) (λ e. same p.order e))
    ∙ gated (stands_as test (order_at id lists)) (λ p. eqb id p.order && more p) lists.positions
  where
    same : (x : ℕ) → eqb id x ≡ true → stands_as test (order_at x lists) ≡ stands_as test (order_at id lists)
    same x e =
        let is : x ≡ id = grind (arith, nat_tests, e) in
        ap (λ y. stands_as test (order_at y lists)) is

    turned : (of s t m : Bool) → (of ≡ true → s ≡ t) → one (of && (s && m)) ≡ one (t && (of && m))
    turned of s t m h = grind (arith, h)

-- a put order stands
pub order_put_is : (order : Order) (lists : Lists) → order_at order.id (after_change (PutOrder order) lists) ≡ Some order
order_put_is order lists =
    let same : eqb order.id order.id ≡ true = grind (arith, nat_tests) in
    row_at-with_row (λ r. r.id) order.id order lists.orders ∙ ap (λ b. if b then Some order else order_at order.id lists) same
