-- The purchases of an order: what its positions are for, the vouchers that they name, their discounts, and whether they have gone out.
use Rattle.std.specs.Prelude.{◌≡◌, ℕ, ◌+◌, ◌==◌, Bool, ◌&&◌, List, sum_by, if◌then◌else◌}
use Rattle.model_rows.specs.declared.changes.Change.{Change}
use Rattle.model_rows.specs.declared.changes.Change.TheVariants.{PutPosition}
use Rattle.model_rows.specs.declared.rows.OrderPos.{OrderPos}
use Rattle.model_rows.specs.Lists.{Lists}
use Rattle.model_rows.specs.Passages.{is_out}
use Rattle.book_log.specs.Puts.{puts}
use Rattle.draft_overlay.specs.declared.purchases.Purchase.{Purchase}

-- what an order position is for, the voucher that it names, its discount, and whether it has gone out
abbrev pub purchase : Lists → OrderPos → Purchase
purchase lists position = record { product = position.product; voucher = position.voucher; discount = position.discount; out = is_out position.id lists.checkins }

-- the weights of the order's positions, added up
abbrev pub sum_ordered : ℕ → (OrderPos → ℕ) → Lists → ℕ
sum_ordered id weight lists = sum_by (λ p. if id == p.order then weight p else 0) lists.positions

-- the order's positions weigh as much as these purchases, whatever is weighed
abbrev pub ArePurchasesOf : ℕ → Lists → List Purchase → Type 0
ArePurchasesOf order lists purchases = (weight : Purchase → ℕ) → sum_by weight purchases ≡ sum_ordered order (λ p. weight (purchase lists p)) lists

-- the change puts a position of the order that passes
abbrev pub puts_ordered : ℕ → (OrderPos → Bool) → Change → Bool
puts_ordered order passes = puts (λ p. order == p.order && passes p)

-- what the order position weighs that a change puts
abbrev pub weighs : (OrderPos → ℕ) → Change → ℕ
weighs weight (PutPosition row) = weight row
weighs weight _ = 0

-- what the purchase of the order weighs that a change puts
abbrev pub weight_put : ℕ → Lists → (Purchase → ℕ) → Change → ℕ
weight_put order lists weight = weighs (λ p. if order == p.order then weight (purchase lists p) else 0)

-- the new purchases weigh so much more than the old ones, whatever is weighed
abbrev pub WeighMore : ((Purchase → ℕ) → ℕ) → List Purchase → List Purchase → Type 0
WeighMore more old new = (weight : Purchase → ℕ) → sum_by weight new ≡ sum_by weight old + more weight
