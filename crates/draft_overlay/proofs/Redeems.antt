-- How often orders that stand use a voucher, one change after another.
use Rattle.std.proofs.Common.{◌≡◌, ℕ, ◌+◌, ◌<◌, length, get_or, Some, refl, ap, ◌∙◌, subst}
use Rattle.base_tables.specs.Tables.{AreInOrder}
use Rattle.model_rows.specs.declared.rows.Order.{Order}
use Rattle.model_rows.specs.declared.rows.OrderPos.{OrderPos}
use Rattle.model_rows.specs.declared.changes.Change.{Change}
use Rattle.model_rows.specs.declared.changes.Change.TheVariants.{PutOrder, PutPosition}
use Rattle.model_rows.specs.Conditions.{is_in_force}
use Rattle.model_rows.specs.Lists.{Lists, order_at}
use Rattle.model_rows.specs.Change.{after_change}
use Rattle.model_rows.specs.Usage.{uses, redeemed}
use Rattle.model_rows.proofs.Time.{one}
use Rattle.draft_overlay.specs.Logs.{Log, AreSales, IsSale, rows_at}
use Rattle.draft_overlay.proofs.Sales.{sale_at}
use Rattle.draft_overlay.proofs.Steps.{after_all_more}
use Rattle.book_usage.specs.OfOrder.{count_ordered, if_stands}
use Rattle.book_usage.proofs.Redeemed.{named, redeemed_order, redeemed_position}

module _ (id : ℕ) (log : Log) (i : ℕ) (d : Change) (lt : i < length log.changes) where
  one_more : rows_at (i + 1) log ≡ after_change (get_or log.changes i d) (rows_at i log)
  one_more = after_all_more log.changes i d log.base lt

  as_is : (change : Change) → get_or log.changes i d ≡ change → rows_at (i + 1) log ≡ after_change change (rows_at i log)
  as_is change is = one_more ∙ ap (λ (c : Change). after_change c (rows_at i log)) is

  pub redeemed_put_order : (row : Order) → get_or log.changes i d ≡ PutOrder row → redeemed id (rows_at (i + 1) log) + if_stands is_in_force (order_at row.id (rows_at i log)) (count_ordered row.id (named id) (rows_at i log)) ≡ redeemed id (rows_at i log) + if_stands is_in_force (Some row) (count_ordered row.id (named id) (rows_at i log))
  redeemed_put_order row is = ap (λ (h : Lists). redeemed id h + if_stands is_in_force (order_at row.id (rows_at i log)) (count_ordered row.id (named id) (rows_at i log))) (as_is (PutOrder row) is) ∙ redeemed_order id row (rows_at i log)

  pub redeemed_put_position : (row : OrderPos) → get_or log.changes i d ≡ PutPosition row → AreInOrder (λ r. r.id) (rows_at i log).positions → AreSales log.changes log.base → redeemed id (rows_at (i + 1) log) ≡ redeemed id (rows_at i log) + one (uses id (rows_at i log) row)
  redeemed_put_position row is order sales =
      let new = subst (λ (c : Change). IsSale c (rows_at i log)) is (sale_at i d log.changes log.base lt sales) in
      ap (redeemed id) (as_is (PutPosition row) is) ∙ redeemed_position id row (rows_at i log) order new

  redeemed_by : (change : Change) (lists : Lists) → ((row : Order) → change ≡ PutOrder row → ⊥) → ((row : OrderPos) → change ≡ PutPosition row → ⊥) → redeemed id (after_change change lists) ≡ redeemed id lists
  redeemed_by (PutOrder row) lists a b = absurd (a row refl)
  redeemed_by (PutPosition row) lists a b = absurd (b row refl)
  redeemed_by _ lists a b = refl

  pub redeemed_other : ((row : Order) → get_or log.changes i d ≡ PutOrder row → ⊥) → ((row : OrderPos) → get_or log.changes i d ≡ PutPosition row → ⊥) → redeemed id (rows_at (i + 1) log) ≡ redeemed id (rows_at i log)
  redeemed_other a b = ap (redeemed id) one_more ∙ redeemed_by (get_or log.changes i d) (rows_at i log) a b
