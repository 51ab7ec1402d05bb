-- How many cart positions pass a test, one change after another.
use Rattle.std.proofs.Common.{◌≡◌, ℕ, ◌+◌, ◌<◌, Bool, true, false, length, get_or, refl, ap, ◌∙◌, count_by}
use mir.Val.{bool_byte}
use Rattle.std.specs.Prelude.{if◌then◌else◌}
use Rattle.base_tables.specs.Tables.{sum_at, AreInOrder}
use Rattle.base_tables.proofs.Edits.{sum_by-with_row, sum_by-without_row}
use Rattle.model_rows.specs.declared.rows.CartPos.{CartPos}
use Rattle.model_rows.specs.declared.changes.Change.{Change}
use Rattle.model_rows.specs.declared.changes.Change.TheVariants.{PutCart, DropCart}
use Rattle.model_rows.specs.Lists.{Lists, cart_at}
use Rattle.model_rows.specs.Change.{after_change}
use Rattle.draft_overlay.specs.Logs.{Log, rows_at}
use Rattle.draft_overlay.proofs.Steps.{after_all_more}

module _ (passes : CartPos → Bool) (log : Log) (i : ℕ) (d : Change) (lt : i < length log.changes) where
  pub count_put : (row : CartPos) → get_or log.changes i d ≡ PutCart row → AreInOrder (λ r. r.id) (rows_at i log).carts → count_by passes (rows_at (i + 1) log).carts + sum_at (λ c. if passes c then 1 else 0) (cart_at row.id (rows_at i log)) ≡ count_by passes (rows_at i log).carts + (if passes row then 1 else 0)
  count_put row is order = ap (λ (h : Lists). count_by passes h.carts + sum_at (λ c. if passes c then 1 else 0) (cart_at row.id (rows_at i log))) (after_all_more log.changes i d log.base lt ∙ ap (λ (c : Change). after_change c (rows_at i log)) is) ∙ sum_by-with_row (λ r. r.id) (λ c. if passes c then 1 else 0) 0 row (rows_at i log).carts order

  pub count_drop : (gone : ℕ) → get_or log.changes i d ≡ DropCart gone → AreInOrder (λ r. r.id) (rows_at i log).carts → count_by passes (rows_at (i + 1) log).carts + sum_at (λ c. if passes c then 1 else 0) (cart_at gone (rows_at i log)) ≡ count_by passes (rows_at i log).carts
  count_drop gone is order = ap (λ (h : Lists). count_by passes h.carts + sum_at (λ c. if passes c then 1 else 0) (cart_at gone (rows_at i log))) (after_all_more log.changes i d log.base lt ∙ ap (λ (c : Change). after_change c (rows_at i log)) is) ∙ sum_by-without_row (λ r. r.id) (λ c. if passes c then 1 else 0) 0 gone (rows_at i log).carts order

  count_by_change : (change : Change) (lists : Lists) → ((row : CartPos) → change ≡ PutCart row → ⊥) → ((gone : ℕ) → change ≡ DropCart gone → ⊥) → count_by passes (after_change change lists).carts ≡ count_by passes lists.carts
  count_by_change (PutCart row) lists a b = absurd (a row refl)
  count_by_change (DropCart gone) lists a b = absurd (b gone refl)
  count_by_change _ lists a b = refl

  pub count_other : ((row : CartPos) → get_or log.changes i d ≡ PutCart row → ⊥) → ((gone : ℕ) → get_or log.changes i d ≡ DropCart gone → ⊥) → count_by passes (rows_at (i + 1) log).carts ≡ count_by passes (rows_at i log).carts
  count_other a b = ap (λ (h : Lists). count_by passes h.carts) (after_all_more log.changes i d log.base lt) ∙ count_by_change (get_or log.changes i d) (rows_at i log) a b

-- a test as a number
pub byte_is : (b : Bool) → bool_byte b ≡ (if b then 1 else 0)
byte_is true = refl
byte_is false = refl
