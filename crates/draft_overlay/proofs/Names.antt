-- How many rows name a voucher, one change after another.
use Rattle.std.proofs.Common.{◌≡◌, ℕ, zero, suc, ◌+◌, ◌<◌, ◌||◌, length, get_or, Option, None, Some, refl, ap, ◌∙◌, count_by, arith}
use Rattle.std.specs.Prelude.{if◌then◌else◌, nat_lt}
use Rattle.std.specs.List.{list_any}
use Rattle.std.proofs.lemmas.Bool.Decides.{nat_tests}
use Rattle.base_tables.specs.Tables.{sum_at}
use Rattle.base_tables.proofs.Edits.{sum_by-with_row, sum_by-without_row}
use Rattle.model_rows.specs.declared.rows.CartPos.{CartPos}
use Rattle.model_rows.specs.declared.rows.OrderPos.{OrderPos}
use Rattle.model_rows.specs.declared.rows.Waiting.{Waiting}
use Rattle.model_rows.specs.declared.changes.Change.{Change}
use Rattle.model_rows.specs.declared.changes.Change.TheVariants.{PutCart, PutPosition, PutWaiting, DropCart, DropWaiting}
use Rattle.model_rows.specs.Conditions.{names}
use Rattle.model_rows.specs.Lists.{Lists, cart_at, waiting_at, position_at}
use Rattle.model_rows.specs.Change.{after_change}
use Rattle.model_rows.specs.Kept.{IsKept}
use Rattle.model_rows.specs.Named.{is_used}
use Rattle.book_usage.specs.Naming.{naming}
use Rattle.book_log.proofs.TableCounts.{some_counted}
use Rattle.draft_overlay.specs.Logs.{Log, IsSale, AreSales, rows_at}
use Rattle.draft_overlay.specs.Names.{cart_name, entry_name, name_put, name_gone}
use Rattle.draft_overlay.proofs.Sales.{sale_at}
use Rattle.draft_overlay.proofs.Steps.{after_all_more}

-- one, where the name is the voucher's
abbrev pub one_name : ℕ → Option ℕ → ℕ
one_name voucher name = if names voucher name then 1 else 0

either : (m n : ℕ) → (nat_lt 0 m || nat_lt 0 n) ≡ nat_lt 0 (m + n)
either zero n = grind (arith, nat_tests)
either (suc m) n = grind (arith, nat_tests)

-- a voucher is used where some row names it
pub used_if_named : (id : ℕ) (lists : Lists) → is_used id lists ≡ nat_lt 0 (naming id lists)
used_if_named id lists =
    let p = count_by (λ (r : OrderPos). names id r.voucher) lists.positions in
    let c = count_by (λ (r : CartPos). names id r.voucher) lists.carts in
    let w = count_by (λ (r : Waiting). names id r.voucher) lists.waiting in
    let all : (p + (c + w)) ≡ (p + c) + w = omega arith in
    ap (λ b. b || (list_any (λ (r : CartPos). names id r.voucher) lists.carts || list_any (λ (r : Waiting). names id r.voucher) lists.waiting)) (some_counted (λ (r : OrderPos). names id r.voucher) lists.positions)
    ∙ ap (λ b. nat_lt 0 p || (b || list_any (λ (r : Waiting). names id r.voucher) lists.waiting)) (some_counted (λ (r : CartPos). names id r.voucher) lists.carts)
    ∙ ap (λ b. nat_lt 0 p || (nat_lt 0 c || b)) (some_counted (λ (r : Waiting). names id r.voucher) lists.waiting)
    ∙ ap (λ b. nat_lt 0 p || b) (either c w)
    ∙ either p (c + w)
    ∙ ap (nat_lt 0) all

cart_one : (id : ℕ) (cart : Option CartPos) → sum_at (λ (c : CartPos). one_name id c.voucher) cart ≡ one_name id (cart_name cart)
cart_one id None = refl
cart_one id (Some cart) = refl

entry_one : (id : ℕ) (entry : Option Waiting) → sum_at (λ (w : Waiting). one_name id w.voucher) entry ≡ one_name id (entry_name entry)
entry_one id None = refl
entry_one id (Some entry) = refl

module _ (id limit : ℕ) (lists : Lists) (kept : IsKept limit lists) where
  -- with a change there is one more where the row that it puts names the voucher, and one less where the old row did
  naming_step : (change : Change) → IsSale change lists → naming id (after_change change lists) + one_name id (name_gone lists change) ≡ naming id lists + one_name id (name_put change)
  naming_step (PutCart row) is = omega (arith, sum_by-with_row (λ (r : CartPos). r.id) (λ (c : CartPos). one_name id c.voucher) 0 row lists.carts kept.carts.in_order, cart_one id (cart_at row.id lists))
  naming_step (DropCart gone) is = omega (arith, sum_by-without_row (λ (r : CartPos). r.id) (λ (c : CartPos). one_name id c.voucher) 0 gone lists.carts kept.carts.in_order, cart_one id (cart_at gone lists))
  naming_step (PutPosition row) is =
      let none : sum_at (λ (p : OrderPos). one_name id p.voucher) (position_at row.id lists) ≡ 0 = ap (sum_at (λ (p : OrderPos). one_name id p.voucher)) is in
      omega (arith, sum_by-with_row (λ (r : OrderPos). r.id) (λ (p : OrderPos). one_name id p.voucher) 0 row lists.positions kept.positions.in_order, none)
  naming_step (PutWaiting row) is = omega (arith, sum_by-with_row (λ (r : Waiting). r.id) (λ (w : Waiting). one_name id w.voucher) 0 row lists.waiting kept.waiting.in_order, entry_one id (waiting_at row.id lists))
  naming_step (DropWaiting gone) is = omega (arith, sum_by-without_row (λ (r : Waiting). r.id) (λ (w : Waiting). one_name id w.voucher) 0 gone lists.waiting kept.waiting.in_order, entry_one id (waiting_at gone lists))
  naming_step _ is = refl

pub naming_more : (id limit : ℕ) (log : Log) (i : ℕ) (d : Change) → i < length log.changes → IsKept limit (rows_at i log) → AreSales log.changes log.base → naming id (rows_at (i + 1) log) + one_name id (name_gone (rows_at i log) (get_or log.changes i d)) ≡ naming id (rows_at i log) + one_name id (name_put (get_or log.changes i d))
naming_more id limit log i d lt kept sales =
    let change = get_or log.changes i d in
    ap (λ (lists : Lists). naming id lists + one_name id (name_gone (rows_at i log) change)) (after_all_more log.changes i d log.base lt)
    ∙ naming_step id limit (rows_at i log) kept change (sale_at i d log.changes log.base lt sales)
