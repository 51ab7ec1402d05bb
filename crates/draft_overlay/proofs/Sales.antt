-- What changes of sales leave as it is, and the order positions that they put.
use Rattle.std.proofs.Common.{◌≡◌, ℕ, zero, suc, ◌+◌, ◌<◌, ◌≤◌, Bool, List, [], ◌∷◌, ◌++◌, length, take, get_or, refl, ap, ◌∙◌, count_by, sum_by, arith}
use Rattle.std.proofs.lemmas.List.Sums.{sum_by-cons}
use Rattle.base_tables.specs.Tables.{sum_at}
use Rattle.base_tables.proofs.Edits.{sum_by-with_row}
use Rattle.model_rows.specs.declared.rows.OrderPos.{OrderPos}
use Rattle.model_rows.specs.declared.changes.Change.{Change}
use Rattle.model_rows.specs.declared.changes.Change.TheVariants.{PutItem, PutVariation, PutQuota, PutVoucher, PutCart, PutOrder, PutPosition, PutWaiting, DropVoucher, DropCart, DropWaiting, PutCheckinList, PutCheckin}
use Rattle.model_rows.specs.Lists.{Lists, position_at}
use Rattle.model_rows.specs.Change.{after_change, after_all}
use Rattle.model_rows.specs.Kept.{IsKept}
use Rattle.model_rows.proofs.Time.{one, same_sums}
use Rattle.draft_overlay.specs.Logs.{IsSale, AreSales}
use Rattle.draft_overlay.specs.Purchases.{weighs}
use Rattle.book_log.specs.NewCheckins.{IsNewCheckin, AreNewCheckins}
use Rattle.book_log.specs.Puts.{puts}
use Rattle.draft_overlay.proofs.Kept.{kept_after_change}

pub sale_catalogue : (change : Change) (lists : Lists) → IsSale change lists → (after_change change lists).catalogue ≡ lists.catalogue
sale_catalogue (PutItem row) lists is = absurd is
sale_catalogue (PutVariation row) lists is = absurd is
sale_catalogue (PutQuota row) lists is = absurd is
sale_catalogue _ lists is = refl

pub sales_catalogue : (changes : List Change) (lists : Lists) → AreSales changes lists → (after_all changes lists).catalogue ≡ lists.catalogue
sales_catalogue [] lists are = refl
sales_catalogue (c ∷ cs) lists are = sales_catalogue cs (after_change c lists) are.1 ∙ sale_catalogue c lists are.0

-- each check-in that they put is a new one
sale_new : (change : Change) (lists : Lists) → IsSale change lists → IsNewCheckin change lists
sale_new (PutCheckin row) lists is = is
sale_new _ lists is = tt

pub sales_new : (changes : List Change) (lists : Lists) → AreSales changes lists → AreNewCheckins changes lists
sales_new [] lists are = tt
sales_new (c ∷ cs) lists are = (sale_new c lists are.0, sales_new cs (after_change c lists) are.1)

-- a front of them
pub sales_front : (count : ℕ) (changes : List Change) (lists : Lists) → AreSales changes lists → AreSales (take count changes) lists
sales_front zero changes lists are = tt
sales_front (suc count) [] lists are = tt
sales_front (suc count) (c ∷ cs) lists are = (are.0, sales_front count cs (after_change c lists) are.1)

pub front_le : {T : Type 0} (count : ℕ) (rows : List T) → length (take count rows) ≤ length rows
front_le zero rows = omega arith
front_le (suc count) [] = omega arith
front_le (suc count) (r ∷ rows) = omega (arith, front_le count rows)

pub sales_more : (changes : List Change) (change : Change) (lists : Lists) → AreSales changes lists → IsSale change (after_all changes lists) → AreSales (changes ++ change ∷ []) lists
sales_more [] change lists are is = (is, tt)
sales_more (c ∷ cs) change lists are is = (are.0, sales_more cs change (after_change c lists) are.1 is)

-- each of them at its place
pub sale_at : (i : ℕ) (d : Change) (changes : List Change) (lists : Lists) → i < length changes → AreSales changes lists → IsSale (get_or changes i d) (after_all (take i changes) lists)
sale_at i d [] lists lt are = absurd (omega arith)
sale_at zero d (c ∷ cs) lists lt are = are.0
sale_at (suc i) d (c ∷ cs) lists lt are = sale_at i d cs (after_change c lists) (omega arith) are.1

-- one change adds the position that it puts
module _ (weight : OrderPos → ℕ) where
  sale_sum : (limit : ℕ) (change : Change) (lists : Lists) → IsKept limit lists → IsSale change lists → sum_by weight (after_change change lists).positions ≡ sum_by weight lists.positions + weighs weight change
  sale_sum limit (PutPosition row) lists kept is =
      let none : sum_at weight (position_at row.id lists) ≡ 0 = ap (sum_at weight) is in
      omega (arith, sum_by-with_row (λ r. r.id) weight 0 row lists.positions kept.positions.in_order, none)
  sale_sum limit (PutItem row) lists kept is = absurd is
  sale_sum limit (PutVariation row) lists kept is = absurd is
  sale_sum limit (PutQuota row) lists kept is = absurd is
  sale_sum limit (PutVoucher row) lists kept is = omega arith
  sale_sum limit (PutCart row) lists kept is = omega arith
  sale_sum limit (PutOrder row) lists kept is = omega arith
  sale_sum limit (PutWaiting row) lists kept is = omega arith
  sale_sum limit (DropVoucher id) lists kept is = omega arith
  sale_sum limit (DropCart id) lists kept is = omega arith
  sale_sum limit (DropWaiting id) lists kept is = omega arith
  sale_sum limit (PutCheckinList row) lists kept is = omega arith
  sale_sum limit (PutCheckin row) lists kept is = omega arith

  pub sales_sum : (limit : ℕ) (changes : List Change) (lists : Lists) → IsKept limit lists → AreSales changes lists → sum_by weight (after_all changes lists).positions ≡ sum_by weight lists.positions + sum_by (weighs weight) changes
  sales_sum limit [] lists kept are = omega arith
  sales_sum limit (c ∷ cs) lists kept are = omega (arith, sale_sum limit c lists kept are.0, sales_sum (limit + 1) cs (after_change c lists) (kept_after_change limit lists kept c) are.1, sum_by-cons (weighs weight) c cs)

pub sales_count : (passes : OrderPos → Bool) (limit : ℕ) (changes : List Change) (lists : Lists) → IsKept limit lists → AreSales changes lists → count_by passes (after_all changes lists).positions ≡ count_by passes lists.positions + count_by (puts passes) changes
sales_count passes limit changes lists kept are =
    sales_sum (λ p. one (passes p)) limit changes lists kept are
    ∙ ap (λ n. count_by passes lists.positions + n) (same_sums (weighs (λ p. one (passes p))) (λ c. one (puts passes c)) changes one_put)
  where
    one_put : (change : Change) → weighs (λ p. one (passes p)) change ≡ one (puts passes change)
    one_put (PutPosition row) = refl
    one_put _ = refl
