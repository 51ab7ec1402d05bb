-- Where no quota is over, no quota is taken too much of.
use Rattle.std.proofs.Common.{◌≡◌, ℕ, ◌-◌, Bool, true, false, List, [], ◌∷◌, Option, Some, None, refl, ap, ◌∙◌, subst, count_by, arith}
use Rattle.std.specs.Prelude.{◌&&◌}
use Rattle.std.specs.List.{AllByRecursion}
use Rattle.std.proofs.lemmas.Bool.Decides.{nat_tests}
use Rattle.base_tables.proofs.Edits.{row_at-with_row}
use Rattle.model_catalogue.specs.declared.rows.Quota.{Quota}
use Rattle.model_rows.specs.declared.rows.CartPos.{CartPos}
use Rattle.model_rows.specs.declared.rows.Own.{Own}
use Rattle.model_rows.specs.declared.rows.Own.TheVariants.{Cart}
use Rattle.model_rows.specs.declared.changes.Change.TheVariants.{PutCart}
use Rattle.model_rows.specs.Lists.{Lists, State, cart_at}
use Rattle.model_rows.specs.Change.{after_change}
use Rattle.model_rows.specs.Numbered.{with_cart}
use Rattle.model_rows.specs.Over.{first_over, is_over, is_over_size, is_free, is_free_cart, ignores, quota_weighed}
use Rattle.model_rows.specs.Total.{total}
use Rattle.model_rows.specs.Usage.{usage_of, cart_counts}
use Rattle.model_rows.specs.Takes.{places_used, IsWithin, TakesNoMore}
use Rattle.model_rows.proofs.Takes.{none_passes, within}

pub and_false : (b : Bool) → (b && false) ≡ false
and_false true = refl
and_false false = refl

-- a new row whose voucher heeds quotas is weighed in each
module _ (lists : Lists) (at : ℕ) (quota : Quota) (row : CartPos) where
  is_found : cart_at row.id (after_change (PutCart row) lists) ≡ Some row
  is_found = let e = row_at-with_row (λ (r : CartPos). r.id) row.id row lists.carts in grind (arith, nat_tests, e)

  not_free : ignores (after_change (PutCart row) lists) row.voucher ≡ false → is_free (after_change (PutCart row) lists) at quota (Cart row.id) ≡ false
  not_free heeds =
      ap (λ (c : Option CartPos). is_free_cart (after_change (PutCart row) lists) at quota c) is_found
      ∙ ap (λ (free : Bool). cart_counts (after_change (PutCart row) lists) at quota row && free) heeds
      ∙ and_false (cart_counts (after_change (PutCart row) lists) at quota row)

less_none : (test : Own → Bool) (own : Own) (n : ℕ) → test own ≡ false → n - count_by test (own ∷ []) ≡ n
less_none test own n h = rw h (omega arith)

weighs_all : (lists : Lists) (at : ℕ) (quota : Quota) (row : CartPos) → ignores (after_change (PutCart row) lists) row.voucher ≡ false → quota_weighed (after_change (PutCart row) lists) at quota (Cart row.id ∷ []) ≡ total (usage_of (after_change (PutCart row) lists) at quota)
unfolding quota_weighed
weighs_all lists at quota row heeds =
    less_none (is_free (after_change (PutCart row) lists) at quota) (Cart row.id) (total (usage_of (after_change (PutCart row) lists) at quota)) (not_free lists at quota row heeds)

all_within : (before : State) (row : CartPos) (quotas : List Quota) → ignores (after_change (PutCart row) before.lists) row.voucher ≡ false
    → AllByRecursion (λ quota. is_over before.lists (after_change (PutCart row) before.lists) before.moment (Cart row.id ∷ []) quota ≡ false) quotas
    → AllByRecursion (λ quota. IsWithin quota.size (places_used before quota) (places_used (with_cart row before) quota)) quotas
all_within before row [] heeds h = tt
all_within before row (quota ∷ quotas) heeds h =
    (within quota.size (places_used before quota) (places_used (with_cart row before) quota) (subst (λ (n : ℕ). is_over_size quota.size (places_used before quota) n ≡ false) (weighs_all before.lists before.moment quota row heeds) h.0), all_within before row quotas heeds h.1)

pub takes_no_more : (before : State) (row : CartPos) → ignores (after_change (PutCart row) before.lists) row.voucher ≡ false → first_over before.lists (after_change (PutCart row) before.lists) before.moment (Cart row.id ∷ []) ≡ None → TakesNoMore before (with_cart row before)
takes_no_more before row heeds h =
    all_within before row before.lists.catalogue.quotas heeds (none_passes (is_over before.lists (after_change (PutCart row) before.lists) before.moment (Cart row.id ∷ [])) before.lists.catalogue.quotas h)
