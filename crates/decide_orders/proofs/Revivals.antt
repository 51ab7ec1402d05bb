-- An order that comes back takes too much of no quota, where the vouchers of its positions heed quotas. Its budgets are tested by number.
use Rattle.std.proofs.Common.{◌≡◌, ℕ, ◌-◌, Bool, true, false, ◌&&◌, eqb, cond, List, [], ◌∷◌, map, filter, find, option_map, Option, Some, None, refl, ap, ◌∙◌, subst, count_by, arith}
use Rattle.std.specs.Prelude.{nat_le, if◌then◌else◌}
use Rattle.std.specs.List.{AllByRecursion, list_all}
use Rattle.std.proofs.lemmas.List.Sums.{sum_by-cons}
use Rattle.base_tables.specs.Tables.{AreInOrder}
use Rattle.model_catalogue.specs.declared.rows.Quota.{Quota}
use Rattle.model_rows.specs.declared.rows.Order.{Order}
use Rattle.model_rows.specs.declared.rows.OrderPos.{OrderPos}
use Rattle.model_rows.specs.declared.rows.Own.TheVariants.{Position}
use Rattle.model_rows.specs.declared.changes.Change.TheVariants.{PutOrder}
use Rattle.model_rows.specs.Budgets.{is_within, are_within}
use Rattle.model_rows.specs.Lists.{Lists, State, position_at, positions_of}
use Rattle.model_rows.specs.Change.{after_change, change_applied}
use Rattle.model_rows.specs.Over.{first_over, is_over, is_over_size, is_free, is_free_position, ignores, quota_weighed}
use Rattle.model_rows.specs.Takes.{places_used, IsWithin, TakesNoMore}
use Rattle.model_rows.specs.Total.{total}
use Rattle.model_rows.specs.Usage.{usage_of, takes_place}
use Rattle.model_rows.proofs.Found.{each_found}
use Rattle.model_rows.proofs.Takes.{none_passes, within}
use Rattle.model_rows.proofs.Time.{one}
use Rattle.model_invariant.specs.Positions.{position_placed, by_positionid}
use Rattle.model_invariant.proofs.ByNumber.{sorted_count}
use Rattle.decide_orders.proofs.Takes.{and_false}

-- positions that stand, and whose vouchers heed quotas, are weighed in each
module _ (lists : Lists) (at : ℕ) (quota : Quota) where
  not_free : (p : OrderPos) → position_at p.id lists ≡ Some p → ignores lists p.voucher ≡ false → is_free lists at quota (Position p.id) ≡ false
  not_free p stands heeds =
      ap (λ (found : Option OrderPos). is_free_position lists quota found) stands
      ∙ ap (λ (free : Bool). takes_place lists quota p && free) heeds
      ∙ and_false (takes_place lists quota p)

  none_free : (ps : List OrderPos) → AllByRecursion (λ p. position_at p.id lists ≡ Some p) ps → AllByRecursion (λ p. ignores lists p.voucher ≡ false) ps → count_by (is_free lists at quota) (map (λ p. Position p.id) ps) ≡ 0
  none_free [] stand heed = refl
  none_free (p ∷ ps) stand heed = omega (arith, ap one (not_free p stand.0 heed.0), none_free ps stand.1 heed.1, sum_by-cons (λ own. one (is_free lists at quota own)) (Position p.id) (map (λ q. Position q.id) ps))

  less_none : (n free : ℕ) → free ≡ 0 → n - free ≡ n
  less_none n free e = omega (arith, e)

  pub weighs_positions : (ps : List OrderPos) → AllByRecursion (λ p. position_at p.id lists ≡ Some p) ps → AllByRecursion (λ p. ignores lists p.voucher ≡ false) ps → quota_weighed lists at quota (map (λ p. Position p.id) ps) ≡ total (usage_of lists at quota)
  unfolding quota_weighed
  weighs_positions ps stand heed = less_none (total (usage_of lists at quota)) (count_by (is_free lists at quota) (map (λ p. Position p.id) ps)) (none_free ps stand heed)

-- positions weigh as much by their numbers, so the same quota is over
weighed_sorted : (lists : Lists) (at : ℕ) (quota : Quota) (ps : List OrderPos) → quota_weighed lists at quota (map (λ p. Position p.id) (by_positionid ps)) ≡ quota_weighed lists at quota (map (λ p. Position p.id) ps)
unfolding quota_weighed
weighed_sorted lists at quota ps = ap (λ (n : ℕ). total (usage_of lists at quota) - n) (sorted_count (λ (p : OrderPos). Position p.id) (is_free lists at quota) ps)

pub over_sorted : (before after : Lists) (at : ℕ) (ps : List OrderPos) → first_over before after at (map (λ p. Position p.id) (by_positionid ps)) ≡ first_over before after at (map (λ p. Position p.id) ps)
over_sorted before after at ps = λ i. option_map (λ (quota : Quota). quota.id) (find (λ (quota : Quota). is_over_size quota.size (total (usage_of before at quota)) (weighed_sorted after at quota ps i)) after.catalogue.quotas)

-- and the same are within budgets
swapped : (a b c : Bool) → (a && (b && c)) ≡ (b && (a && c))
swapped true true c = refl
swapped true false c = refl
swapped false true c = refl
swapped false false c = refl

all_placed : (test : OrderPos → Bool) (p : OrderPos) (qs : List OrderPos) → list_all test (position_placed p qs) ≡ (test p && list_all test qs)
all_placed test p [] = refl
all_placed test p (q ∷ qs) = by_turn (nat_le p.positionid q.positionid) (all_placed test p qs)
  where
    by_turn : (b : Bool) → list_all test (position_placed p qs) ≡ (test p && list_all test qs) → list_all test (if b then p ∷ q ∷ qs else q ∷ position_placed p qs) ≡ (test p && (test q && list_all test qs))
    by_turn true more = refl
    by_turn false more = ap (λ (b : Bool). test q && b) more ∙ swapped (test q) (test p) (list_all test qs)

pub within_sorted : (lists : Lists) (ps : List OrderPos) → are_within lists (by_positionid ps) ≡ are_within lists ps
within_sorted lists [] = refl
within_sorted lists (p ∷ ps) =
    all_placed (λ q. is_within lists q.voucher) p (by_positionid ps) ∙ ap (λ (b : Bool). is_within lists p.voucher && b) (within_sorted lists ps)

all_filtered : (P : OrderPos → Type 0) (test : OrderPos → Bool) (ps : List OrderPos) → AllByRecursion P ps → AllByRecursion P (filter test ps)
all_filtered P test [] h = tt
all_filtered P test (p ∷ ps) h = by_test (test p) (all_filtered P test ps h.1)
  where
    by_test : (b : Bool) → AllByRecursion P (filter test ps) → AllByRecursion P (cond b (p ∷ filter test ps) (filter test ps))
    by_test true more = (h.0, more)
    by_test false more = more

module _ (before : State) (row : Order) (order : AreInOrder (λ r. r.id) before.lists.positions) (heed : AllByRecursion (λ p. ignores before.lists p.voucher ≡ false) (positions_of row.id before.lists)) where
  abbrev later : Lists
  later = after_change (PutOrder row) before.lists

  abbrev own : List OrderPos
  own = positions_of row.id before.lists

  stand : AllByRecursion (λ p. position_at p.id later ≡ Some p) own
  stand = all_filtered (λ p. position_at p.id later ≡ Some p) (λ p. eqb row.id p.order) before.lists.positions (each_found (λ r. r.id) 0 before.lists.positions order)

  all_within : (quotas : List Quota) → AllByRecursion (λ quota. is_over before.lists later before.moment (map (λ p. Position p.id) own) quota ≡ false) quotas → AllByRecursion (λ quota. IsWithin quota.size (places_used before quota) (places_used (change_applied (PutOrder row) before) quota)) quotas
  all_within [] h = tt
  all_within (quota ∷ quotas) h =
      (within quota.size (places_used before quota) (places_used (change_applied (PutOrder row) before) quota) (subst (λ (n : ℕ). is_over_size quota.size (places_used before quota) n ≡ false) (weighs_positions later before.moment quota own stand heed) h.0), all_within quotas h.1)

  pub revival_takes_no_more : first_over before.lists later before.moment (map (λ p. Position p.id) own) ≡ None → TakesNoMore before (change_applied (PutOrder row) before)
  revival_takes_no_more h =
      all_within before.lists.catalogue.quotas (none_passes (is_over before.lists later before.moment (map (λ p. Position p.id) own)) before.lists.catalogue.quotas h)
