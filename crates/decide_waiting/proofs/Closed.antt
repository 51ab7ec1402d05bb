-- The least quota without a place: among the quotas of the product, and by the places that are left of each.
use Rattle.std.proofs.Common.{◌≡◌, ℕ, ◌+◌, ◌-◌, Bool, true, false, not, ◌&&◌, cond, List, [], ◌∷◌, drop, length, map, count_by, Option, Some, None, refl, sym, ap, ◌∙◌, arith}
use Rattle.std.specs.Prelude.{find, filter, option_map, if◌then◌else◌}
use Rattle.std.specs.List.{AllByRecursion}
use Rattle.std.proofs.lemmas.Bool.Decides.{nat_tests}
use Rattle.std.proofs.lemmas.List.{length-map}
use Rattle.base_tables.specs.Tables.{AreInOrder}
use Rattle.model_catalogue.specs.declared.rows.Product.{Product}
use Rattle.model_catalogue.specs.declared.rows.Quota.{Quota}
use Rattle.model_catalogue.specs.CatalogueLists.{quota_at}
use Rattle.model_catalogue.specs.Kept.{quotas_of}
use Rattle.model_catalogue.specs.Member.{is_in}
use Rattle.model_rows.specs.Available.{available, available_number}
use Rattle.model_rows.specs.Lists.{Lists, State}
use Rattle.model_rows.specs.Total.{total}
use Rattle.model_rows.specs.Usage.{usage_of, waits_for}
use Rattle.model_rows.proofs.Found.{each_found}
use Rattle.decide_waiting.specs.Places.{without_waiting, used_unwaited, is_full, is_closed, first_closed}
use Rattle.decide_waiting.specs.Steps.{is_full_by, is_full_at, places_left, has_none_left, first_without_place, one_less, after_one, all_after_one}
use Rattle.decide_waiting.specs.Sending.{place_in}

-- all that is used, less the entries that wait
pub without : (lists : Lists) (at : ℕ) (quota : Quota) → total (usage_of lists at quota) - count_by (waits_for quota) lists.waiting ≡ without_waiting (usage_of lists at quota)
unfolding usage_of
without lists at quota = omega arith

-- the first of some ids that passes
module _ (test : ℕ → Bool) (ids : List ℕ) (i id : ℕ) (here : drop i ids ≡ id ∷ drop (i + 1) ids) where
  pub found_here : test id ≡ true → find test (drop i ids) ≡ Some id
  found_here is = ap (find test) here ∙ ap (λ b. cond b (Some id) (find test (drop (i + 1) ids))) is

  pub found_later : test id ≡ false → find test (drop (i + 1) ids) ≡ find test (drop i ids)
  found_later is = sym (ap (find test) here ∙ ap (λ b. cond b (Some id) (find test (drop (i + 1) ids))) is)

module _ (state : State) (product : Product) where
  -- searching the ids of the product's quotas
  by_ids : (quotas : List Quota) → AllByRecursion (λ q. quota_at q.id state.lists.catalogue ≡ Some q) quotas → find (is_full_at state) (map (λ q. q.id) (filter (λ q. is_in q product) quotas)) ≡ option_map (λ q. q.id) (find (is_closed state product) quotas)
  by_ids [] h = refl
  by_ids (q ∷ qs) h = by_in (is_in q product) (by_ids qs h.1)
    where
      by_full : (b : Bool) → find (is_full_at state) (map (λ q. q.id) (filter (λ q. is_in q product) qs)) ≡ option_map (λ q. q.id) (find (is_closed state product) qs) → cond b (Some q.id) (find (is_full_at state) (map (λ q. q.id) (filter (λ q. is_in q product) qs))) ≡ option_map (λ q. q.id) (cond b (Some q) (find (is_closed state product) qs))
      by_full true rest = refl
      by_full false rest = rest

      by_in : (b : Bool) → find (is_full_at state) (map (λ q. q.id) (filter (λ q. is_in q product) qs)) ≡ option_map (λ q. q.id) (find (is_closed state product) qs)
          → find (is_full_at state) (map (λ q. q.id) (cond b (q ∷ filter (λ q. is_in q product) qs) (filter (λ q. is_in q product) qs))) ≡ option_map (λ q. q.id) (cond (b && is_full state q) (Some q) (find (is_closed state product) qs))
      by_in false rest = rest
      by_in true rest = ap (λ (found : Option Quota). cond (is_full_by state found) (Some q.id) (find (is_full_at state) (map (λ q. q.id) (filter (λ q. is_in q product) qs)))) h.0 ∙ by_full (is_full state q) rest

  pub first_by_ids : AreInOrder (λ q. q.id) state.lists.catalogue.quotas → find (is_full_at state) (quotas_of product state.lists.catalogue) ≡ first_closed state product
  unfolding first_closed
  first_by_ids order = by_ids state.lists.catalogue.quotas (each_found (λ (q : Quota). q.id) 0 state.lists.catalogue.quotas order)

  -- by the places that are left
  none_left : (size : Option ℕ) (used : ℕ) → has_none_left (available_number size used) ≡ not (available size used)
  none_left None used = refl
  none_left (Some size) used = grind (arith, nat_tests)

  by_left : (quotas : List Quota) → first_without_place product (map (places_left state) quotas) quotas ≡ option_map (λ q. q.id) (find (is_closed state product) quotas)
  by_left [] = refl
  by_left (q ∷ qs) = ap (λ b. if is_in q product && b then Some q.id else first_without_place product (map (places_left state) qs) qs) (none_left q.size (used_unwaited state q)) ∙ by_test (is_closed state product q) (by_left qs)
    where
      by_test : (b : Bool) → first_without_place product (map (places_left state) qs) qs ≡ option_map (λ q. q.id) (find (is_closed state product) qs) → (if b then Some q.id else first_without_place product (map (places_left state) qs) qs) ≡ option_map (λ q. q.id) (if b then Some q else find (is_closed state product) qs)
      by_test true rest = refl
      by_test false rest = rest

  pub first_by_left : first_without_place product (map (places_left state) state.lists.catalogue.quotas) state.lists.catalogue.quotas ≡ first_closed state product
  unfolding first_closed
  first_by_left = by_left state.lists.catalogue.quotas

  -- what is left after a place was taken
  module _ (after : State) (more : (q : Quota) → used_unwaited after q ≡ used_unwaited state q + place_in q product) where
    less_by : (size : Option ℕ) (used : ℕ) (b : Bool) → (if b then one_less (available_number size used) else available_number size used) ≡ available_number size (used + (if b then 1 else 0))
    less_by None used true = refl
    less_by None used false = refl
    less_by (Some size) used true =
        let same : size - used - 1 ≡ size - (used + 1) = omega arith in
        ap (λ n. Some n) same
    less_by (Some size) used false =
        let same : size - used ≡ size - (used + 0) = omega arith in
        ap (λ n. Some n) same

    left_after : (q : Quota) → after_one product q (places_left state q) ≡ places_left after q
    left_after q = less_by q.size (used_unwaited state q) (is_in q product) ∙ ap (available_number q.size) (sym (more q))

    pub all_left_after : (quotas : List Quota) → all_after_one product (map (places_left state) quotas) quotas ≡ map (places_left after) quotas
    all_left_after [] = refl
    all_left_after (q ∷ qs) =
        let first = left_after q in
        let rest = all_left_after qs in
        λ i. first i ∷ rest i

pub left_long : (state : State) (quotas : List Quota) → length (map (places_left state) quotas) ≡ length quotas
left_long state quotas = length-map _ _
