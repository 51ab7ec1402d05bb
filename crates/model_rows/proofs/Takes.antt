-- Where no quota is over, no quota is taken too much of.
use Rattle.std.proofs.Common.{◌≡◌, ℕ, ◌-◌, ◌≤◌, ◌⊎◌, inl, inr, Bool, true, false, List, [], ◌∷◌, Option, Some, None, refl, sym, subst, cond, arith}
use Rattle.std.specs.Prelude.{◌&&◌, nat_lt, find, option_map}
use Rattle.std.specs.List.{AllByRecursion}
use Rattle.std.proofs.lemmas.Bool.Decides.{nat_tests}
use Rattle.model_catalogue.specs.declared.rows.Quota.{Quota}
use Rattle.model_rows.specs.Lists.{Lists, State}
use Rattle.model_rows.specs.Over.{first_over, is_over, is_over_size, quota_weighed}
use Rattle.model_rows.specs.Total.{total}
use Rattle.model_rows.specs.Usage.{usage_of}
use Rattle.model_rows.specs.Takes.{places_used, IsWithin, TakesNoMore}

-- where a search of quotas finds none, each fails the test
pub none_passes : (test : Quota → Bool) (quotas : List Quota) → option_map (λ quota. quota.id) (find test quotas) ≡ None → AllByRecursion (λ quota. test quota ≡ false) quotas
none_passes test [] h = tt
none_passes test (quota ∷ quotas) h = by_test (test quota) refl h (none_passes test quotas)
  where
    by_test : (b : Bool) → test quota ≡ b → option_map (λ q. q.id) (cond b (Some quota) (find test quotas)) ≡ None → (option_map (λ q. q.id) (find test quotas) ≡ None → AllByRecursion (λ q. test q ≡ false) quotas) → AllByRecursion (λ q. test q ≡ false) (quota ∷ quotas)
    by_test true is h more = absurd (cc)
    by_test false is h more = (is, more h)

-- a quota that isn't over has what is used within its size, or used no less before
pub within : (size : Option ℕ) (before after : ℕ) → is_over_size size before after ≡ false → IsWithin size before after
within None before after h = tt
within (Some size) before after h = by_tests (nat_lt size after) (nat_lt before after) refl refl h
  where
    by_tests : (a b : Bool) → nat_lt size after ≡ a → nat_lt before after ≡ b → (a && b) ≡ false → (after ≤ size) ⊎ (after ≤ before)
    by_tests false b ea eb h = inl (grind (arith, nat_tests))
    by_tests true false ea eb h = inr (grind (arith, nat_tests))
    by_tests true true ea eb h = absurd (cc)

less_nothing : (n : ℕ) → n - 0 ≡ n
less_nothing n = omega arith

-- a request without positions of its own weighs all that is used
weighs_all : (lists : Lists) (at : ℕ) (quota : Quota) → quota_weighed lists at quota [] ≡ total (usage_of lists at quota)
unfolding quota_weighed
weighs_all lists at quota = less_nothing (total (usage_of lists at quota))

all_within : (before after : State) (quotas : List Quota) → AllByRecursion (λ quota. is_over before.lists after.lists before.moment [] quota ≡ false) quotas → AllByRecursion (λ quota. IsWithin quota.size (total (usage_of before.lists before.moment quota)) (total (usage_of after.lists before.moment quota))) quotas
all_within before after [] h = tt
all_within before after (quota ∷ quotas) h =
    (within quota.size (total (usage_of before.lists before.moment quota)) (total (usage_of after.lists before.moment quota)) (subst (λ (n : ℕ). is_over_size quota.size (total (usage_of before.lists before.moment quota)) n ≡ false) (weighs_all after.lists before.moment quota) h.0), all_within before after quotas h.1)

-- a request without positions of its own
pub takes_no_more_alone : (before after : State) → after.moment ≡ before.moment → first_over before.lists after.lists before.moment [] ≡ None → TakesNoMore before after
takes_no_more_alone before after same h =
    subst (λ (at : ℕ). AllByRecursion (λ quota. IsWithin quota.size (places_used before quota) (total (usage_of after.lists at quota))) after.lists.catalogue.quotas) (sym same)
    (all_within before after after.lists.catalogue.quotas (none_passes (is_over before.lists after.lists before.moment []) after.lists.catalogue.quotas h))
