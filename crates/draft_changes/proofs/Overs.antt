-- Which quota is over, by what came and went of each.
use Rattle.std.proofs.Common.{◌≡◌, ℕ, zero, suc, ◌+◌, ◌-◌, ◌<◌, ◌≤◌, List, [], ◌∷◌, length, get_or, refl, sym, ap, subst, ◌∙◌, Bool, true, false, Option, None, Some, ◌⊎◌, inl, inr, count_by, arith}
use Rattle.std.specs.Prelude.{if◌then◌else◌, find, option_map, is_some}
use Rattle.std.specs.Option.{IfSome}
use Rattle.std.proofs.lemmas.Bool.Decides.{nat_tests}
use Rattle.draft_changes.proofs.Found.{found_none, found_first, found_within, found_is}
use Rattle.model_catalogue.specs.declared.rows.Quota.{Quota}
use Rattle.model_rows.specs.declared.rows.Own.{Own}
use Rattle.model_rows.specs.Lists.{Lists}
use Rattle.model_rows.specs.Usage.{usage_of}
use Rattle.model_rows.specs.Total.{total}
use Rattle.model_rows.specs.Over.{is_over, is_over_size, is_free, quota_weighed}
use Rattle.book_tally.specs.declared.tally.Count.{Count}
use Rattle.book_tally.specs.Counts.{newest}
use Rattle.model_rows.specs.declared.rows.Usage.{Usage}
use Rattle.book_tally.specs.Amounts.{nothing}
use Rattle.book_tally.proofs.Newest.{blank, newest_within}
use Rattle.book_tally.proofs.Earlier.{key_there, newest_split}
use Rattle.draft_counts.specs.Counts.{value_at}
use Rattle.draft_changes.specs.Least.{found_at, IsLeast}
use Rattle.draft_changes.specs.Used.{places_used}

-- a weight that isn't above what was used before is not too much
pub size_over : (size : Option ℕ) (before weight : ℕ) → weight ≤ before → is_over_size size before weight ≡ false
size_over None before weight le = refl
size_over (Some size) before weight le = grind (arith, nat_tests, le)

-- of an unlimited quota nothing is too much
pub size_none : (size : Option ℕ) (before weight : ℕ) → is_some size ≡ false → is_over_size size before weight ≡ false
size_none None before weight none = refl
size_none (Some size) before weight none = absurd (cc none)

-- where no more is used than before, nothing is taken too much
pub not_over : (before after : Lists) (at : ℕ) (own : List Own) (quota : Quota) → places_used after at quota ≤ places_used before at quota → is_over before after at own quota ≡ false
unfolding places_used quota_weighed
not_over before after at own quota le =
    size_over quota.size (total (usage_of before at quota)) (total (usage_of after at quota) - count_by (is_free after at quota) own) (omega (arith, le))

-- a quota that is used as before isn't over
pub untouched : (before after : Lists) (at : ℕ) (own : List Own) (quotas : List Quota) (place : ℕ) → value_at 0 (places_used before at) quotas place ≡ value_at 0 (places_used after at) quotas place → found_at (λ q. q.id) (is_over before after at own) quotas place ≡ None
untouched before after at own [] place same = refl
untouched before after at own (q ∷ qs) zero same = ap (λ (b : Bool). if b then Some q.id else None) (not_over before after at own q (omega (arith, same)))
untouched before after at own (q ∷ qs) (suc place) same = untouched before after at own qs place same

-- what was found over stays the least with one more place of the journal
module _ (f : ℕ → Option ℕ) (counts : List (Count Usage)) where
  pub least_start : (mark : ℕ) → ((place : ℕ) → IfSome (newest place counts) (λ i. i < mark) → f place ≡ None) → IsLeast f counts mark None
  least_start mark before = record { clear = λ place lt below. before place lt; over = tt }

  module _ (i : ℕ) (key : ℕ) (own : (get_or counts i (blank nothing)).id ≡ key) (least : Option ℕ) (is : IsLeast f counts i least) where
    its_key : (place : ℕ) → newest place counts ≡ Some i → key ≡ place
    its_key place here = sym own ∙ key_there place counts i (blank nothing) here

    -- nothing is found there, or nothing that is less
    pub least_stays : (newest key counts ≡ Some i → IfSome least (λ l. key < l) → f key ≡ None) → IsLeast f counts (i + 1) least
    least_stays none = record {
      clear = λ place lt below. by_place place below (newest_split place counts i lt);
      over = is.over;
    }
      where
        by_place : (place : ℕ) → IfSome least (λ l. place < l) → (IfSome (newest place counts) (λ j. j < i)) ⊎ (newest place counts ≡ Some i) → f place ≡ None
        by_place place below (inl before) = is.clear place before below
        by_place place below (inr here) =
            let same : place ≡ key = sym (its_key place here) in
            ap f same ∙ none (subst (λ (k : ℕ). newest k counts ≡ Some i) same here) (subst (λ (k : ℕ). IfSome least (λ l. k < l)) same below)

    -- less is found there
    pub least_lowers : IfSome least (λ l. key < l) → is_some (f key) ≡ true → IsLeast f counts (i + 1) (Some key)
    least_lowers less some = record {
      clear = λ place lt below. by_place place below (newest_split place counts i lt);
      over = some;
    }
      where
        lower : (place : ℕ) → place < key → (o : Option ℕ) → IfSome o (λ l. key < l) → IfSome o (λ l. place < l)
        lower place below None lt = tt
        lower place below (Some l) lt = omega (arith, below, lt)

        by_place : (place : ℕ) → place < key → (IfSome (newest place counts) (λ j. j < i)) ⊎ (newest place counts ≡ Some i) → f place ≡ None
        by_place place below (inl before) = is.clear place before (lower place below least less)
        by_place place below (inr here) = absurd (let same : key ≡ place = its_key place here in omega (arith, same, below))

-- at the end of the journal it is the least of all
pub least_end : (f : ℕ → Option ℕ) (counts : List (Count Usage)) (i : ℕ) (least : Option ℕ) → length counts ≤ i → IsLeast f counts i least → IsLeast f counts (length counts) least
least_end f counts i least past is = record { clear = λ place lt below. is.clear place (further (newest place counts) lt) below; over = is.over }
  where
    further : (o : Option ℕ) → IfSome o (λ j. j < length counts) → IfSome o (λ j. j < i)
    further None lt = tt
    further (Some j) lt = omega (arith, lt, past)

module _ (passes : Quota → Bool) (quotas : List Quota) (counts : List (Count Usage)) where
  pub none_over : IsLeast (found_at (λ q. q.id) passes quotas) counts (length counts) None → option_map (λ (q : Quota). q.id) (find passes quotas) ≡ None
  none_over is = found_none (λ (q : Quota). q.id) passes quotas (λ place. is.clear place (newest_within place counts) tt)

  pub within_over : (least : Option ℕ) (count : ℕ) → IsLeast (found_at (λ q. q.id) passes quotas) counts count least → IfSome least (λ l. l < length quotas)
  within_over None count is = tt
  within_over (Some l) count is = found_within (λ (q : Quota). q.id) passes quotas l is.over

  pub least_over : (l : ℕ) (d : Quota) → IsLeast (found_at (λ q. q.id) passes quotas) counts (length counts) (Some l) → option_map (λ (q : Quota). q.id) (find passes quotas) ≡ Some (get_or quotas l d).id
  least_over l d is = found_first (λ (q : Quota). q.id) passes quotas l (get_or quotas l d).id (λ place below. is.clear place (newest_within place counts) below) (found_is (λ (q : Quota). q.id) passes quotas l d is.over)
