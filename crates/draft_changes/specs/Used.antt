-- All that is used of a quota, and what a draft keeps of that.
use Rattle.std.specs.Prelude.{◌≡◌, ℕ, ◌≤◌, ◌+◌, List, [], ◌∷◌, Some}
use Rattle.std.specs.Coded.{×_prop, Unit-prop, le_prop, Coded-set, coded_ℕ}
use Rattle.base_tables.specs.Tables.{row_at, InOrderFrom, AreInOrder}
use Rattle.model_catalogue.specs.declared.rows.Quota.{Quota}
use Rattle.model_rows.specs.Lists.{Lists}
use Rattle.model_rows.specs.Total.{total}
use Rattle.model_rows.specs.Usage.{usage_of}
use Rattle.model_rows.specs.declared.rows.Usage.{Usage}
use Rattle.draft_counts.specs.Counts.{value_at}
use Rattle.book_tally.specs.Amounts.{adds}
use Rattle.draft_changes.specs.declared.bases.Base.{Base}

-- all that is used of a quota
unfoldable pub places_used : Lists → ℕ → Quota → ℕ
places_used lists at quota = total (usage_of lists at quota)

-- by how much all that is used rises where the first amount comes and the second goes, but for what it falls: of those who have gone
-- out it is the going that adds
abbrev pub usage_raised : Usage → Usage → ℕ
usage_raised come gone = adds come + gone.exited

-- the most that is used of a quota: its counts are five numbers of 64 bits
abbrev pub most_used : ℕ
most_used = 92233720368547758080

-- what is kept of a quota: how much the lists use of it
pub record IsBase (lists : Lists) (at : ℕ) (quotas : List Quota) (place : ℕ) (base : Base) : Type 0 where
  pub value : base.total ≡ value_at 0 (places_used lists at) quotas place
  pub few : base.total ≤ most_used

-- what is kept of quotas: each at most once, in the order of their places, and how much the lists use of it
pub record AreBases (lists : Lists) (at : ℕ) (bases : List Base) : Type 0 where
  pub in_order : AreInOrder (λ b. b.place) bases
  pub are : (place : ℕ) (base : Base) → row_at (λ b. b.place) place bases ≡ Some base → IsBase lists at lists.catalogue.quotas place base

-- each of these facts is so in one way at most, so that a ghost field may hold it
IsBase-prop : (lists : Lists) (at : ℕ) (quotas : List Quota) (place : ℕ) (base : Base) → IsProp (IsBase lists at quotas place base)
IsBase-prop lists at quotas place base x y = λ i. record { value = Coded-set coded_ℕ _ _ x.value y.value i; few = le_prop x.few y.few i }

InOrder-prop : (from : ℕ) (bases : List Base) → IsProp (InOrderFrom (λ (b : Base). b.place) from bases)
InOrder-prop from [] = Unit-prop
InOrder-prop from (b ∷ bs) = ×_prop le_prop (InOrder-prop (b.place + 1) bs)

pub AreBases-prop : (lists : Lists) (at : ℕ) (bases : List Base) → IsProp (AreBases lists at bases)
AreBases-prop lists at bases x y = λ i. record {
  in_order = InOrder-prop 0 bases x.in_order y.in_order i;
  are = λ place base found. IsBase-prop lists at lists.catalogue.quotas place base (x.are place base found) (y.are place base found) i;
}
