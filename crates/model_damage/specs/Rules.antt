-- What each rule says of the rows of a file.
use Rattle.std.specs.Prelude.{◌≡◌, ℕ, ◌≤◌, ◌<◌, List}
use Rattle.std.specs.List.{AllByRecursion}
use Rattle.base_values.specs.Slugs.{IsSlug}
use Rattle.model_rows.specs.declared.count_rows.QuotaCount.{QuotaCount}
use Rattle.model_rows.specs.declared.count_rows.VoucherCount.{VoucherCount}
use Rattle.model_rows.specs.Budgets.{AllWithinBudget}
use Rattle.model_rows.specs.CountRows.{quota_counts, voucher_counts}
use Rattle.model_rows.specs.Fits.{AllFit}
use Rattle.model_rows.specs.Headroom.{AllHaveHeadroom}
use Rattle.model_rows.specs.Lists.{Lists, State}
use Rattle.model_invariant.specs.Checkins.{IsDoorOf}
use Rattle.model_invariant.specs.Few.{AllFew}
use Rattle.model_invariant.specs.Ids.{EachTable, AllNumbered}
use Rattle.model_invariant.specs.Limits.{AllLimited}
use Rattle.model_invariant.specs.Members.{AllHaveMembers}
use Rattle.model_invariant.specs.OwnCodes.{HaveCodes}
use Rattle.model_invariant.specs.Positions.{AreOfOrders, AllHavePositions}
use Rattle.model_invariant.specs.Range.{AreInRange}
use Rattle.model_invariant.specs.Sent.{AllSent}
use Rattle.model_invariant.specs.Targets.{AllHaveTargets}
use Rattle.model_invariant.specs.Varied.{AllVaried, AllProducts, AllWhole}
use Rattle.model_damage.specs.declared.rule.Rule.{Rule}
use Rattle.model_damage.specs.declared.rule.Rule.TheVariants as rules
use Rattle.model_damage.specs.Numbers.{number}

-- what a file tells: whose shop it is, the office with its moment and next ids, and the counters, by id
pub record File : Type 0 where
  pub organizer : List ℕ
  pub event : List ℕ
  pub state : State
  pub used : List QuotaCount
  pub redeemed : List VoucherCount

-- 1: the slugs are slugs, and the moment and the next ids are in range
pub record IsHeaded (file : File) : Type 0 where
  pub organizer : IsSlug file.organizer
  pub event : IsSlug file.event
  pub range : AreInRange file.state.moment file.state.next

-- ids count from 1
abbrev pub AllFromOne : Lists → Type 0
AllFromOne lists =
    EachTable
    (AllByRecursion (λ r. 1 ≤ r.id) lists.catalogue.items)
    (AllByRecursion (λ r. 1 ≤ r.id) lists.catalogue.variations)
    (AllByRecursion (λ r. 1 ≤ r.id) lists.catalogue.quotas)
    (AllByRecursion (λ r. 1 ≤ r.id) lists.vouchers)
    (AllByRecursion (λ r. 1 ≤ r.id) lists.carts)
    (AllByRecursion (λ r. 1 ≤ r.id) lists.orders)
    (AllByRecursion (λ r. 1 ≤ r.id) lists.positions)
    (AllByRecursion (λ r. 1 ≤ r.id) lists.waiting)
    (AllByRecursion (λ r. 1 ≤ r.id) lists.checkin_lists)
    (AllByRecursion (λ r. 1 ≤ r.id) lists.checkins)

-- 2: texts and values are within their limits, ids count from 1, and no table has more rows than it may
pub record IsWithin (lists : Lists) : Type 0 where
  pub values : AllLimited lists
  pub from_one : AllFromOne lists
  pub few : AllFew lists

-- 4: what a row names stands and fits it, and codes and secrets are as the shop makes them
pub record NamesWell (lists : Lists) : Type 0 where
  pub members : AllHaveMembers lists.catalogue
  pub targets : AllHaveTargets lists
  pub whole : AllWhole lists
  pub varied : AllVaried lists
  pub products : AllProducts lists
  pub sent : AllSent lists
  pub fit : AllFit lists
  pub codes : HaveCodes lists.vouchers
  pub each : AreOfOrders lists.orders lists.positions
  pub door : IsDoorOf lists

-- 7: the counters are what is counted afresh at the moment
pub record IsCounted (file : File) : Type 0 where
  pub used : file.used ≡ quota_counts file.state
  pub redeemed : file.redeemed ≡ voucher_counts file.state

-- 3 is that ids rise and are below the next one, 5 that each order has its positions, 6 that vouchers have headroom, 8 that no more of one is
-- spent than its budget
abbrev pub Keeps : Rule → File → Type 0
Keeps rules.Shop file = IsHeaded file
Keeps rules.Limits file = IsWithin file.state.lists
Keeps rules.Ids file = AllNumbered file.state.next file.state.lists
Keeps rules.Names file = NamesWell file.state.lists
Keeps rules.Positions file = AllHavePositions file.state.lists.orders file.state.lists.positions
Keeps rules.Headroom file = AllHaveHeadroom file.state.moment file.state.lists
Keeps rules.Counters file = IsCounted file
Keeps rules.Budgets file = AllWithinBudget file.state.lists

-- all rules before it are kept, and it isn't: the damage that is told
pub record IsLeastBroken (rule : Rule) (file : File) : Type 0 where
  pub before : (other : Rule) → number other < number rule → Keeps other file
  pub broken : ¬ Keeps rule file
