-- What the laws of runs promise of each step, in one word each.
use Rattle.std.specs.Prelude.{◌≡◌, ℕ, ◌≤◌, false, List, [], ◌∷◌, length, map, Option, Some, None}
use Rattle.std.specs.List.{AllByRecursion, list_any}
use Rattle.base_values.specs.declared.draw.Draw.{Draw}
use Rattle.model_catalogue.specs.declared.rows.Quota.{Quota}
use Rattle.model_catalogue.specs.CatalogueLists.{quota_at}
use Rattle.model_rows.specs.Budgets.{AllWithinBudget}
use Rattle.model_rows.specs.Lists.{State}
use Rattle.model_rows.specs.Over.{first_over, ignores}
use Rattle.model_invariant.specs.Sound.{IsSound}
use Rattle.model_rows.specs.Takes.{places_used, TakesNoMore}
use Rattle.model_commands.specs.declared.carts.Entry.{Entry}
use Rattle.model_commands.specs.declared.carts.Entry.TheVariants.{New, Faulty}
use Rattle.model_commands.specs.declared.carts.Outcome.{Outcome}
use Rattle.model_commands.specs.declared.vouchers.NewVoucher.{NewVoucher}
use Rattle.model_commands.specs.declared.vouchers.Verdict.{Verdict}
use Rattle.model_rows.specs.declared.rows.Voucher.{Voucher}
use Rattle.decide_vouchers.specs.Imported.{namesake, verdict_on}
use Rattle.decide_orders.specs.Bulk.{most_entries}
use Rattle.model_commands.specs.declared.requests.Command.{Command}
use Rattle.model_commands.specs.declared.requests.Command.TheVariants.{ImportVouchers, AddCart, AddCarts, Redeem}
use Rattle.model_commands.specs.declared.requests.Kind.{Kind}
use Rattle.model_commands.specs.declared.replies.Refusal.{Refusal}
use Rattle.model_commands.specs.declared.replies.Reply.{Reply}
use Rattle.model_commands.specs.declared.replies.Reply.TheVariants.{Made, Results, Imported, Refused, Admitted}
use Rattle.office_runs.specs.Takings.{OwnRow, rows_taken, may_raise, fills_again}
use Rattle.office_runs.specs.NewIds.{AllIdsGoOn}
use Rattle.office_runs.specs.Runs.{Arrival, IsFitArrival, Stepped, office_stepped, office_at, trace, after_run, alone, made_alone, steps_of}
use Rattle.model_rows.specs.declared.rows.OrderPos.{OrderPos}
use Rattle.model_invariant.specs.Checkins.{AreOnce}
use Rattle.model_commands.specs.declared.doors.Scan.{Scan}
use Rattle.model_commands.specs.declared.doors.Ticket.{Ticket}
use Rattle.model_commands.specs.declared.carts.Outcome.TheVariants as outcomes
use Rattle.model_commands.specs.declared.vouchers.Verdict.TheVariants as verdicts
use Rattle.model_commands.specs.declared.replies.Refusal.TheVariants as refusals
use Rattle.model_commands.specs.declared.replies.Shown.TheVariants as rows

-- this is so of each step, whatever commands come to whatever office
abbrev pub InEachRun : (Stepped → Type 0) → Type 0
InEachRun Holds = (arrivals : List Arrival) (state : State) → AllByRecursion Holds (trace arrivals state)

-- this is so of each step, whatever commands come to a sound office
abbrev pub InEachSoundRun : (Stepped → Type 0) → Type 0
InEachSoundRun Holds = (arrivals : List Arrival) (state : State) → AllByRecursion IsFitArrival arrivals → IsSound state → AllByRecursion Holds (trace arrivals state)

-- a law holds of a step by itself: of each of those that it consists of
abbrev pub Each : (Stepped → Type 0) → Stepped → Type 0
Each Law s = AllByRecursion Law (steps_of s.command s)

-- where places were taken, no quota was taken too much of
abbrev pub NoneOver : Stepped → Type 0
NoneOver s = (own : List OwnRow) → rows_taken s.command s.draw (office_at s) ≡ Some own → first_over s.before.lists s.after.lists s.at (map (λ r. r.own) own) ≡ None

-- where places were taken and no own row's voucher ignores quotas, each quota's usage is within its size, or no more than
-- before
abbrev pub StaysWithin : Stepped → Type 0
StaysWithin s =
    (own : List OwnRow) → rows_taken s.command s.draw (office_at s) ≡ Some own → list_any (λ r. ignores s.after.lists r.voucher) own ≡ false → TakesNoMore (office_at s) s.after

-- any other step raises the usage of no quota that stood before, but for those that may, and those that take places of this quota
-- again that exits set free
abbrev pub RaisesNothing : Stepped → Type 0
RaisesNothing s =
    rows_taken s.command s.draw (office_at s) ≡ None → may_raise s.command s.draw (office_at s) ≡ false →
    (quota : Quota) → quota_at quota.id s.before.lists.catalogue ≡ Some quota → fills_again s.command (office_at s) quota ≡ false →
    places_used s.after quota ≤ places_used (office_at s) quota

-- what became of an entry, by what its own step was told
abbrev pub outcome_told : Reply → Option Outcome
outcome_told (Made (rows.Cart row)) = Some (outcomes.Added row)
outcome_told (Refused kind (refusals.Order refusal)) = Some (outcomes.Refused refusal)
outcome_told other = None

-- what became of each entry, in order; a faulty one is told the fault that it was given
abbrev pub outcomes_alone : ℕ → Draw → List Entry → State → List (Option Outcome)
outcomes_alone clock draw [] state = []
outcomes_alone clock draw (New new ∷ more) state =
    let s = office_stepped (record { clock = clock; draw = draw; command = AddCart new }) state in
    outcome_told s.reply ∷ outcomes_alone clock draw more s.after
outcomes_alone clock draw (Faulty fault ∷ more) state = Some (outcomes.Faulty fault) ∷ outcomes_alone clock draw more state

-- a bulk call leaves the office as the run of its entries does, and tells of each what its own step was told
pub record IsItsEntries (entries : List Entry) (s : Stepped) : Type 0 where
  pub after : s.after ≡ after_run (alone s.at s.draw entries) (office_at s)
  pub told : List Outcome
  pub reply : s.reply ≡ Results told
  pub each : outcomes_alone s.at s.draw entries (office_at s) ≡ map (λ outcome. Some outcome) told

-- what became of a row, by what its own step was told
abbrev pub verdict_told : Reply → Option Verdict
verdict_told (Made (rows.Voucher row redeemed)) = Some (verdicts.Added row)
verdict_told (Refused kind (refusals.Voucher refusal)) = Some (verdicts.Refused refusal)
verdict_told other = None

-- what a row leaves and is told, beside the voucher that has its code
abbrev pub row_beside : Option Voucher → ℕ → Draw → NewVoucher → State → State × Option Verdict
row_beside None clock draw new state = ((office_stepped (made_alone clock draw new) state).after, verdict_told (office_stepped (made_alone clock draw new) state).reply)
row_beside (Some row) clock draw new state = (state, Some (verdict_on new row))

-- what the rows of an import leave and are told, each as a command of its own, after those before it
abbrev pub rows_alone : ℕ → Draw → List NewVoucher → State → State × List (Option Verdict)
rows_alone clock draw [] state = (state, [])
rows_alone clock draw (new ∷ more) state =
    let one = row_beside (namesake new.code state.lists) clock draw new state in
    let rest = rows_alone clock draw more one.0 in
    (rest.0, one.1 ∷ rest.1)

-- an import leaves the office as its rows do, each as a command of its own, and tells of each what its own step was told, or how it is
-- beside the voucher that has its code
pub record IsItsRows (vouchers : List NewVoucher) (s : Stepped) : Type 0 where
  pub told : List Verdict
  pub reply : s.reply ≡ Imported told
  pub each : (s.after, map (λ verdict. Some verdict) told) ≡ rows_alone s.at s.draw vouchers (office_at s)

-- a bulk call that isn't too long is its entries, an import its rows; of any other command nothing is said
abbrev pub RunsEntries : Command → Stepped → Type 0
RunsEntries (AddCarts entries) s = length entries ≤ most_entries → IsItsEntries entries s
RunsEntries (ImportVouchers vouchers) s = IsItsRows vouchers s
RunsEntries other s = Unit {0}

-- a bulk call of as many entries as it may have is its entries, and an import its rows
abbrev pub RunsItsEntries : Stepped → Type 0
RunsItsEntries s = RunsEntries s.command s

-- no next id falls, and no id is used again
abbrev pub GivesNewIds : Stepped → Type 0
GivesNewIds s = AllIdsGoOn s.before s.after

-- every rule of a sound office holds after the step
abbrev pub LeavesSound : Stepped → Type 0
LeavesSound s = IsSound s.after

-- of no voucher is more spent than its budget, neither before the step nor after it
abbrev pub KeepsBudgets : Stepped → Type 0
KeepsBudgets s = AllWithinBudget s.before.lists × AllWithinBudget s.after.lists

-- the office after a step has no earlier moment than before it
abbrev pub NeverGoesBack : Stepped → Type 0
NeverGoesBack s = s.before.moment ≤ s.after.moment

-- the office has the step's moment afterwards, whatever the reply
abbrev pub StoresItsMoment : Stepped → Type 0
StoresItsMoment s = s.after.moment ≡ s.at

-- where the reply is a refusal, the office is as it was, but for its moment
abbrev pub ChangesNothingElse : Stepped → Type 0
ChangesNothingElse s = (kind : Kind) (refusal : Refusal) → s.reply ≡ Refused kind refusal → s.after ≡ office_at s

-- no list has a nonce twice for a position
abbrev pub HasNoncesOnce : Stepped → Type 0
HasNoncesOnce s = AreOnce s.after.lists.checkins

-- a scan of a ticket by a list, as it comes
abbrev pub scan_comes : ℕ → Ticket → Scan → ℕ → Draw → Arrival
scan_comes list ticket scan clock draw = record { clock = clock; draw = draw; command = Redeem list ticket scan }

-- the scan is told this position, and changes the moment alone
abbrev pub AddsNothing : OrderPos → Stepped → Type 0
AddsNothing position s = (s.reply ≡ Admitted position) × (s.after ≡ office_at s)
