-- A bulk call does what its entries do, each after those before it, and tells what each of them was told; so does an import.
use Rattle.std.proofs.Common.{◌≡◌, ℕ, ◌≤◌, Bool, true, false, List, [], ◌∷◌, map, Option, Some, Result, Ok, Err, refl, sym, ap, ap₂, ◌∙◌, subst, arith}
use Rattle.std.specs.Prelude.{min, length, nat_lt, if◌then◌else◌}
use Rattle.std.specs.List.{AllByRecursion}
use Rattle.std.proofs.lemmas.Bool.Decides.{nat_tests}
use Rattle.base_values.specs.declared.draw.Draw.{Draw}
use Rattle.base_values.specs.Moments.{last_moment}
use Rattle.model_rows.specs.declared.rows.CartPos.{CartPos}
use Rattle.model_rows.specs.Lists.{State}
use Rattle.model_commands.specs.declared.carts.Entry.{Entry}
use Rattle.model_commands.specs.declared.carts.Entry.TheVariants.{New, Faulty}
use Rattle.model_commands.specs.declared.carts.Outcome.{Outcome}
use Rattle.model_commands.specs.declared.carts.Outcome.TheVariants as outcomes
use Rattle.model_commands.specs.declared.carts.NewCart.{NewCart}
use Rattle.model_commands.specs.declared.orders.OrderRefusal.{OrderRefusal}
use Rattle.model_commands.specs.declared.orders.OrderRefusal.TheVariants.{TooMany}
use Rattle.decide_orders.specs.Bulk.{outcome_of, entry_added, all_added, most_entries, many_added}
use Rattle.decide_orders.specs.Carts.{position_added}
use Rattle.decide_orders.proofs.BulkSound.{entry_moment}
use Rattle.model_commands.specs.declared.requests.Command.{Command}
use Rattle.model_commands.specs.declared.requests.Command.TheVariants.{AddItem, ChangeItem, AddVariation, AddQuota, ResizeQuota, AddVoucher, ChangeVoucher, DropVoucher, ImportVouchers, AddCart, AddCarts, DropCart, AddOrder, MoveOrder, AddWaiting, ChangeWaiting, DropWaiting, SendVoucher, Periodic, AddCheckinList, Redeem}
use Rattle.model_commands.specs.declared.replies.Reply.{Reply}
use Rattle.office_step.specs.Step.{cart_step, bulk_step, step, moment_at}
use Rattle.decide_vouchers.specs.Imported.{rows_imported}
use Rattle.office_runs.proofs.ImportRuns.{no_later, all_alone}
use Rattle.office_runs.specs.Runs.{Arrival, office_stepped, trace, alone, after_run}
use Rattle.office_runs.specs.Promises.{outcome_told, outcomes_alone, RunsEntries, RunsItsEntries}

-- an entry of its own leads where it leads in the call, and is told what became of it there
same_office : (state : State) (r : Result (State × CartPos) OrderRefusal) → (outcome_of state r).0 ≡ (cart_step state r).0
same_office state (Ok (after, row)) = refl
same_office state (Err refusal) = refl

same_outcome : (state : State) (r : Result (State × CartPos) OrderRefusal) → outcome_told (cart_step state r).1 ≡ Some (outcome_of state r).1
same_outcome state (Ok (after, row)) = refl
same_outcome state (Err refusal) = refl

module _ (clock : ℕ) (draw : Draw) where
  -- an entry as a command of its own
  own_step : (new : NewCart) (state : State) → min clock last_moment ≤ state.moment → cart_step state (position_added new draw state) ≡ step (AddCart new) (moment_at clock state) draw state
  own_step new state le = ap (λ at. step (AddCart new) at draw state) (no_later state clock le)

  one_run : (new : NewCart) (state : State) → min clock last_moment ≤ state.moment → (entry_added (New new) draw state).0 ≡ (office_stepped (record { clock = clock; draw = draw; command = AddCart new }) state).after
  one_run new state le = same_office state (position_added new draw state) ∙ ap (λ (made : State × Reply). made.0) (own_step new state le)

  one_outcome : (new : NewCart) (state : State) → min clock last_moment ≤ state.moment → outcome_told (office_stepped (record { clock = clock; draw = draw; command = AddCart new }) state).reply ≡ Some (entry_added (New new) draw state).1
  one_outcome new state le = ap (λ (made : State × Reply). outcome_told made.1) (sym (own_step new state le)) ∙ same_outcome state (position_added new draw state)

  still : (entry : Entry) (state : State) → min clock last_moment ≤ state.moment → min clock last_moment ≤ (entry_added entry draw state).0.moment
  still entry state le = subst (λ (at : ℕ). min clock last_moment ≤ at) (sym (entry_moment entry draw state)) le

  all_run : (entries : List Entry) (state : State) → min clock last_moment ≤ state.moment → (all_added entries draw state).0 ≡ after_run (alone clock draw entries) state
  all_run [] state le = refl
  all_run (Faulty fault ∷ more) state le = all_run more state le
  all_run (New new ∷ more) state le =
      all_run more (entry_added (New new) draw state).0 (still (New new) state le) ∙ ap (λ (s : State). after_run (alone clock draw more) s) (one_run new state le)

  all_outcomes : (entries : List Entry) (state : State) → min clock last_moment ≤ state.moment → outcomes_alone clock draw entries state ≡ map (λ outcome. Some outcome) (all_added entries draw state).1
  all_outcomes [] state le = refl
  all_outcomes (Faulty fault ∷ more) state le = ap (λ (told : List (Option Outcome)). Some (outcomes.Faulty fault) ∷ told) (all_outcomes more state le)
  all_outcomes (New new ∷ more) state le =
      let rest = ap (λ (s : State). outcomes_alone clock draw more s) (sym (one_run new state le)) ∙ all_outcomes more (entry_added (New new) draw state).0 (still (New new) state le) in
      ap₂ (λ (one : Option Outcome) (told : List (Option Outcome)). one ∷ told) (one_outcome new state le) rest

-- a call of as many entries as it may have adds all that can be added
all_of : (entries : List Entry) (draw : Draw) (state : State) → length entries ≤ most_entries → many_added entries draw state ≡ Ok (all_added entries draw state)
unfolding many_added
all_of entries draw state le = by_count (nat_lt most_entries (length entries)) (few (length entries) le)
  where
    few : (n : ℕ) → n ≤ most_entries → nat_lt most_entries n ≡ false
    few n le = grind (arith, nat_tests, le)

    by_count : (many : Bool) → many ≡ false → (if many then Err TooMany else Ok (all_added entries draw state)) ≡ Ok (all_added entries draw state)
    by_count true e = absurd (cc (e))
    by_count false e = refl

in_range : (at last : ℕ) → min at last ≤ at
in_range at last = omega arith

runs_entries : (command : Command) (clock : ℕ) (draw : Draw) (state : State) → RunsEntries command (office_stepped (record { clock = clock; draw = draw; command = command }) state)
runs_entries (AddItem new) clock draw state = tt
runs_entries (ChangeItem id patch) clock draw state = tt
runs_entries (AddVariation item new) clock draw state = tt
runs_entries (AddQuota new) clock draw state = tt
runs_entries (ResizeQuota id patch) clock draw state = tt
runs_entries (AddVoucher new) clock draw state = tt
runs_entries (ChangeVoucher id patch) clock draw state = tt
runs_entries (DropVoucher id) clock draw state = tt
runs_entries (ImportVouchers vouchers) clock draw state =
    let at = moment_at clock state in
    let now : State = record state { moment = at } in
    record {
      told = (rows_imported vouchers draw now).1;
      reply = refl;
      each = all_alone at draw vouchers now (in_range at last_moment);
    }
runs_entries (AddCart new) clock draw state = tt
runs_entries (DropCart id) clock draw state = tt
runs_entries (AddOrder new) clock draw state = tt
runs_entries (MoveOrder number change) clock draw state = tt
runs_entries (AddWaiting new) clock draw state = tt
runs_entries (ChangeWaiting id patch) clock draw state = tt
runs_entries (DropWaiting id) clock draw state = tt
runs_entries (SendVoucher id) clock draw state = tt
runs_entries Periodic clock draw state = tt
runs_entries (AddCheckinList new) clock draw state = tt
runs_entries (Redeem list ticket scan) clock draw state = tt
runs_entries (AddCarts entries) clock draw state = λ few.
    let at = moment_at clock state in
    let now : State = record state { moment = at } in
    let made = all_of entries draw now few in
    let le = in_range at last_moment in
    record {
      after = ap (λ (r : Result (State × List Outcome) OrderRefusal). (bulk_step now r).0) made ∙ all_run at draw entries now le;
      told = (all_added entries draw now).1;
      reply = ap (λ (r : Result (State × List Outcome) OrderRefusal). (bulk_step now r).1) made;
      each = all_outcomes at draw entries now le;
    }

pub entries_all : (arrivals : List Arrival) (state : State) → AllByRecursion RunsItsEntries (trace arrivals state)
entries_all [] state = tt
entries_all (arrival ∷ arrivals) state = (runs_entries arrival.command arrival.clock arrival.draw state, entries_all arrivals (office_stepped arrival state).after)
