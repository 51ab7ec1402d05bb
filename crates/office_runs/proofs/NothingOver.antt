-- The executed commands are steps of the office: what its laws say holds of each.
use Rattle.std.proofs.Common.{◌≡◌, ℕ, Bool, true, false, not, List, [], ◌∷◌, ◌++◌, ◌&&◌, refl, sym, subst}
use Rattle.std.proofs.lemmas.Bool.{and_parts}
use Rattle.std.specs.List.{AllByRecursion}
use Rattle.base_values.specs.declared.answer.Response.{Response}
use Rattle.base_values.specs.Draws.{IsDraw}
use Rattle.base_values.specs.declared.draw.Draw.{Draw}
use Rattle.model_rows.specs.Lists.{State}
use Rattle.model_invariant.specs.Sound.{IsSound}
use Rattle.model_invariant.proofs.Sound.{sound_later}
use Rattle.model_commands.specs.declared.replies.Reply.{Reply}
use Rattle.office_runs.specs.Runs.{Arrival as Coming, IsFitArrival as IsFitComing}
use Rattle.office_step.specs.Step.{moment_at}
use Rattle.office_runs.proofs.Runs.{not_before, in_range, none_over_all, within_all, lowers_all, ids_all, sound_all}
use Rattle.office_runs.proofs.BulkRuns.{entries_all}
use Rattle.office_deliveries.specs.declared.arrival.Request.{Request}
use Rattle.office_deliveries.specs.declared.arrival.Request.TheVariants.{Write, WriteRefused, Read, ReadRefused}
use Rattle.office_deliveries.specs.Deliveries.{request_done, is_first, is_repeat, is_write, Delivery, Opening, First, write_executed, firsts, office, office_after}
use Rattle.office_deliveries.specs.Fit.{IsFitRequest, IsFitArrival, IsFitDelivery}
use Rattle.office_runs.specs.NothingTooMuch.{TakesNothingTooMuch, step_of, steps}
use Rattle.office_deliveries.proofs.Runs.{AreTimed, timed, stores}
use Rattle.office_deliveries.proofs.Again.{more}

all-append : {X : Type 0} (P : X → Type 0) (xs ys : List X) → AllByRecursion P xs → AllByRecursion P ys → AllByRecursion P (xs ++ ys)
all-append P [] ys all more = more
all-append P (x ∷ xs) ys (here, all) more = (here, all-append P xs ys all more)

-- what one executed write is
record IsFine (words : Reply → Response) (request : Request) (at : ℕ) (draw : Draw) (state : State) : Type 0 where
  steps : AllByRecursion TakesNothingTooMuch (step_of at draw request state)
  sound : IsSound (request_done words request at draw state).0

fine : (words : Reply → Response) (request : Request) (clock : ℕ) (draw : Draw) (state : State) → IsFitRequest request → IsDraw draw → IsSound state → IsFine words request (moment_at clock state) draw state
unfolding request_done
fine words (Write command) clock draw state fit sixteen sound =
    let arrivals : List Coming = record { clock = clock; draw = draw; command = command } ∷ [] in
    let come : AllByRecursion IsFitComing arrivals = (record { command = fit; draw = sixteen }, tt) in
    let after = (sound_all arrivals state come sound).0 in
    record {
      steps = (record { none_over = (none_over_all arrivals state).0; within = (within_all arrivals state come sound).0; rest = (lowers_all arrivals state come sound).0; entries = (entries_all arrivals state).0; ids = (ids_all arrivals state).0; sound = after }, tt);
      sound = after;
    }
fine words (WriteRefused response) clock draw state fit sixteen sound =
    record { steps = tt; sound = sound_later state (moment_at clock state) (not_before clock state) (in_range clock state sound.range.moment) sound }
fine words (Read query) clock draw state fit sixteen sound = record { steps = tt; sound = sound }
fine words (ReadRefused response) clock draw state fit sixteen sound = record { steps = tt; sound = sound }

-- what all of them are, one after another
steps-fine : (words : Reply → Response) (state : State) (fs : List First) → IsSound state → AllByRecursion (λ f. IsFitArrival f.arrival) fs → AreTimed state.moment fs
    → AllByRecursion TakesNothingTooMuch (steps words state fs) × IsSound (office_after words state fs)
steps-fine words state [] sound fit timed = (tt, sound)
steps-fine words state (f ∷ fs) sound (fit, all) (write, at, timed) =
    let here : IsFine words f.arrival.request f.at f.arrival.draw state =
    subst (λ (n : ℕ). IsFine words f.arrival.request n f.arrival.draw state) (sym at) (fine words f.arrival.request f.arrival.clock f.arrival.draw state fit.request fit.draw sound) in
    let moment : (write_executed words f state).0.moment ≡ f.at =
    subst (λ (n : ℕ). (request_done words f.arrival.request n f.arrival.draw state).0.moment ≡ n) (sym at) (stores words f.arrival.request f.arrival.clock f.arrival.draw state write) in
    let others = steps-fine words (write_executed words f state).0 fs here.sound all (subst (λ (n : ℕ). AreTimed n fs) (sym moment) timed) in
    (all-append TakesNothingTooMuch (step_of f.at f.arrival.draw f.arrival.request state) (steps words (write_executed words f state).0 fs) here.steps others.0, others.1)

not-true : (b : Bool) → not b ≡ true → b ≡ false
not-true false e = refl
not-true true e = absurd (let both : false ≡ true = e in cc)

-- what is executed wasn't answered 503
first-available : (p : Opening) (fs : List First) (d : Delivery) → is_first p fs d ≡ true → d.unavailable ≡ false
first-available p fs d e =
    let x = and_parts (is_write d.arrival.request && not d.unavailable) (not (is_repeat p fs d.arrival)) e in
    not-true d.unavailable (and_parts (is_write d.arrival.request) (not d.unavailable) x.0).1

-- first arrivals are among those that came
fit-firsts : (p : Opening) (ds : List Delivery) → AllByRecursion IsFitDelivery ds → AllByRecursion (λ f. IsFitArrival f.arrival) (firsts p ds)
fit-firsts p ds fit =
    let all = more (λ (f : First). IsFitArrival f.arrival) IsFitDelivery (λ q gs d u e. u (first-available q gs d e)) p [] ds fit in
    subst (λ (fs : List First). AllByRecursion (λ (f : First). IsFitArrival f.arrival) fs) (sym all.1) all.2

pub nothing_over : (words : Reply → Response) (p : Opening) (ds : List Delivery) → AllByRecursion IsFitDelivery ds → IsSound p.state
    → AllByRecursion TakesNothingTooMuch (steps words p.state (firsts p ds)) × IsSound (office words p (firsts p ds))
nothing_over words p ds fit sound = steps-fine words p.state (firsts p ds) sound (fit-firsts p ds fit) (timed p ds)
