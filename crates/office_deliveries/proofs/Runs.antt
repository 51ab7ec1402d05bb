-- What one more arrival does to the first arrivals, to the run and to what is kept.
use Rattle.std.proofs.Common.{◌≡◌, ℕ, min, max, Bool, true, false, cond, ◌&&◌, List, [], ◌∷◌, ◌++◌, refl, sym, ap, ◌∙◌, subst}
use Rattle.base_values.specs.declared.answer.Response.{Response}
use Rattle.base_values.specs.declared.draw.Draw.{Draw}
use Rattle.base_values.specs.Moments.{last_moment}
use Rattle.model_rows.specs.Lists.{State}
use Rattle.model_commands.specs.declared.replies.Reply.{Reply}
use Rattle.office_step.specs.Step.{moment_at}
use Rattle.office_step.proofs.SoundSteps.{sound_step}
use Rattle.office_deliveries.specs.declared.arrival.Arrival.{Arrival}
use Rattle.model_answers.specs.declared.kept.Kept.{Kept}
use Rattle.office_deliveries.specs.declared.arrival.Request.{Request}
use Rattle.office_deliveries.specs.declared.arrival.Request.TheVariants.{Write, WriteRefused, Read, ReadRefused}
use Rattle.office_deliveries.specs.Deliveries.{is_write, request_done, Delivery, Opening, First, latest, now, is_first, with_next, firsts_after, firsts, write_executed, office_after, answers}

-- a write stores its moment
pub stores : (words : Reply → Response) (request : Request) (clock : ℕ) (draw : Draw) (state : State) → is_write request ≡ true → (request_done words request (moment_at clock state) draw state).0.moment ≡ moment_at clock state
unfolding request_done
stores words (Write command) clock draw state is = (sound_step command draw (record state { moment = moment_at clock state })).moment
stores words (WriteRefused response) clock draw state is = refl
stores words (Read query) clock draw state is = absurd (let both : false ≡ true = is in cc)
stores words (ReadRefused response) clock draw state is = absurd (let both : false ≡ true = is in cc)

-- first arrivals are writes, each at the clock's moment, but never before the one before it
abbrev pub AreTimed : ℕ → List First → Type 0
AreTimed m [] = Unit {0}
AreTimed m (f ∷ fs) = (is_write f.arrival.request ≡ true) × (f.at ≡ max m (min f.arrival.clock last_moment)) × AreTimed f.at fs

pub timed-more : (m : ℕ) (fs : List First) (a : Arrival) → AreTimed m fs → is_write a.request ≡ true → AreTimed m (fs ++ record { arrival = a; at = max (latest m fs) (min a.clock last_moment) } ∷ [])
timed-more m [] a timed write = (write, refl, tt)
timed-more m (f ∷ fs) a (w, at, timed) write = (w, at, timed-more f.at fs a timed write)

pub firsts-more : (p : Opening) (fs : List First) (ds : List Delivery) (d : Delivery) → firsts_after p fs (ds ++ d ∷ []) ≡ with_next p (firsts_after p fs ds) d
firsts-more p fs [] d = refl
firsts-more p fs (e ∷ ds) d = firsts-more p (with_next p fs e) ds d

pub latest-more : (m : ℕ) (fs : List First) (f : First) → latest m (fs ++ f ∷ []) ≡ f.at
latest-more m [] f = refl
latest-more m (g ∷ fs) f = latest-more g.at fs f

and-left : (x y : Bool) → (x && y) ≡ true → x ≡ true
and-left true y e = refl
and-left false y e = e

pub timed-next : (p : Opening) (fs : List First) (d : Delivery) → AreTimed p.state.moment fs → AreTimed p.state.moment (with_next p fs d)
timed-next p fs d timed = elim (is_first p fs d) as (λ b. is_first p fs d ≡ b → AreTimed p.state.moment (cond b (fs ++ record { arrival = d.arrival; at = now p fs d.arrival } ∷ []) fs)) [
  | true ↦ λ e. timed-more p.state.moment fs d.arrival timed (and-left _ _ (and-left _ _ e))
  | false ↦ λ e. timed
] refl

pub timed-after : (p : Opening) (fs : List First) (ds : List Delivery) → AreTimed p.state.moment fs → AreTimed p.state.moment (firsts_after p fs ds)
timed-after p fs [] timed = timed
timed-after p fs (d ∷ ds) timed = timed-after p (with_next p fs d) ds (timed-next p fs d timed)

pub timed : (p : Opening) (ds : List Delivery) → AreTimed p.state.moment (firsts p ds)
timed p ds = timed-after p [] ds tt

module _ (words : Reply → Response) where
  pub office-more : (state : State) (fs : List First) (f : First) → office_after words state (fs ++ f ∷ []) ≡ (write_executed words f (office_after words state fs)).0
  office-more state [] f = refl
  office-more state (g ∷ fs) f = office-more (write_executed words g state).0 fs f

  pub answers-more : (state : State) (fs : List First) (f : First)
      → answers words state (fs ++ f ∷ []) ≡ answers words state fs ++ record { token = f.arrival.token; key = f.arrival.key; at = f.at; response = (write_executed words f (office_after words state fs)).1 } ∷ []
  answers-more state [] f = refl
  answers-more state (g ∷ fs) f = ap (λ (ks : List Kept). record { token = g.arrival.token; key = g.arrival.key; at = g.at; response = (write_executed words g state).1 } ∷ ks) (answers-more (write_executed words g state).0 fs f)

  -- the office's moment is that of the last executed write
  pub moment-is : (state : State) (fs : List First) → AreTimed state.moment fs → (office_after words state fs).moment ≡ latest state.moment fs
  moment-is state [] timed = refl
  moment-is state (f ∷ fs) (write, at, timed) =
      let here : (write_executed words f state).0.moment ≡ f.at =
      subst (λ (n : ℕ). (request_done words f.arrival.request n f.arrival.draw state).0.moment ≡ n) (sym at) (stores words f.arrival.request f.arrival.clock f.arrival.draw state write) in
      moment-is (write_executed words f state).0 fs (subst (λ (n : ℕ). AreTimed n fs) (sym here) timed) ∙ ap (λ (n : ℕ). latest n fs) here
