-- What a message does to the rows of a shop, and to its moment.
use Rattle.std.proofs.Common.{◌≡◌, ℕ, ◌≤◌, Bool, true, false, cond, not, ◌&&◌, List, [], ◌∷◌, Option, Some, None, is_some, Result, Ok, Err, refl, sym, subst, arith}
use Rattle.std.specs.List.{AllByRecursion}
use Rattle.base_values.specs.declared.answer.Answer.{Answer}
use Rattle.base_values.specs.declared.answer.Answer.TheVariants.{Decided, Unavailable}
use Rattle.base_values.specs.declared.answer.Response.{Response}
use Rattle.base_devices.specs.declared.device.Tick.{Tick}
use Rattle.base_values.specs.declared.draw.Draw.{Draw}
use Rattle.base_values.specs.Draws.{IsDraw}
use Rattle.web_http.specs.Messages.{Message}
use Rattle.model_rows.specs.Lists.{State}
use Rattle.model_invariant.specs.Sound.{IsSound}
use Rattle.model_invariant.proofs.Sound.{sound_later}
use Rattle.model_commands.specs.declared.replies.Reply.{Reply}
use Rattle.office_runs.specs.Runs.{Arrival as Coming, IsFitArrival as IsFitComing}
use Rattle.office_runs.proofs.Runs.{not_before, in_range, none_over_all, within_all, lowers_all, ids_all, sound_all}
use Rattle.office_runs.proofs.BulkRuns.{entries_all}
use Rattle.model_answers.specs.declared.kept.Kept.{Kept}
use Rattle.model_answers.specs.ShopView.{ShopView}
use Rattle.office_deliveries.specs.declared.arrival.Arrival.{Arrival}
use Rattle.office_deliveries.specs.declared.arrival.Request.{Request}
use Rattle.office_deliveries.specs.declared.arrival.Request.TheVariants.{Write, WriteRefused, Read, ReadRefused}
use Rattle.office_deliveries.specs.Deliveries.{is_write, request_done, held_for}
use Rattle.office_deliveries.specs.Fit.{IsFitRequest, IsFitArrival}
use Rattle.office_deliveries.specs.Shops.{Views, moment_of, acted_by, read_served, moment_at}
use Rattle.office_deliveries.proofs.Runs.{stores}
use Rattle.web_connection.specs.declared.failure.Failure.{Failure}
use Rattle.web_connection.specs.Run.{Devices, with_handler, RunLeads}
use Rattle.web_arrivals.specs.Coming.{arrival}
use Rattle.web_arrivals.specs.HandlerView.{HandlerView, Meaning, House, IsOf, words_of}
use Rattle.web_arrivals.specs.Served.{IsFitComing as IsFitMessage, IsServed, ServesOnce, Serves}
use Rattle.web_arrivals.specs.Streams.{MakesItsStep, KeepsRows, KeepsComing, Keeps, ServesShop, ServesAndKeeps}
use Rattle.web_arrivals.proofs.StreamLemmas.{run-seen, viewed}

-- ---- what an executed request makes of the rows

makes-step : (words : Reply → Response) (request : Request) (clock : ℕ) (draw : Draw) (state : State) → IsFitRequest request → IsDraw draw → IsSound state
    → MakesItsStep request clock draw state (request_done words request (moment_at clock state) draw state).0 × IsSound (request_done words request (moment_at clock state) draw state).0
unfolding request_done
makes-step words (Write command) clock draw state fit sixteen sound =
    let arrivals : List Coming = record { clock = clock; draw = draw; command = command } ∷ [] in
    let come : AllByRecursion IsFitComing arrivals = (record { command = fit; draw = sixteen }, tt) in
    let after = (sound_all arrivals state come sound).0 in
    ((refl, record { none_over = (none_over_all arrivals state).0; within = (within_all arrivals state come sound).0; rest = (lowers_all arrivals state come sound).0; entries = (entries_all arrivals state).0; ids = (ids_all arrivals state).0; sound = after }), after)
makes-step words (WriteRefused response) clock draw state fit sixteen sound =
    (refl, sound_later state (moment_at clock state) (not_before clock state) (in_range clock state sound.range.moment) sound)
makes-step words (Read query) clock draw state fit sixteen sound = (refl, sound)
makes-step words (ReadRefused response) clock draw state fit sixteen sound = (refl, sound)

kept-by : (words : Reply → Response) (a : Arrival) (v : ShopView) (write : Bool) (held : Option Kept) → IsFitArrival a → IsSound v.state
    → let after : ShopView = (cond write (acted_by words held a v) (v, read_served words a v)).0 in KeepsRows (write && not (is_some held)) a v after × IsSound after.state
kept-by words a v true (Some k) fit sound = (refl, sound)
kept-by words a v true None fit sound = makes-step words a.request a.clock a.draw v.state fit.request fit.draw sound
kept-by words a v false held fit sound = (refl, sound)

-- what a message makes of the rows, once it is served
kept-served : (words : Reply → Response) (coming : Result Arrival Response) (v : ShopView) (response : Response) (w : ShopView) → IsSound v.state → IsFitMessage coming (Decided response)
    → IsServed words coming v (Decided response) (λ x. w ≡ x) → KeepsComing coming v w × IsSound w.state
kept-served words (Ok a) v response w sound fit (is, told) =
    subst (λ (x : ShopView). KeepsComing (Ok a) v x × IsSound x.state) (sym is) (kept-by words a v (is_write a.request) (held_for a (moment_of v a) v.kept) fit sound)
kept-served words (Err refusal) v response w sound fit (is, told) = (is, subst (λ (x : ShopView). IsSound x.state) (sym is) sound)

same-at-503 : (words : Reply → Response) (coming : Result Arrival Response) (v w : ShopView) → IsServed words coming v Unavailable (λ x. w ≡ x) → w ≡ v
same-at-503 words (Ok a) v w is = is
same-at-503 words (Err refusal) v w (is, told) = is

keeps : (house : House) (t : Tick) (m : Message) (answer : Answer) (v w : ShopView) → IsSound v.state → IsFitMessage (arrival house t m) answer → ServesShop house v t m answer w
    → Keeps house v t m answer w × IsSound w.state
keeps house t m (Decided response) v w sound fit serves = kept-served (words_of house) (arrival house t m) v response w sound fit serves
keeps house t m Unavailable v w sound fit serves =
    let same = same-at-503 (words_of house) (arrival house t m) v w serves in
    (same, subst (λ (x : ShopView). IsSound x.state) (sym same) sound)

module _ {T : Type 0} (tables : Meaning T) (house : House) where
  pub record IsSoundAt (d : HandlerView T) (v : ShopView) : Type 0 where
    pub views : Views tables.holds d.tables d.state v
    pub sound : IsSound v.state

  pub keeps-once : (old : HandlerView T) (t : Tick) (m : Message) (answer : Answer) (new : HandlerView T) (v : ShopView) → ServesOnce tables (words_of house) old (arrival house t m) answer new → IsSoundAt old v
      → (w : ShopView) × ServesAndKeeps house v t m answer w × IsSoundAt new w
  keeps-once old t m answer new v once is =
      let x = viewed tables house (words_of house) (arrival house t m) v answer (λ (w : ShopView). Views tables.holds new.tables new.state w) (once.served v is.views) in
      let kept = keeps house t m answer v x.0 is.sound once.fit x.1 in
      (x.0, (x.1, kept.0), record { views = x.2; sound = kept.1 })

  pub nothing-too-much : (v : ShopView) (old new : Devices (HandlerView T)) (result : Result (Unit {0}) Failure) → IsSound v.state
      → RunLeads (Serves tables) old new result → tables.sure new.handler.tables → IsOf tables house old.handler → Views tables.holds old.handler.tables old.handler.state v
      → (w : ShopView) × RunLeads (ServesAndKeeps house) (with_handler old v) (with_handler new w) result × IsOf tables house new.handler × Views tables.holds new.handler.tables new.handler.state w × IsSound w.state
  nothing-too-much v old new result sound run sure is views =
      let x = run-seen tables house IsSoundAt (ServesAndKeeps house) keeps-once old new result v run sure is (record { views = views; sound = sound }) in
      (x.0, x.1, x.2, x.3.views, x.3.sound)

-- ---- time

later-done : (words : Reply → Response) (request : Request) (clock : ℕ) (draw : Draw) (state : State) (write : Bool) → is_write request ≡ write
    → state.moment ≤ (cond write (request_done words request (moment_at clock state) draw state).0 state).moment
later-done words request clock draw state true write = subst (λ (n : ℕ). state.moment ≤ n) (sym (stores words request clock draw state write)) (not_before clock state)
later-done words request clock draw state false write = omega arith

later-by : (words : Reply → Response) (a : Arrival) (v : ShopView) (write : Bool) (held : Option Kept) → is_write a.request ≡ write
    → v.state.moment ≤ (cond write (acted_by words held a v) (v, read_served words a v)).0.state.moment
later-by words a v true (Some k) write = omega arith
later-by words a v true None write = later-done words a.request a.clock a.draw v.state true write
later-by words a v false held write = omega arith

later-served : (words : Reply → Response) (coming : Result Arrival Response) (v : ShopView) (answer : Answer) (w : ShopView) → IsServed words coming v answer (λ x. w ≡ x) → v.state.moment ≤ w.state.moment
later-served words (Ok a) v (Decided response) w (is, told) =
    subst (λ (x : ShopView). v.state.moment ≤ x.state.moment) (sym is) (later-by words a v (is_write a.request) (held_for a (moment_of v a) v.kept) refl)
later-served words (Ok a) v Unavailable w is = subst (λ (x : ShopView). v.state.moment ≤ x.state.moment) (sym is) (omega arith)
later-served words (Err refusal) v answer w (is, told) = subst (λ (x : ShopView). v.state.moment ≤ x.state.moment) (sym is) (omega arith)

module _ {T : Type 0} (tables : Meaning T) (house : House) (start : ℕ) where
  pub record IsLater (d : HandlerView T) (v : ShopView) : Type 0 where
    pub views : Views tables.holds d.tables d.state v
    pub later : start ≤ v.state.moment

  later-once : (old : HandlerView T) (t : Tick) (m : Message) (answer : Answer) (new : HandlerView T) (v : ShopView) → ServesOnce tables (words_of house) old (arrival house t m) answer new → IsLater old v
      → (w : ShopView) × ServesShop house v t m answer w × IsLater new w
  later-once old t m answer new v once is =
      let x = viewed tables house (words_of house) (arrival house t m) v answer (λ (w : ShopView). Views tables.holds new.tables new.state w) (once.served v is.views) in
      let step = later-served (words_of house) (arrival house t m) v answer x.0 x.1 in
      let before = is.later in
      (x.0, x.1, record { views = x.2; later = omega (arith, step, before) })

  pub never-falls : (v : ShopView) (old new : Devices (HandlerView T)) (result : Result (Unit {0}) Failure) → start ≤ v.state.moment
      → RunLeads (Serves tables) old new result → tables.sure new.handler.tables → IsOf tables house old.handler → Views tables.holds old.handler.tables old.handler.state v → start ≤ new.handler.state.moment
  never-falls v old new result later run sure is views =
      let x = run-seen tables house IsLater (ServesShop house) later-once old new result v run sure is (record { views = views; later = later }) in
      subst (λ (s : State). start ≤ s.moment) (sym x.3.views.state_is) x.3.later

pub time-never-falls : {T : Type 0} (tables : Meaning T) (house : House) (v : ShopView) (old new : Devices (HandlerView T)) (result : Result (Unit {0}) Failure)
    → RunLeads (Serves tables) old new result → tables.sure new.handler.tables → IsOf tables house old.handler → Views tables.holds old.handler.tables old.handler.state v → old.handler.state.moment ≤ new.handler.state.moment
time-never-falls tables house v old new result run sure is views =
    subst (λ (s : State). s.moment ≤ new.handler.state.moment) (sym views.state_is) (never-falls tables house v.state.moment v old new result (omega arith) run sure is views)
