-- Each message is answered with a status of the list.
use Rattle.std.proofs.Common.{◌≡◌, ℕ, Bool, true, false, cond, List, [], ◌∷◌, ◌++◌, Option, Some, None, Result, Ok, Err, refl, sym, subst}
use Rattle.std.specs.Prelude.{filter, find, if◌then◌else◌, ⊤}
use Rattle.base_values.specs.declared.answer.Answer.{Answer}
use Rattle.base_values.specs.declared.answer.Answer.TheVariants.{Decided, Unavailable}
use Rattle.base_values.specs.declared.answer.Response.{Response}
use Rattle.base_values.specs.declared.draw.Draw.{Draw}
use Rattle.base_devices.specs.declared.device.Tick.{Tick}
use Rattle.web_http.specs.Messages.{Message}
use Rattle.model_rows.specs.Lists.{State}
use Rattle.model_commands.specs.declared.replies.Reply.{Reply}
use Rattle.model_answers.specs.KeptAnswers.{has_key, lasts}
use Rattle.model_answers.specs.ShopView.{ShopView, own_row}
use Rattle.model_answers.specs.declared.kept.Kept.{Kept}
use Rattle.office_deliveries.specs.declared.arrival.Arrival.{Arrival}
use Rattle.office_deliveries.specs.declared.arrival.Request.{Request}
use Rattle.office_deliveries.specs.declared.arrival.Request.TheVariants.{Write, WriteRefused, Read, ReadRefused}
use Rattle.office_deliveries.specs.Deliveries.{request_done, held_for, is_write, repeats}
use Rattle.office_deliveries.specs.Shops.{Views, acted_by, moment_of, own, arrival_served, read_served}
use Rattle.web_connection.specs.declared.failure.Failure.{Failure}
use Rattle.web_connection.specs.Run.{Devices, RunLeads, with_handler}
use Rattle.web_api.specs.Call.{call}
use Rattle.web_api.specs.Key.{key_of}
use Rattle.web_api.specs.Statuses.{IsRefusedByGiven, status_of}
use Rattle.web_api.specs.declared.call.Call.{Call}
use Rattle.web_api.specs.declared.call.Call.TheVariants as calls
use Rattle.web_api.proofs.StatusLemmas.{call_given}
use Rattle.web_responses.proofs.StatusLemmas.{words_given}
use Rattle.web_responses.specs.Statuses.{is_given}
use Rattle.web_arrivals.specs.Coming.{arrival, arrival_of, number_of}
use Rattle.web_arrivals.specs.HandlerView.{HandlerView, House, IsOf, Meaning, words_of}
use Rattle.web_arrivals.specs.Given.{AreGiven, ServesGiven}
use Rattle.web_arrivals.specs.Served.{IsServed, Serves, ServesOnce}
use Rattle.web_arrivals.proofs.StreamLemmas.{run-seen, viewed}

-- ---- what is kept

abbrev HasGiven : Kept → Type 0
HasGiven k = is_given k.response.status ≡ true

given-behind : (ks js : List Kept) → AreGiven ks → AreGiven js → AreGiven (ks ++ js)
given-behind [] js a b = b
given-behind (k ∷ ks) js a b = (a.0, given-behind ks js a.1 b)

given-filtered : (test : Kept → Bool) (ks : List Kept) → AreGiven ks → AreGiven (filter test ks)
given-filtered test [] a = tt
given-filtered test (k ∷ ks) a = by-test (test k) (given-filtered test ks a.1)
  where
    by-test : (b : Bool) → AreGiven (filter test ks) → AreGiven (cond b (k ∷ filter test ks) (filter test ks))
    by-test true more = (a.0, more)
    by-test false more = more

given-found : (test : Kept → Bool) (ks : List Kept) (k : Kept) → find test ks ≡ Some k → AreGiven ks → HasGiven k
given-found test [] k is a = absurd (cc)
given-found test (j ∷ ks) k is a = by-test (test j) is (λ found. given-found test ks k found a.1)
  where
    by-test : (b : Bool) → cond b (Some j) (find test ks) ≡ Some k → (find test ks ≡ Some k → HasGiven k) → HasGiven k
    by-test true is more =
        let same : j ≡ k = cc in
        subst HasGiven same a.0
    by-test false is more = more is

given-own : (k : Kept) → HasGiven k → AreGiven (own_row k)
given-own k h = by-key (has_key k.key)
  where
    by-key : (b : Bool) → AreGiven (if b then k ∷ [] else [])
    by-key true = (h, tt)
    by-key false = tt

-- ---- what a request is answered

-- where it is refused before it is read as one
abbrev RequestGiven : Request → Type 0
RequestGiven (Write command) = ⊤
RequestGiven (WriteRefused response) = is_given response.status ≡ true
RequestGiven (Read query) = ⊤
RequestGiven (ReadRefused response) = is_given response.status ≡ true

abbrev ComingGiven : Result Arrival Response → Type 0
ComingGiven (Ok a) = RequestGiven a.request
ComingGiven (Err refusal) = is_given refusal.status ≡ true

coming-given : (tick : Tick) (token : ℕ) (key : List ℕ) (asked : Call) → IsRefusedByGiven asked → ComingGiven (arrival_of tick token key asked)
coming-given tick token key (calls.Unauthorized response) h = h
coming-given tick token key (calls.Read query) h = tt
coming-given tick token key (calls.ReadRefused response) h = h
coming-given tick token key (calls.Write command) h = tt
coming-given tick token key (calls.WriteRefused response) h = h

module _ (words : Reply → Response) (each : (reply : Reply) → is_given (words reply).status ≡ true) where
  done-given : (request : Request) (at : ℕ) (draw : Draw) (state : State) → RequestGiven request → is_given (request_done words request at draw state).1.status ≡ true
  unfolding request_done
  done-given (Write command) at draw state h = each _
  done-given (WriteRefused response) at draw state h = h
  done-given (Read query) at draw state h = each _
  done-given (ReadRefused response) at draw state h = h

  abbrev IsGivenBy : ShopView × Response → Type 0
  IsGivenBy made = (is_given made.1.status ≡ true) × AreGiven made.0.kept

  acted-given : (a : Arrival) (v : ShopView) (held : Option Kept) → held_for a (moment_of v a) v.kept ≡ held → RequestGiven a.request → AreGiven v.kept → IsGivenBy (acted_by words held a v)
  acted-given a v (Some k) is h kept = (given-found (λ j. repeats a (moment_of v a) j.token j.key j.at) v.kept k is kept, kept)
  acted-given a v None is h kept =
      let at = moment_of v a in
      let made = done-given a.request at a.draw v.state h in
      let mine = own a at (request_done words a.request at a.draw v.state).1 in
      (made, given-filtered (λ k. lasts at k.at) (v.kept ++ mine) (given-behind v.kept mine kept (given-own _ made)))

  by-write : (a : Arrival) (v : ShopView) (write : Bool) → RequestGiven a.request → AreGiven v.kept
      → IsGivenBy (cond write (acted_by words (held_for a (moment_of v a) v.kept) a v) (v, read_served words a v))
  by-write a v true h kept = acted-given a v (held_for a (moment_of v a) v.kept) refl h kept
  by-write a v false h kept = (done-given a.request (moment_of v a) a.draw v.state h, kept)

  served-given : (a : Arrival) (v : ShopView) → RequestGiven a.request → AreGiven v.kept → IsGivenBy (arrival_served words a v)
  served-given a v = by-write a v (is_write a.request)

  message-given : (coming : Result Arrival Response) (v : ShopView) (answer : Answer) (w : ShopView) → ComingGiven coming → AreGiven v.kept → IsServed words coming v answer (λ x. w ≡ x)
      → (is_given (status_of answer) ≡ true) × AreGiven w.kept
  message-given (Ok a) v (Decided response) w h kept (leads, is) =
      let made = served-given a v h kept in
      (subst (λ (r : Response). is_given r.status ≡ true) (sym is) made.0, subst (λ (x : ShopView). AreGiven x.kept) (sym leads) made.1)
  message-given (Ok a) v Unavailable w h kept leads = (refl, subst (λ (x : ShopView). AreGiven x.kept) (sym leads) kept)
  message-given (Err refusal) v (Decided response) w h kept (leads, is) =
      (subst (λ (r : Response). is_given r.status ≡ true) (sym is) h, subst (λ (x : ShopView). AreGiven x.kept) (sym leads) kept)
  message-given (Err refusal) v Unavailable w h kept (leads, is) = (refl, subst (λ (x : ShopView). AreGiven x.kept) (sym leads) kept)

-- ---- over a stream

module _ {T : Type 0} (tables : Meaning T) (house : House) where
  pub record IsGivenAt (d : HandlerView T) (v : ShopView) : Type 0 where
    pub views : Views tables.holds d.tables d.state v
    pub kept : AreGiven v.kept

  given-once : (old : HandlerView T) (t : Tick) (m : Message) (answer : Answer) (new : HandlerView T) (v : ShopView) → ServesOnce tables (words_of house) old (arrival house t m) answer new → IsGivenAt old v
      → (w : ShopView) × ServesGiven house v t m answer w × IsGivenAt new w
  given-once old t m answer new v once is =
      let x = viewed tables house (words_of house) (arrival house t m) v answer (λ (w : ShopView). Views tables.holds new.tables new.state w) (once.served v is.views) in
      let number = number_of house.tokens m in
      let come : ComingGiven (arrival house t m) = coming-given t _ (key_of m) (call house.organizer house.event m number) (call_given house.organizer house.event m number) in
      let given = message-given (words_of house) (words_given house.organizer house.event) (arrival house t m) v answer x.0 come is.kept x.1 in
      (x.0, (x.1, given.0), record { views = x.2; kept = given.1 })

  pub all-given : (v : ShopView) (old new : Devices (HandlerView T)) (result : Result (Unit {0}) Failure) → AreGiven v.kept
      → RunLeads (Serves tables) old new result → tables.sure new.handler.tables → IsOf tables house old.handler → Views tables.holds old.handler.tables old.handler.state v
      → (w : ShopView) × RunLeads (ServesGiven house) (with_handler old v) (with_handler new w) result × IsOf tables house new.handler × Views tables.holds new.handler.tables new.handler.state w × AreGiven w.kept
  all-given v old new result kept run sure is views =
      let x = run-seen tables house IsGivenAt (ServesGiven house) given-once old new result v run sure is (record { views = views; kept = kept }) in
      (x.0, x.1, x.2, x.3.views, x.3.kept)
