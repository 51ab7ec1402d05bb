-- A handler's runs over a stream, as a shop and as a list of arrivals see them.
use Rattle.std.proofs.Common.{◌≡◌, ℕ, List, [], ◌∷◌, ◌++◌, Option, Result, Ok, Err, refl, sym, ap, ap₂, ◌∙◌, subst, append-nil}
use Rattle.base_values.specs.declared.answer.Answer.{Answer}
use Rattle.base_values.specs.declared.answer.Answer.TheVariants.{Decided, Unavailable}
use Rattle.base_values.specs.declared.answer.Response.{Response}
use Rattle.base_devices.specs.declared.device.Tick.{Tick}
use Rattle.web_http.specs.Messages.{Message, closes}
use Rattle.web_http.specs.Text.{text}
use Rattle.model_commands.specs.declared.replies.Reply.{Reply}
use Rattle.model_answers.specs.ShopView.{ShopView}
use Rattle.office_deliveries.specs.declared.arrival.Arrival.{Arrival}
use Rattle.office_deliveries.specs.Deliveries.{Opening, Delivery}
use Rattle.office_deliveries.specs.Histories.{Event, Answered, Unanswered, Running, Happens, IsRunning, after_answer, after_none}
use Rattle.office_deliveries.proofs.Crashes.{happens_on}
use Rattle.office_deliveries.specs.Shops.{Views, StandsFor, arrival_served}
use Rattle.web_connection.specs.declared.failure.Failure.{Failure}
use Rattle.web_connection.specs.Run.{AtTick, Item, Runs, Devices, with_handler, RunLeads}
use Rattle.web_connection.proofs.FollowLemmas.{Follows, follows_at, runs_follow, run_follows}
use Rattle.web_arrivals.specs.Coming.{arrival}
use Rattle.web_arrivals.specs.HandlerView.{HandlerView, Meaning, House, IsOf, house_of, words_of}
use Rattle.web_arrivals.specs.Served.{IsServed, IsListed, ServesOnce, Serves, after_message}
use Rattle.web_arrivals.specs.Streams.{Decides, ServesHistory, ServesList, ServesRunning, events_of}

module _ {T : Type 0} (tables : Meaning T) (house : House) where
  pub is-house : (d : HandlerView T) → IsOf tables house d → house_of d house ≡ house
  is-house d is = ap₂ (λ (a b : List ℕ). let h : House = record house { organizer = a; event = b } in h) is.organizer is.event

  -- a message as this house has it
  pub once-of : (old : HandlerView T) (t : Tick) (m : Message) (answer : Answer) (new : HandlerView T) → IsOf tables house old → tables.sure new.tables → Serves tables old t m answer new
      → ServesOnce tables (words_of house) old (arrival house t m) answer new
  once-of old t m answer new is sure serves =
      subst (λ (h : House). ServesOnce tables (words_of h) old (arrival h t m) answer new) (is-house old is) (serves.once sure house is.known)

  pub is-still : (old : HandlerView T) (t : Tick) (m : Message) (answer : Answer) (new : HandlerView T) → IsOf tables house old → tables.sure new.tables → Serves tables old t m answer new → IsOf tables house new
  is-still old t m answer new is sure serves = record {
    organizer = serves.organizer ∙ is.organizer;
    event = serves.event ∙ is.event;
    known = (once-of old t m answer new is sure serves).house house is.known;
  }

  -- a handler of this house that is seen so
  pub record IsSeen {E : Type 0} (Rel : HandlerView T → E → Type 0) (d : HandlerView T) (seen : E) : Type 0 where
    pub of : IsOf tables house d
    pub rel : Rel d seen

  module _ {E : Type 0} (Rel : HandlerView T → E → Type 0) (Other : E → Tick → Message → Answer → E → Type 0)
      (one : (old : HandlerView T) (t : Tick) (m : Message) (answer : Answer) (new : HandlerView T) (seen : E) → ServesOnce tables (words_of house) old (arrival house t m) answer new → Rel old seen
      → (left : E) × Other seen t m answer left × Rel new left) where
    follows : Follows (Serves tables) Other (λ d. tables.sure d.tables) (IsSeen Rel)
    follows = record {
      was_sure = λ old t m answer new serves. serves.was_sure;
      one = λ old t m answer new seen serves sure is.
          let x = one old t m answer new seen (once-of old t m answer new is.of sure serves) is.rel in
          (x.0, x.1, record { of = is-still old t m answer new is.of sure serves; rel = x.2 });
    }

    pub run-seen : (old new : Devices (HandlerView T)) (result : Result (Unit {0}) Failure) (seen : E) → RunLeads (Serves tables) old new result → tables.sure new.handler.tables
        → IsOf tables house old.handler → Rel old.handler seen
        → (left : E) × RunLeads Other (with_handler old seen) (with_handler new left) result × IsOf tables house new.handler × Rel new.handler left
    run-seen old new result seen run sure is rel =
        let x = run_follows (Serves tables) Other (λ (d : HandlerView T). tables.sure d.tables) (IsSeen Rel) follows old new result seen run sure (record { of = is; rel = rel }) in
        (x.0, x.1, x.2.of, x.2.rel)

    -- the same at ticks of which something is known
    pub run-seen-at : (reads : Option Tick → Type 0) (old new : Devices (HandlerView T)) (result : Result (Unit {0}) Failure) (seen : E) → RunLeads (AtTick reads (Serves tables)) old new result
        → tables.sure new.handler.tables → IsOf tables house old.handler → Rel old.handler seen
        → (left : E) × RunLeads (AtTick reads Other) (with_handler old seen) (with_handler new left) result × IsOf tables house new.handler × Rel new.handler left
    run-seen-at reads old new result seen run sure is rel =
        let at = follows_at reads (Serves tables) Other (λ (d : HandlerView T). tables.sure d.tables) (IsSeen Rel) follows in
        let x = run_follows (AtTick reads (Serves tables)) (AtTick reads Other) (λ (d : HandlerView T). tables.sure d.tables) (IsSeen Rel) at old new result seen run sure (record { of = is; rel = rel }) in
        (x.0, x.1, x.2.of, x.2.rel)

  -- a message, as those see it that follow the handler in this way
  abbrev pub Once : {E : Type 0} → (HandlerView T → E → Type 0) → (E → Tick → Message → Answer → E → Type 0) → Type 0
  Once {E = E} Rel Other = (old : HandlerView T) (t : Tick) (m : Message) (answer : Answer) (new : HandlerView T) (seen : E) → ServesOnce tables (words_of house) old (arrival house t m) answer new → Rel old seen
      → (left : E) × Other seen t m answer left × Rel new left

  -- ---- as a list of arrivals

  abbrev pub StandsAt : Opening → HandlerView T → List Delivery → Type 0
  StandsAt p d ds = StandsFor (words_of house) tables.holds d.tables d.state p ds

  listed : (words : Reply → Response) (coming : Result Arrival Response) (p : Opening) (ds : List Delivery) (answer : Answer) (Leads : List Delivery → Type 0) → IsListed words coming p ds answer Leads
      → (es : List Delivery) × IsListed words coming p ds answer (λ fs. es ≡ fs) × Leads es
  listed words (Ok a) p ds answer Leads (leads, is) = (_, (refl, is), leads)
  listed words (Err refusal) p ds answer Leads (leads, is) = (_, (refl, is), leads)

  pub listed-once : (p : Opening) → Once (StandsAt p) (ServesList house p)
  listed-once p d t m answer e seen once stands = listed (words_of house) (arrival house t m) p seen answer (StandsAt p e) (once.stands p seen stands)

  pub told-once : (p : Opening) (ds : List Delivery) (old new : Devices (HandlerView T)) (result : Result (Unit {0}) Failure)
      → RunLeads (Serves tables) old new result → tables.sure new.handler.tables → IsOf tables house old.handler → StandsAt p old.handler ds
      → (es : List Delivery) × RunLeads (ServesList house p) (with_handler old ds) (with_handler new es) result × IsOf tables house new.handler × StandsAt p new.handler es
  told-once p ds old new result = run-seen (StandsAt p) (ServesList house p) (listed-once p) old new result ds

  -- ---- as a shop

  abbrev pub ViewsAt : HandlerView T → ShopView → Type 0
  ViewsAt d v = Views tables.holds d.tables d.state v

  pub viewed : (words : Reply → Response) (coming : Result Arrival Response) (v : ShopView) (answer : Answer) (Leads : ShopView → Type 0) → IsServed words coming v answer Leads
      → (w : ShopView) × IsServed words coming v answer (λ x. w ≡ x) × Leads w
  viewed words (Ok a) v (Decided response) Leads (leads, is) = (_, (refl, is), leads)
  viewed words (Ok a) v Unavailable Leads leads = (_, refl, leads)
  viewed words (Err refusal) v answer Leads (leads, is) = (_, (refl, is), leads)

  -- ---- as a running shop

  abbrev pub RunsAt : HandlerView T → Running → Type 0
  RunsAt d r = IsRunning (words_of house) tables.holds tables.may_leave d.tables d.state r

  still-served : (words : Reply → Response) (coming : Result Arrival Response) (r : Running) (answer : Answer) (Leads : ShopView → Type 0) → IsServed words coming r.shop answer Leads
      → IsServed words coming r.shop answer (λ w. (after_message words coming answer r).shop ≡ w)
  still-served words (Ok a) r (Decided response) Leads (leads, is) = (refl, is)
  still-served words (Ok a) r Unavailable Leads leads = refl
  still-served words (Err refusal) r answer Leads (leads, is) = (refl, is)

  pub runs-once : Once RunsAt (ServesRunning house)
  runs-once d t m answer e q once running = (
    after_message (words_of house) (arrival house t m) answer q,
    (still-served (words_of house) (arrival house t m) q answer _ (once.served q.shop running.views), refl),
    once.running q running,
  )

  pub run-on : (r : Running) (old new : Devices (HandlerView T)) (result : Result (Unit {0}) Failure)
      → RunLeads (Serves tables) old new result → tables.sure new.handler.tables → IsOf tables house old.handler → RunsAt old.handler r
      → (s : Running) × RunLeads (ServesRunning house) (with_handler old r) (with_handler new s) result × IsOf tables house new.handler × RunsAt new.handler s
  run-on r old new result = run-seen RunsAt (ServesRunning house) runs-once old new result r

  -- ---- as a history that goes on

  -- the shop is running as these events left it that had begun so
  abbrev pub HappensAt : Running → HandlerView T → List Event → Type 0
  HappensAt begun d es = (r : Running) × Happens (words_of house) begun es r × RunsAt d r

  happens-next : (words : Reply → Response) (coming : Result Arrival Response) (answer : Answer) (begun r : Running) (es : List Event) (Leads : ShopView → Type 0) → Happens words begun es r
      → IsServed words coming r.shop answer Leads → Happens words begun (es ++ events_of coming answer) (after_message words coming answer r)
  happens-next words (Ok a) (Decided t) begun r es Leads happened (leads, is) = happens_on words begun es (Answered a t ∷ []) r (after_answer words a r) happened (is, refl)
  happens-next words (Ok a) Unavailable begun r es Leads happened leads = happens_on words begun es (Unanswered a ∷ []) r (after_none words a r) happened refl
  happens-next words (Err refusal) answer begun r es Leads happened served = subst (λ (fs : List Event). Happens words begun fs r) (sym (append-nil es)) happened

  pub happens-once : (begun : Running) → Once (HappensAt begun) (ServesHistory house)
  happens-once begun d t m answer e seen once h =
      let coming = arrival house t m in (
        seen ++ events_of coming answer,
        refl,
        (
          after_message (words_of house) coming answer h.0,
          happens-next (words_of house) coming answer begun h.0 seen _ h.1 (once.served h.0.shop h.2.views),
          once.running h.0 h.2,
        ),
      )

-- ---- two runs over tables of their own

-- what a message that isn't answered 503 makes of a shop, and what it is told
abbrev pub message_served : (Reply → Response) → Result Arrival Response → ShopView → ShopView × Response
message_served words (Ok a) v = arrival_served words a v
message_served words (Err refusal) v = (v, refusal)

abbrev pub Tells : House → ShopView → Tick → Message → Answer → ShopView → Type 0
Tells house old t m answer new =
    let made = message_served (words_of house) (arrival house t m) old in
    (answer ≡ Decided made.1) × (new ≡ made.0)

alike : (house : House) (v : ShopView) (ticks : List Tick) (items : List Item) (a b : List ℕ) (w x : ShopView)
    → Runs (Tells house) v ticks items a w → Runs (Tells house) v ticks items b x → (a ≡ b) × (w ≡ x)
alike house v [] [] a b w x (p, q) (r, s) = (p ∙ sym r, q ∙ sym s)
alike house v [] (Err f ∷ items) a b w x (p, q, u) (r, s, y) = (p ∙ sym r, q ∙ sym s)
alike house v [] (Ok m ∷ items) a b w x y z = absurd y
alike house v (t ∷ ts) [] a b w x y z = absurd y
alike house v (t ∷ ts) (Err f ∷ items) a b w x y z = absurd y
alike house v (t ∷ ts) (Ok m ∷ items) a b w x (mid, answer, rest, tells, is, y) (mid', answer', rest', tells', is', z) =
    let mids : mid' ≡ mid = tells'.1 ∙ sym tells.1 in
    let answers : answer ≡ answer' = tells.0 ∙ sym tells'.0 in
    let both = alike house mid ts items rest rest' w x y (subst (λ (d : ShopView). Runs (Tells house) d ts items rest' x) mids z) in
    (is ∙ (ap₂ (λ (c : Answer) (t : List ℕ). text c (closes m) ++ t) answers both.0 ∙ sym is'), both.1)

decided-is : (words : Reply → Response) (coming : Result Arrival Response) (v : ShopView) (response : Response) (Leads : ShopView → Type 0) → IsServed words coming v (Decided response) Leads
    → (let answer : Answer = Decided response in answer ≡ Decided (message_served words coming v).1) × Leads (message_served words coming v).0
decided-is words (Ok a) v response Leads (leads, is) = (ap (λ (r : Response). let answer : Answer = Decided r in answer) is, leads)
decided-is words (Err refusal) v response Leads (leads, is) = (ap (λ (r : Response). let answer : Answer = Decided r in answer) is, leads)

module _ {T : Type 0} (tables : Meaning T) (house : House) where
  decided-once : (old : HandlerView T) (t : Tick) (m : Message) (answer : Answer) (response : Response) (new : HandlerView T) (v : ShopView) → answer ≡ Decided response
      → ServesOnce tables (words_of house) old (arrival house t m) answer new → ViewsAt tables house old v
      → (w : ShopView) × Tells house v t m answer w × ViewsAt tables house new w
  decided-once old t m answer response new v is once views =
      let made = message_served (words_of house) (arrival house t m) v in
      let served = subst (λ (c : Answer). IsServed (words_of house) (arrival house t m) v c (ViewsAt tables house new)) is (once.served v views) in
      let x = decided-is (words_of house) (arrival house t m) v response (ViewsAt tables house new) served in
      (made.0, (is ∙ x.0, refl), x.1)

  decides-follow : Follows (Decides tables) (Tells house) (λ d. tables.sure d.tables) (IsSeen tables house (ViewsAt tables house))
  decides-follow = record {
    was_sure = λ old t m answer new decides. decides.0.was_sure;
    one = λ old t m answer new seen decides sure is.
        let x = decided-once old t m answer decides.1.0 new seen decides.1.1 (once-of tables house old t m answer new is.of sure decides.0) is.rel in
        (x.0, x.1, record { of = is-still tables house old t m answer new is.of sure decides.0; rel = x.2 });
  }

  decides-seen : (old : HandlerView T) (ticks : List Tick) (items : List Item) (a : List ℕ) (new : HandlerView T) (v : ShopView) → Runs (Decides tables) old ticks items a new → tables.sure new.tables
      → IsOf tables house old → ViewsAt tables house old v → (w : ShopView) × Runs (Tells house) v ticks items a w × ViewsAt tables house new w
  decides-seen old ticks items a new v runs sure is views =
      let x = runs_follow (Decides tables) (Tells house) (λ (d : HandlerView T). tables.sure d.tables) (IsSeen tables house (ViewsAt tables house)) decides-follow old ticks items a new v runs sure (record { of = is; rel = views }) in
      (x.0, x.1, x.2.rel)

pub all-alike : {T U : Type 0} (tables : Meaning T) (others : Meaning U) (house : House) (v : ShopView) (old new : HandlerView T) (other newer : HandlerView U) (ticks : List Tick) (items : List Item) (a b : List ℕ)
    → Runs (Decides tables) old ticks items a new → Runs (Decides others) other ticks items b newer → tables.sure new.tables → others.sure newer.tables → IsOf tables house old → IsOf others house other
    → ViewsAt tables house old v → ViewsAt others house other v → (a ≡ b) × ((w : ShopView) × ViewsAt tables house new w × ViewsAt others house newer w)
all-alike tables others house v old new other newer ticks items a b runs runs' sure sure' is is' views views' =
    let x = decides-seen tables house old ticks items a new v runs sure is views in
    let y = decides-seen others house other ticks items b newer v runs' sure' is' views' in
    let both = alike house v ticks items a b x.0 y.0 x.1 y.1 in
    (both.0, (x.0, x.2, subst (ViewsAt others house newer) (sym both.1) y.2))
