-- What the handler of a shop does with one message, and what it answers.
use Rattle.std.specs.Prelude.{◌≡◌, ⊤, List, [], ◌∷◌, ◌++◌, Result, Ok, Err}
use Rattle.base_values.specs.declared.answer.Answer.{Answer}
use Rattle.base_values.specs.declared.answer.Answer.TheVariants.{Decided, Unavailable}
use Rattle.base_values.specs.declared.answer.Response.{Response}
use Rattle.base_devices.specs.declared.device.Tick.{Tick}
use Rattle.web_http.specs.Messages.{Message}
use Rattle.model_commands.specs.declared.replies.Reply.{Reply}
use Rattle.office_deliveries.specs.declared.arrival.Arrival.{Arrival}
use Rattle.office_deliveries.specs.Deliveries.{Opening, Delivery, answer_told}
use Rattle.office_deliveries.specs.Fit.{IsFitArrival}
use Rattle.office_deliveries.specs.Histories.{Running, after_act}
use Rattle.office_deliveries.specs.Shops.{IsAnswered, arrival_delivered}
use Rattle.model_answers.specs.ShopView.{ShopView}
use Rattle.web_arrivals.specs.Coming.{arrival}
use Rattle.web_arrivals.specs.HandlerView.{HandlerView, House, Meaning, house_of, words_of}
use Rattle.web_arrivals.specs.Seen.{HasList, HasRunning, HasShop}

-- without an arrival it is 401, in these words, or 503
abbrev pub IsRefused : Response → Answer → Type 0
IsRefused refusal (Decided response) = response ≡ refusal
IsRefused refusal Unavailable = ⊤

-- what an arrival asks is within its limits, and its draw is sixteen bytes
abbrev pub IsFitComing : Result Arrival Response → Answer → Type 0
IsFitComing (Ok a) (Decided response) = IsFitArrival a
IsFitComing (Ok a) Unavailable = ⊤
IsFitComing (Err refusal) answer = ⊤

module _ (words : Reply → Response) where
  -- what a message is answered, and what it leads to: an arrival is served by the shop; without one nothing changes
  abbrev pub IsServed : Result Arrival Response → ShopView → Answer → (ShopView → Type 0) → Type 0
  IsServed (Ok a) old answer Leads = IsAnswered words a old answer Leads
  IsServed (Err refusal) old answer Leads = Leads old × IsRefused refusal answer

  -- What a message is answered, over the list of arrivals till then: an arrival stands behind it, marked where it is answered 503, and is
  -- told what is told of the list; without one the list stays.
  abbrev pub IsListed : Result Arrival Response → Opening → List Delivery → Answer → (List Delivery → Type 0) → Type 0
  IsListed (Ok a) p ds answer Leads = Leads (ds ++ arrival_delivered a answer ∷ []) × (answer_told words p ds (arrival_delivered a answer) ≡ answer)
  IsListed (Err refusal) p ds answer Leads = Leads ds × IsRefused refusal answer

  -- a running shop after a message, with the writes that a crash may still carry out
  abbrev pub after_message : Result Arrival Response → Answer → Running → Running
  after_message (Ok a) answer r = after_act words a answer r
  after_message (Err refusal) answer r = r

-- A message that is this arrival, or none, is served once: as a shop is seen before, so it is served and seen after, whether it
-- is seen by its rows and its kept answers, as a shop that stands for a list of arrivals, or as a running one, with what a crash
-- may leave of it. Where it is answered 503, all stays as it was.
pub record ServesOnce {T : Type 0} (tables : Meaning T) (words : Reply → Response) (old : HandlerView T) (coming : Result Arrival Response) (answer : Answer) (new : HandlerView T) : Type 0 where
  pub served : (v : ShopView) → HasShop tables old v → IsServed words coming v answer (λ w. HasShop tables new w)
  pub stands : (p : Opening) (ds : List Delivery) → HasList tables words old p ds → IsListed words coming p ds answer (λ es. HasList tables words new p es)
  pub running : (r : Running) → HasRunning tables words old r → HasRunning tables words new (after_message words coming answer r)
  pub house : (house : House) → tables.knows old.tables house → tables.knows new.tables house
  pub fit : IsFitComing coming answer

-- A handler keeps its names, and where it answers 503 its office, whatever became of its tables. Where these are sure after a message they
-- were so before it, and the message is served once, as the arrival that it is by the house that they know.
pub record Serves {T : Type 0} (tables : Meaning T) (old : HandlerView T) (tick : Tick) (m : Message) (answer : Answer) (new : HandlerView T) : Type 0 where
  pub organizer : new.organizer ≡ old.organizer
  pub event : new.event ≡ old.event
  pub office : answer ≡ Unavailable → new.state ≡ old.state
  pub was_sure : tables.sure new.tables → tables.sure old.tables
  pub once : tables.sure new.tables → (known : House) → tables.knows old.tables known
      → let house = house_of old known in ServesOnce tables (words_of house) old (arrival house tick m) answer new
