-- Messages one after another, as a shop, a list of arrivals and a history see them, and what they do to the rows: an executed command makes its step;
-- a repeat, a read and a 503 change nothing; any other write at most the moment.
use Rattle.std.specs.Prelude.{◌≡◌, ℕ, Bool, true, false, List, [], ◌∷◌, ◌++◌, Result, Ok, Err}
use Rattle.base_values.specs.declared.answer.Answer.{Answer}
use Rattle.base_values.specs.declared.answer.Answer.TheVariants.{Decided, Unavailable}
use Rattle.base_values.specs.declared.answer.Response.{Response}
use Rattle.base_devices.specs.declared.device.Tick.{Tick}
use Rattle.base_values.specs.declared.draw.Draw.{Draw}
use Rattle.web_http.specs.Messages.{Message}
use Rattle.model_rows.specs.Lists.{State}
use Rattle.office_runs.specs.Runs.{office_stepped}
use Rattle.office_deliveries.specs.declared.arrival.Arrival.{Arrival}
use Rattle.office_deliveries.specs.declared.arrival.Request.{Request}
use Rattle.office_deliveries.specs.declared.arrival.Request.TheVariants.{Write, WriteRefused, Read, ReadRefused}
use Rattle.office_deliveries.specs.Deliveries.{Opening, Delivery}
use Rattle.office_runs.specs.NothingTooMuch.{TakesNothingTooMuch}
use Rattle.office_deliveries.specs.Histories.{Event, Answered, Unanswered, Running}
use Rattle.office_deliveries.specs.Shops.{executes}
use Rattle.model_answers.specs.ShopView.{ShopView}
use Rattle.web_arrivals.specs.Coming.{arrival}
use Rattle.web_arrivals.specs.HandlerView.{HandlerView, Meaning, House, words_of}
use Rattle.web_arrivals.specs.Served.{IsServed, IsListed, Serves, after_message}

-- the message is answered other than 503
abbrev pub Decides : {T : Type 0} → Meaning T → HandlerView T → Tick → Message → Answer → HandlerView T → Type 0
Decides tables old tick m answer new = Serves tables old tick m answer new × ((response : Response) × (answer ≡ Decided response))

-- ---- what an arrival does to the rows

-- an executed command makes its step, which takes too much of nothing; any other request changes the moment at most
abbrev pub MakesItsStep : Request → ℕ → Draw → State → State → Type 0
MakesItsStep (Write command) clock draw before after =
    let made = office_stepped (record { clock = clock; draw = draw; command = command }) before in
    (after ≡ made.after) × TakesNothingTooMuch made
MakesItsStep (WriteRefused response) clock draw before after = after ≡ record before { moment = after.moment }
MakesItsStep (Read query) clock draw before after = after ≡ before
MakesItsStep (ReadRefused response) clock draw before after = after ≡ before

-- a repeat and a read, which aren't executed, change nothing at all
abbrev pub KeepsRows : Bool → Arrival → ShopView → ShopView → Type 0
KeepsRows true a old new = MakesItsStep a.request a.clock a.draw old.state new.state
KeepsRows false a old new = new ≡ old

-- neither does a message that is no arrival
abbrev pub KeepsComing : Result Arrival Response → ShopView → ShopView → Type 0
KeepsComing (Ok a) old new = KeepsRows (executes a old) a old new
KeepsComing (Err refusal) old new = new ≡ old

-- what a message adds to a history: the arrival that it is, with what it was told, or without an answer where it was 503; or nothing
abbrev pub events_of : Result Arrival Response → Answer → List Event
events_of (Ok a) (Decided told) = Answered a told ∷ []
events_of (Ok a) Unavailable = Unanswered a ∷ []
events_of (Err refusal) answer = []

module _ (house : House) where
  -- a message, as the shop itself serves it
  abbrev pub ServesShop : ShopView → Tick → Message → Answer → ShopView → Type 0
  ServesShop old tick m answer new = IsServed (words_of house) (arrival house tick m) old answer (λ w. new ≡ w)

  -- a message, as the list of arrivals till then has it
  abbrev pub ServesList : Opening → List Delivery → Tick → Message → Answer → List Delivery → Type 0
  ServesList p old tick m answer new = IsListed (words_of house) (arrival house tick m) p old answer (λ es. new ≡ es)

  -- a message, as the running shop has it
  abbrev pub ServesRunning : Running → Tick → Message → Answer → Running → Type 0
  ServesRunning old tick m answer new =
      IsServed (words_of house) (arrival house tick m) old.shop answer (λ w. new.shop ≡ w) × (new ≡ after_message (words_of house) (arrival house tick m) answer old)

  -- a message, as the history till then has it
  abbrev pub ServesHistory : List Event → Tick → Message → Answer → List Event → Type 0
  ServesHistory old tick m answer new = new ≡ old ++ events_of (arrival house tick m) answer

  -- what a message does to the rows: at 503 nothing
  abbrev pub Keeps : ShopView → Tick → Message → Answer → ShopView → Type 0
  Keeps old tick m (Decided response) new = KeepsComing (arrival house tick m) old new
  Keeps old tick m Unavailable new = new ≡ old

  -- a message is served, and keeps the rows so
  abbrev pub ServesAndKeeps : ShopView → Tick → Message → Answer → ShopView → Type 0
  ServesAndKeeps old tick m answer new = ServesShop old tick m answer new × Keeps old tick m answer new
