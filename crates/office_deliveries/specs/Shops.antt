-- A shop with its kept answers, after one arrival and after many; when it has what a list of arrivals leads to.
use Rattle.std.specs.Prelude.{◌≡◌, ℕ, Bool, not, ◌&&◌, is_some, ⊤, List, [], ◌∷◌, Option, Some, None, if◌then◌else◌}
use Rattle.base_values.specs.declared.answer.Answer.{Answer}
use Rattle.base_values.specs.declared.answer.Answer.TheVariants.{Decided, Unavailable}
use Rattle.base_values.specs.declared.answer.Response.{Response}
use Rattle.model_rows.specs.Lists.{State}
use Rattle.model_commands.specs.declared.replies.Reply.{Reply}
use Rattle.office_deliveries.specs.declared.arrival.Arrival.{Arrival}
use Rattle.model_answers.specs.declared.kept.Kept.{Kept}
use Rattle.office_deliveries.specs.Deliveries.{Opening, Delivery, First, came, turned_away, request_done, is_write, held_for, firsts, office, answers_kept}
use Rattle.model_answers.specs.KeptAnswers.{AreOneForEachKey}
use Rattle.model_answers.specs.ShopView.{ShopView, own_row, with_kept}
use Rattle.std.specs.List.{AllByRecursion}
pub use Rattle.office_step.specs.Step.{moment_at}

-- the moment of an arrival: the clock's, but never before the office's
abbrev pub moment_of : ShopView → Arrival → ℕ
moment_of shop a = moment_at a.clock shop.state

-- an executed write's own answer
abbrev pub own : Arrival → ℕ → Response → List Kept
own a at told = own_row (record { token = a.token; key = a.key; at = at; response = told })

-- an arrival with its answer
abbrev pub arrival_delivered : Arrival → Answer → Delivery
arrival_delivered a (Decided told) = came a
arrival_delivered a Unavailable = turned_away a

-- arrivals beside their answers, in order, as far as there are both
abbrev pub delivered_all : List Arrival → List Answer → List Delivery
delivered_all [] answers = []
delivered_all (a ∷ more) [] = []
delivered_all (a ∷ more) (answer ∷ answers) = arrival_delivered a answer ∷ delivered_all more answers

-- Tables and office are those of the shop.
pub record Views {T : Type 0} (holds : T → State → List Kept → Type 0) (tables : T) (state : State) (v : ShopView) : Type 0 where
  pub state_is : state ≡ v.state
  pub held : holds tables v.state v.kept
  pub one : AreOneForEachKey v.kept

-- an arrival is executed
abbrev pub executes : Arrival → ShopView → Bool
executes a shop = is_write a.request && not (is_some (held_for a (moment_of shop a) shop.kept))

module _ (words : Reply → Response) where
  -- a write that is executed at a moment
  abbrev pub executed_at : Arrival → ℕ → ShopView → ShopView × Response
  executed_at a at shop =
      let made = request_done words a.request at a.draw shop.state in
      (record { state = made.0; kept = with_kept at shop.kept (own a at made.1) }, made.1)

  -- a write that is executed at the moment of its arrival
  abbrev pub execute : Arrival → ShopView → ShopView × Response
  execute a shop = executed_at a (moment_of shop a) shop

  -- a write, by the answer that is kept for its key
  abbrev pub acted_by : Option Kept → Arrival → ShopView → ShopView × Response
  acted_by (Some k) a shop = (shop, k.response)
  acted_by None a shop = execute a shop

  -- a write: a repeat gets the answer that is kept for its key, and any other is executed
  abbrev pub write_served : Arrival → ShopView → ShopView × Response
  write_served a shop = acted_by (held_for a (moment_of shop a) shop.kept) a shop

  -- a read
  abbrev pub read_served : Arrival → ShopView → Response
  read_served a shop = (request_done words a.request (moment_of shop a) a.draw shop.state).1

  -- whichever it is
  abbrev pub arrival_served : Arrival → ShopView → ShopView × Response
  arrival_served a shop = if is_write a.request then write_served a shop else (shop, read_served a shop)

  -- where it was answered 503 nothing has changed
  abbrev pub Serves : Arrival → ShopView → Answer → ShopView → Type 0
  Serves a old (Decided told) new = (new ≡ (arrival_served a old).0) × (told ≡ (arrival_served a old).1)
  Serves a old Unavailable new = new ≡ old

  -- an arrival's answer: this is what it leads to, and what is told; at 503 nothing has changed
  abbrev pub IsAnswered : Arrival → ShopView → Answer → (ShopView → Type 0) → Type 0
  IsAnswered a old (Decided told) Leads = Leads (arrival_served a old).0 × (told ≡ (arrival_served a old).1)
  IsAnswered a old Unavailable Leads = Leads old

  -- the shop serves these arrivals in order
  abbrev pub ServesAll : List Arrival → ShopView → List Answer → ShopView → Type 0
  ServesAll [] old [] new = new ≡ old
  ServesAll [] old (answer ∷ answers) new = ⊥
  ServesAll (a ∷ more) old [] new = ⊥
  ServesAll (a ∷ more) old (answer ∷ answers) new = (mid : ShopView) × Serves a old answer mid × ServesAll more mid answers new

  -- the shop that stands for these executed writes
  abbrev pub shop_after : Opening → List First → ShopView
  shop_after p fs = record { state = office words p fs; kept = answers_kept words p fs }

  -- the shop stands for a list of arrivals: its office is that of the writes that are executed, and so are its kept answers
  pub record Stands (p : Opening) (ds : List Delivery) (shop : ShopView) : Type 0 where
    pub office : shop.state ≡ office words p (firsts p ds)
    pub kept : shop.kept ≡ answers_kept words p (firsts p ds)

  -- tables and office are those of a shop that stands for a list of arrivals
  abbrev pub StandsFor : {T : Type 0} → (T → State → List Kept → Type 0) → T → State → Opening → List Delivery → Type 0
  StandsFor holds tables state p ds = Views holds tables state (shop_after p (firsts p ds))

-- this holds, unless the answer is 503
abbrev pub IsDecided : Answer → Type 0 → Type 0
IsDecided (Decided told) P = P
IsDecided Unavailable P = ⊤

-- none of these arrivals has a key
abbrev pub AreKeyless : List Arrival → Type 0
AreKeyless open_ = AllByRecursion (λ a. a.key ≡ []) open_
