-- Histories: arrivals, and crashes, after each of which the shop is opened again.
use Rattle.std.specs.Prelude.{◌≡◌, ◌⊎◌, ⊤, List, [], ◌∷◌, ◌++◌, if◌then◌else◌}
use Rattle.base_values.specs.declared.answer.Answer.{Answer}
use Rattle.base_values.specs.declared.answer.Answer.TheVariants.{Decided, Unavailable}
use Rattle.base_values.specs.declared.answer.Response.{Response}
use Rattle.model_rows.specs.Lists.{State}
use Rattle.model_invariant.specs.Sound.{IsSound}
use Rattle.model_commands.specs.declared.replies.Reply.{Reply}
use Rattle.office_deliveries.specs.declared.arrival.Arrival.{Arrival}
use Rattle.model_answers.specs.declared.kept.Kept.{Kept}
use Rattle.office_deliveries.specs.Deliveries.{Opening, Delivery, came, turned_away, is_write, is_first, firsts, answer_told}
use Rattle.office_deliveries.specs.Shops.{Views, executes, arrival_served}
use Rattle.model_answers.specs.ShopView.{ShopView, IsSame}

-- what a history has one after another: an arrival, answered or not, or a crash
pub data Event : Type 0 where
  -- an arrival, and what it was told
  Answered : Arrival → Response → Event
  -- an arrival that was answered 503, or that a crash cut off
  Unanswered : Arrival → Event
  -- a crash; the shop was opened again
  Crashed : Event

-- the arrival is one of these
abbrev pub IsAmong : Arrival → List Arrival → Type 0
IsAmong a [] = ⊥
IsAmong a (x ∷ xs) = (x ≡ a) ⊎ IsAmong a xs

-- a write that isn't answered is undecided from then on
abbrev pub also_undecided : Arrival → List Arrival → List Arrival
also_undecided a open_ = if is_write a.request then a ∷ open_ else open_

-- A running shop, and the writes that had no answer, or 503, since the last crash and since the last write that was executed.
pub record Running : Type 0 where
  pub shop : ShopView
  pub undecided : List Arrival

module _ (words : Reply → Response) where
  -- what a crash may leave: the shop as it is, or with one undecided write carried out
  abbrev pub MayLeave : Running → ShopView → Type 0
  MayLeave r left = (left ≡ r.shop) ⊎ ((a : Arrival) × IsAmong a r.undecided × (left ≡ (arrival_served words a r.shop).0))

  -- the shop as an answered arrival leaves it; once a write is executed no older one is undecided
  abbrev pub after_answer : Arrival → Running → Running
  after_answer a r = record { shop = (arrival_served words a r.shop).0; undecided = if executes a r.shop then [] else r.undecided }

  -- an arrival that isn't answered, or with 503, leaves the shop; where it is a write, that is undecided
  abbrev pub after_none : Arrival → Running → Running
  after_none a r = record r { undecided = also_undecided a r.undecided }

  -- a shop that was opened has no undecided writes
  abbrev pub running_from : ShopView → Running
  running_from left = record { shop = left; undecided = [] }

  -- what may happen to a running shop, one event after another
  abbrev pub Happens : Running → List Event → Running → Type 0
  Happens r [] end = end ≡ r
  Happens r (Answered a told ∷ es) end = (told ≡ (arrival_served words a r.shop).1) × Happens (after_answer a r) es end
  Happens r (Unanswered a ∷ es) end = Happens (after_none a r) es end
  Happens r (Crashed ∷ es) end = (left : ShopView) × MayLeave r left × Happens (running_from left) es end

  -- The list of arrivals that a history comes to: each crash takes at most one undecided write as in, run at the crash; all
  -- other undecided writes are out. And each answer is the one that is told.
  abbrev pub ComesTo : Opening → List Delivery → List Arrival → List Event → List Delivery → Type 0
  ComesTo p ds open_ [] whole = whole ≡ ds
  ComesTo p ds open_ (Answered a answer ∷ es) whole =
      (answer_told words p ds (came a) ≡ Decided answer) × ComesTo p (ds ++ came a ∷ []) (if is_first p (firsts p ds) (came a) then [] else open_) es whole
  ComesTo p ds open_ (Unanswered a ∷ es) whole = ComesTo p (ds ++ turned_away a ∷ []) (also_undecided a open_) es whole
  ComesTo p ds open_ (Crashed ∷ es) whole = ComesTo p ds [] es whole ⊎ ((a : Arrival) × IsAmong a open_ × ComesTo p (ds ++ came a ∷ []) [] es whole)

  -- a shop with its tables is running so: it is sound, and a crash leaves in them what it may leave of that shop, its answers in some
  -- order, and nothing that isn't sound
  pub record IsRunning {T : Type 0} (holds : T → State → List Kept → Type 0) (may_leave : T → ShopView → Type 0) (tables : T) (state : State) (r : Running) : Type 0 where
    pub views : Views holds tables state r.shop
    pub sound : IsSound r.shop.state
    pub leaves : (left : ShopView) → may_leave tables left → (x : ShopView) × MayLeave r x × IsSame left x
    pub leaves_sound : (left : ShopView) → may_leave tables left → IsSound left.state

  -- after an arrival that was answered so
  abbrev pub after_act : Arrival → Answer → Running → Running
  after_act a (Decided answer) r = after_answer a r
  after_act a Unavailable r = after_none a r

  -- the event that an arrival is which was answered so, whatever the words were: it is told in these
  abbrev pub event_of : Arrival → Answer → ShopView → Event
  event_of a (Decided answer) shop = Answered a (arrival_served words a shop).1
  event_of a Unavailable shop = Unanswered a

  -- what was told is what the shop tells
  abbrev pub TellsIt : Arrival → Answer → ShopView → Type 0
  TellsIt a (Decided answer) shop = answer ≡ (arrival_served words a shop).1
  TellsIt a Unavailable shop = ⊤

-- tables that a crash left were opened: they hold what was left, and a further crash leaves nothing else
pub record Reopened {T : Type 0} (holds : T → State → List Kept → Type 0) (may_leave : T → ShopView → Type 0) (before after : T) (left : ShopView) : Type 0 where
  pub may : may_leave before left
  pub held : holds after left.state left.kept
  pub only : (other : ShopView) → may_leave after other → IsSame other left
