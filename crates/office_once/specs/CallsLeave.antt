-- What a call leaves of a shop; of most it is said where the store has returned what was written.
use Rattle.std.specs.Prelude.{◌≡◌, ◌⊎◌, ℕ, List, [], ◌∷◌, ◌++◌, true}
use Rattle.base_values.specs.declared.answer.Answer.{Answer}
use Rattle.base_values.specs.declared.answer.Answer.TheVariants.{Unavailable}
use Rattle.base_values.specs.declared.answer.Response.{Response}
use Rattle.base_values.specs.declared.draw.Draw.{Draw}
use Rattle.book_tally.specs.declared.deltas.Drafted.{Drafted}
use Rattle.model_answers.specs.CallsLeave.{KnowsStill, MayLeaveNoMore}
use Rattle.model_answers.specs.declared.kept.Kept.{Kept}
use Rattle.model_answers.specs.House.{House}
use Rattle.model_answers.specs.ShopView.{ShopView, IsSame}
use Rattle.model_commands.specs.declared.replies.Reply.{Reply}
use Rattle.model_invariant.specs.Sound.{IsSound}
use Rattle.model_rows.specs.Change.{changes_applied}
use Rattle.model_rows.specs.Lists.{State}
use Rattle.office_deliveries.specs.declared.arrival.Arrival.{Arrival}
use Rattle.office_deliveries.specs.declared.arrival.Request.{Request}
use Rattle.office_deliveries.specs.Deliveries.{Opening, Delivery, request_done, answer_told}
use Rattle.office_deliveries.specs.Histories.{Running, IsRunning, TellsIt, after_act}
use Rattle.office_deliveries.specs.Shops.{Views, StandsFor, IsAnswered, IsDecided, arrival_delivered, executes, arrival_served}
use Rattle.office_step.specs.IsStep.{HasCountDeltas}
use Rattle.office_once.specs.OpenShop.{OpenShop}

-- this is so of each shop that its tables and its office were those of before
abbrev pub OfItsShop : {T W : Type 0} → (T → Type 0) → (T → State → List Kept → Type 0) → OpenShop T W → OpenShop T W → (ShopView → Type 0) → Type 0
OfItsShop sure holds old new Holds = sure new.tables → (v : ShopView) → Views holds old.tables old.state v → Holds v

-- they are still those of that shop
abbrev pub StaysItsShop : {T W : Type 0} → (T → Type 0) → (T → State → List Kept → Type 0) → OpenShop T W → OpenShop T W → Type 0
StaysItsShop sure holds old new = OfItsShop sure holds old new (λ v. Views holds new.tables new.state v)

-- a crash may leave what it could have left before, or what this makes of the shop, and that is sound
abbrev pub MayLeaveMade : {T W : Type 0} → (T → State → List Kept → Type 0) → (T → ShopView → Type 0) → OpenShop T W → OpenShop T W → (ShopView → ShopView) → Type 0
MayLeaveMade holds may_leave old new made =
    (left : ShopView) → may_leave new.tables left → may_leave old.tables left
    ⊎ ((v : ShopView) → Views holds old.tables old.state v → IsSame left (made v) × IsSound left.state)

-- where an arrival is executed, a crash leaves what it makes of the shop
abbrev pub LeavesServed : {T W : Type 0} → (Reply → Response) → (T → State → List Kept → Type 0) → (T → ShopView → Type 0) → Arrival → OpenShop T W → OpenShop T W → Type 0
LeavesServed words holds may_leave a old new =
    (v : ShopView) → Views holds old.tables old.state v → executes a v ≡ true
    → (left : ShopView) → may_leave new.tables left → IsSame left (arrival_served words a v).0

-- a shop that stood for a list of arrivals stands for it with this one behind it, which was answered as is told of that list
abbrev pub StandsWith : {T W : Type 0} → (Reply → Response) → (T → State → List Kept → Type 0) → Arrival → Answer → OpenShop T W → OpenShop T W → Type 0
StandsWith words holds a answer old new =
    (p : Opening) (ds : List Delivery) → StandsFor words holds old.tables old.state p ds
    → StandsFor words holds new.tables new.state p (ds ++ arrival_delivered a answer ∷ []) × (answer_told words p ds (arrival_delivered a answer) ≡ answer)

-- a shop that was running runs on with this arrival, and tells what the shop tells
abbrev pub RunsOn : {T W : Type 0} → (Reply → Response) → (T → State → List Kept → Type 0) → (T → ShopView → Type 0) → Arrival → Answer → OpenShop T W → OpenShop T W → Type 0
RunsOn words holds may_leave a answer old new =
    (r : Running) → IsRunning words holds may_leave old.tables old.state r
    → IsRunning words holds may_leave new.tables new.state (after_act words a answer r) × TellsIt words a answer r.shop

-- a decision changes this and answers this, as the request asks for; what that leaves is sound, and its counts shift so
pub record Decides (words : Reply → Response) (request : Request) (at : ℕ) (draw : Draw) (state : State) (drafted : Drafted) (response : Response) : Type 0 where
  pub made : (let both : State × Response = (changes_applied drafted.changes at state, response) in both ≡ request_done words request at draw state)
  pub sound : IsSound (changes_applied drafted.changes at state)
  pub deltas : HasCountDeltas at state.lists drafted

module _ {T W : Type 0} (is_sure : T → Type 0) (knows : T → House → Type 0) (holds : T → State → List Kept → Type 0) (may_leave : T → ShopView → Type 0) where
  -- a call asks the tables and changes nothing; this holds of what it found
  pub record OnlyAsks (old new : OpenShop T W) (Found : Type 0) : Type 0 where
    pub wording : new.wording ≡ old.wording
    pub office : new.state ≡ old.state
    pub sure : is_sure new.tables → is_sure old.tables
    pub house : KnowsStill is_sure knows old.tables new.tables
    pub found : Found
    pub same : StaysItsShop is_sure holds old new
    pub crash : MayLeaveNoMore may_leave old.tables new.tables

  -- a write is answered so
  pub record Writes (words : Reply → Response) (a : Arrival) (answer : Answer) (old new : OpenShop T W) : Type 0 where
    pub wording : new.wording ≡ old.wording
    pub office : answer ≡ Unavailable → new.state ≡ old.state
    pub sure : is_sure new.tables → is_sure old.tables
    pub house : KnowsStill is_sure knows old.tables new.tables
    pub answered : OfItsShop is_sure holds old new (λ v. IsAnswered words a v answer (λ w. Views holds new.tables new.state w))
    pub crash : is_sure new.tables → MayLeaveMade holds may_leave old new (λ v. (arrival_served words a v).0)
    pub settled : is_sure new.tables → IsDecided answer (LeavesServed words holds may_leave a old new)
