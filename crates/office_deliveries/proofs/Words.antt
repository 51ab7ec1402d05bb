-- A shop in other words.
use Rattle.std.proofs.Common.{◌≡◌, inl, inr, ℕ, Bool, true, false, cond, List, [], ◌∷◌, ◌++◌, filter, Option, Some, None, refl, sym, ap, ap₂, ◌∙◌, subst, append-nil}
use Rattle.base_values.specs.declared.answer.Answer.{Answer}
use Rattle.base_values.specs.declared.answer.Answer.TheVariants.{Decided, Unavailable}
use Rattle.base_values.specs.declared.answer.Response.{Response}
use Rattle.base_values.specs.declared.draw.Draw.{Draw}
use Rattle.model_rows.specs.Lists.{State}
use Rattle.model_commands.specs.declared.replies.Reply.{Reply}
use Rattle.office_deliveries.specs.declared.arrival.Arrival.{Arrival}
use Rattle.office_deliveries.specs.declared.arrival.Request.{Request}
use Rattle.office_deliveries.specs.declared.arrival.Request.TheVariants.{Write, WriteRefused, Read, ReadRefused}
use Rattle.model_answers.specs.declared.kept.Kept.{Kept}
use Rattle.model_answers.specs.KeptAnswers.{lasts}
use Rattle.model_answers.specs.ShopView.{ShopView, own_row, with_kept}
use Rattle.model_answers.proofs.Lists.{filter-filter}
use Rattle.office_deliveries.specs.Deliveries.{Opening, Delivery, is_write, request_done, held_for, firsts, office, ever_kept}
use Rattle.office_deliveries.specs.Shops.{Stands, moment_of, own, executes, executed_at, acted_by, write_served, read_served, arrival_served}
use Rattle.office_deliveries.specs.Histories.{Running, MayLeave, IsRunning, IsAmong, also_undecided, after_answer, after_none, after_act, event_of, Happens}
use Rattle.office_deliveries.specs.Shops.{AreKeyless}

-- ---- what a write without key makes of a shop

same-state : (words other : Reply → Response) (request : Request) (at : ℕ) (draw : Draw) (state : State) → (request_done words request at draw state).0 ≡ (request_done other request at draw state).0
unfolding request_done
same-state words other (Write command) at draw state = refl
same-state words other (WriteRefused response) at draw state = refl
same-state words other (Read query) at draw state = refl
same-state words other (ReadRefused response) at draw state = refl

-- its answer isn't kept
unkept : (a : Arrival) (at : ℕ) (told : Response) → a.key ≡ [] → own a at told ≡ []
unkept a at told none = ap (λ (key : List ℕ). own_row (record { token = a.token; key = key; at = at; response = told })) none

module _ (words other : Reply → Response) (a : Arrival) (none : a.key ≡ []) where
  same-executed : (at : ℕ) (v : ShopView) → (executed_at words a at v).0 ≡ (executed_at other a at v).0
  same-executed at v =
      let kept : own a at (request_done words a.request at a.draw v.state).1 ≡ own a at (request_done other a.request at a.draw v.state).1 =
      unkept a at (request_done words a.request at a.draw v.state).1 none ∙ sym (unkept a at (request_done other a.request at a.draw v.state).1 none) in
      ap₂ (λ (s : State) (ks : List Kept). let x : ShopView = record { state = s; kept = ks } in x) (same-state words other a.request at a.draw v.state) (ap (with_kept at v.kept) kept)

  same-acted : (h : Option Kept) (v : ShopView) → (acted_by words h a v).0 ≡ (acted_by other h a v).0
  same-acted (Some k) v = refl
  same-acted None v = same-executed (moment_of v a) v

  pub same-served : (v : ShopView) → (arrival_served words a v).0 ≡ (arrival_served other a v).0
  same-served v = elim (is_write a.request) as (λ b. (cond b (write_served words a v) (v, read_served words a v)).0 ≡ (cond b (write_served other a v) (v, read_served other a v)).0) [
    | true ↦ same-acted (held_for a (moment_of v a) v.kept) v
    | false ↦ refl
  ]

-- ---- what a crash may leave, where the undecided writes have none

keyless : (a : Arrival) (open_ : List Arrival) → AreKeyless open_ → IsAmong a open_ → a.key ≡ []
keyless a [] all among = absurd among
keyless a (x ∷ xs) (none, all) (inl same) = ap (λ (b : Arrival). b.key) (sym same) ∙ none
keyless a (x ∷ xs) (none, all) (inr among) = keyless a xs all among

also-keyless : (a : Arrival) (open_ : List Arrival) → a.key ≡ [] → AreKeyless open_ → AreKeyless (also_undecided a open_)
also-keyless a open_ none all = elim (is_write a.request) as (λ b. AreKeyless (cond b (a ∷ open_) open_)) [ true ↦ (none, all) | false ↦ all ]

executed-keyless : (words : Reply → Response) (a : Arrival) (r : Running) → AreKeyless r.undecided → AreKeyless (after_answer words a r).undecided
executed-keyless words a r all = elim (executes a r.shop) as (λ b. AreKeyless (cond b [] r.undecided)) [ true ↦ tt | false ↦ all ]

module _ {T : Type 0} (holds : T → State → List Kept → Type 0) (may_leave : T → ShopView → Type 0) (words other : Reply → Response) where
  same-left : (r : Running) (x : ShopView) → AreKeyless r.undecided → MayLeave words r x → MayLeave other r x
  same-left r x all (inl same) = inl same
  same-left r x all (inr (a, among, is)) = inr (a, among, is ∙ same-served words other a (keyless a r.undecided all among) r.shop)

  pub runs-in : (tables : T) (state : State) (r : Running) → AreKeyless r.undecided → IsRunning words holds may_leave tables state r → IsRunning other holds may_leave tables state r
  runs-in tables state r all running = record {
    views = running.views;
    sound = running.sound;
    leaves = λ left may. let x = running.leaves left may in (x.0, same-left r x.0 all x.1, x.2);
    leaves_sound = running.leaves_sound;
  }

  -- a write without key in some words, and as an event in others
  pub acts-in : (a : Arrival) (answer : Answer) (tables : T) (state : State) (r : Running) → a.key ≡ [] → AreKeyless r.undecided → IsRunning words holds may_leave tables state (after_act words a answer r)
      → IsRunning other holds may_leave tables state (after_act other a answer r) × Happens other r (event_of other a answer r.shop ∷ []) (after_act other a answer r)
  acts-in a (Decided t) tables state r none all running =
      let before : AreKeyless (after_answer words a r).undecided = executed-keyless words a r all in
      let same : after_answer words a r ≡ after_answer other a r =
      ap (λ (v : ShopView). let x : Running = record { shop = v; undecided = (after_answer words a r).undecided } in x) (same-served words other a none r.shop) in
      (subst (λ (q : Running). IsRunning other holds may_leave tables state q) same (runs-in tables state (after_answer words a r) before running), (refl, refl))
  acts-in a Unavailable tables state r none all running = (runs-in tables state (after_none words a r) (also-keyless a r.undecided none all) running, refl)

-- ---- where it stands

-- a shop that stands for a list stands for none, in whatever words, behind the opening with its rows and its answers
pub stands-from-there : (words other : Reply → Response) (p : Opening) (ds : List Delivery) (v : ShopView) → Stands words p ds v → Stands other (record { state = v.state; kept = v.kept }) [] v
stands-from-there words other p ds v stands =
    let at : ℕ → List Kept → List Kept = λ now ks. filter (λ k. lasts now k.at) ks in
    let fs = firsts p ds in
    let now = (office words p fs).moment in
    let all : at v.state.moment (v.kept ++ []) ≡ at now v.kept = ap₂ (λ (s : State) (ks : List Kept). at s.moment ks) stands.office (append-nil v.kept) in
    let twice : at now v.kept ≡ at now (ever_kept words p fs) =
    ap (at now) stands.kept ∙ filter-filter (λ (k : Kept). lasts now k.at) (λ (k : Kept). lasts now k.at) (λ k e. e) (ever_kept words p fs) in
    record { office = refl; kept = stands.kept ∙ sym (all ∙ twice) }
