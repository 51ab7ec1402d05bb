-- What an arrival makes of a running shop with its tables.
use Rattle.std.proofs.Common.{◌≡◌, ◌⊎◌, inl, inr, Bool, true, false, cond, ◌&&◌, not, List, [], ◌∷◌, Option, Some, None, is_some, refl, sym, ap, ap₂, ◌∙◌, subst, IsPermutation}
use Rattle.std.proofs.lemmas.List.Sorted.{IsPermutation-trans}
use Rattle.base_values.specs.declared.answer.Answer.{Answer}
use Rattle.base_values.specs.declared.answer.Answer.TheVariants.{Decided, Unavailable}
use Rattle.base_values.specs.declared.answer.Response.{Response}
use Rattle.model_rows.specs.Lists.{State}
use Rattle.model_invariant.specs.Sound.{IsSound}
use Rattle.model_commands.specs.declared.replies.Reply.{Reply}
use Rattle.office_deliveries.specs.declared.arrival.Arrival.{Arrival}
use Rattle.model_answers.specs.declared.kept.Kept.{Kept}
use Rattle.office_deliveries.specs.Deliveries.{is_write, held_for, request_done}
use Rattle.model_answers.specs.KeptAnswers.{AreOneForEachKey}
use Rattle.model_answers.specs.ShopView.{ShopView, IsSame}
use Rattle.office_deliveries.specs.Shops.{Views, IsAnswered, IsDecided, moment_of, executes, acted_by, write_served, read_served, arrival_served}
use Rattle.office_deliveries.specs.Histories.{Running, MayLeave, IsRunning, TellsIt, IsAmong, also_undecided, after_answer, after_none, after_act, running_from, Reopened}
use Rattle.office_deliveries.proofs.OneEach.{one-next}

-- a write that isn't executed leaves the shop as it is
unexecuted : (words : Reply → Response) (a : Arrival) (v : ShopView) → is_write a.request ≡ true → executes a v ≡ false → (arrival_served words a v).0 ≡ v
unexecuted words a v write not_executed =
    ap (λ (b : Bool). (cond b (write_served words a v) (v, read_served words a v)).0) write ∙ by_held (held_for a (moment_of v a) v.kept) (ap (λ (b : Bool). b && not (is_some (held_for a (moment_of v a) v.kept))) (sym write) ∙ not_executed)
  where
    by_held : (h : Option Kept) → (true && not (is_some h)) ≡ false → (acted_by words h a v).0 ≡ v
    by_held (Some k) e = refl
    by_held None e = absurd (let both : true ≡ false = e in cc)

among-also : (a b : Arrival) (open_ : List Arrival) → IsAmong a open_ → IsAmong a (also_undecided b open_)
among-also a b open_ among = elim (is_write b.request) as (λ w. IsAmong a (cond w (b ∷ open_) open_)) [ true ↦ inr among | false ↦ among ]

itself : (a : Arrival) (open_ : List Arrival) → is_write a.request ≡ true → IsAmong a (also_undecided a open_)
itself a open_ write = subst (λ (w : Bool). IsAmong a (cond w (a ∷ open_) open_)) (sym write) (inl refl)

-- where nothing was executed, what may be left is what might have been left
after-unexecuted : (words : Reply → Response) (a : Arrival) (r : Running) → is_write a.request ≡ true → executes a r.shop ≡ false → after_answer words a r ≡ r
after-unexecuted words a r write not_executed =
    ap₂ (λ (v : ShopView) (b : Bool). let x : Running = record { shop = v; undecided = cond b [] r.undecided } in x) (unexecuted words a r.shop write not_executed) not_executed

module _ {T : Type 0} (holds : T → State → List Kept → Type 0) (may_leave : T → ShopView → Type 0) (words : Reply → Response) (a : Arrival) (write : is_write a.request ≡ true)
    (tables tables' : T) (state state' : State) (r : Running) (running : IsRunning words holds may_leave tables state r)
    (crash : (left : ShopView) → may_leave tables' left → may_leave tables left ⊎ ((v : ShopView) → Views holds tables state v → IsSame left (arrival_served words a v).0 × IsSound left.state)) where
  -- what a crash may leave, where it may leave the arrival's own shop
  left-by : (s : Running) → ((x : ShopView) → MayLeave words r x → MayLeave words s x) → MayLeave words s (arrival_served words a r.shop).0
      → (left : ShopView) → may_leave tables' left → (x : ShopView) × MayLeave words s x × IsSame left x
  left-by s still own left may = elim (crash left may) [
    | inl old ↦ let x = running.leaves left old in (x.0, still x.0 x.1, x.2)
    | inr new ↦ ((arrival_served words a r.shop).0, own, (new r.shop running.views).0)
  ]

  -- and all of it is sound
  sound-left : (left : ShopView) → may_leave tables' left → IsSound left.state
  sound-left left may = elim (crash left may) [ inl old ↦ running.leaves_sound left old | inr new ↦ (new r.shop running.views).1 ]

  told-leaves : (executed : Bool) → executes a r.shop ≡ executed
      → ((v : ShopView) → Views holds tables state v → executes a v ≡ true → (left : ShopView) → may_leave tables' left → IsSame left (arrival_served words a v).0)
      → (left : ShopView) → may_leave tables' left → (x : ShopView) × MayLeave words (after_answer words a r) x × IsSame left x
  told-leaves true e settled left may = ((arrival_served words a r.shop).0, inl refl, settled r.shop running.views e left may)
  told-leaves false e settled left may =
      left-by (after_answer words a r) (λ x m. subst (λ (q : Running). MayLeave words q x) (sym (after-unexecuted words a r write e)) m) (inl refl) left may

  also-left : (x : ShopView) → MayLeave words r x → MayLeave words (after_none words a r) x
  also-left x (inl e) = inl e
  also-left x (inr (b, among, e)) = inr (b, among-also b a r.undecided among, e)

  pub runs-on : (answer : Answer) → IsSound state' → IsAnswered words a r.shop answer (λ w. Views holds tables' state' w)
      → IsDecided answer ((v : ShopView) → Views holds tables state v → executes a v ≡ true → (left : ShopView) → may_leave tables' left → IsSame left (arrival_served words a v).0)
      → IsRunning words holds may_leave tables' state' (after_act words a answer r) × TellsIt words a answer r.shop
  runs-on (Decided t) sound answered settled = (
    record { views = answered.0; sound = subst IsSound answered.0.state_is sound; leaves = told-leaves (executes a r.shop) refl settled; leaves_sound = sound-left },
    answered.1,
  )
  runs-on Unavailable sound answered settled = (
    record { views = answered; sound = running.sound; leaves = left-by (after_none words a r) also-left (inr (a, itself a r.undecided write, refl)); leaves_sound = sound-left },
    tt,
  )

-- a read leaves a running shop as it is
after-read : (words : Reply → Response) (a : Arrival) (answer : Answer) (r : Running) → is_write a.request ≡ false → after_act words a answer r ≡ r
after-read words a (Decided t) r read =
    ap₂ (λ (v : ShopView) (b : Bool). let x : Running = record { shop = v; undecided = cond b [] r.undecided } in x)
    (ap (λ (b : Bool). (cond b (write_served words a r.shop) (r.shop, read_served words a r.shop)).0) read)
    (ap (λ (b : Bool). b && not (is_some (held_for a (moment_of r.shop a) r.shop.kept))) read)
after-read words a Unavailable r read = ap (λ (b : Bool). let x : Running = record { shop = r.shop; undecided = cond b (a ∷ r.undecided) r.undecided } in x) read

tells-read : (words : Reply → Response) (a : Arrival) (answer : Answer) (v : ShopView) → IsAnswered words a v answer (λ w. w ≡ v) → TellsIt words a answer v
tells-read words a (Decided t) v answered = answered.1
tells-read words a Unavailable v answered = tt

pub reads-on : {T : Type 0} (holds : T → State → List Kept → Type 0) (may_leave : T → ShopView → Type 0) (words : Reply → Response) (a : Arrival) (answer : Answer) (tables : T) (state : State) (r : Running)
    → is_write a.request ≡ false → ((v : ShopView) → Views holds tables state v → IsAnswered words a v answer (λ w. w ≡ v)) → IsRunning words holds may_leave tables state r
    → (after_act words a answer r ≡ r) × TellsIt words a answer r.shop
reads-on holds may_leave words a answer tables state r read answered running =
    (after-read words a answer r read, tells-read words a answer r.shop (answered r.shop running.views))

-- ---- what was left, opened again

one-acted : (words : Reply → Response) (a : Arrival) (v : ShopView) → AreOneForEachKey v.kept → (h : Option Kept) → held_for a (moment_of v a) v.kept ≡ h → AreOneForEachKey (acted_by words h a v).0.kept
one-acted words a v one (Some k) held = one
one-acted words a v one None held = one-next a (moment_of v a) (request_done words a.request (moment_of v a) a.draw v.state).1 v.kept one held

one-served : (words : Reply → Response) (a : Arrival) (v : ShopView) → AreOneForEachKey v.kept → AreOneForEachKey (arrival_served words a v).0.kept
one-served words a v one = elim (is_write a.request) as (λ b. AreOneForEachKey (cond b (write_served words a v) (v, read_served words a v)).0.kept) [
  | true ↦ one-acted words a v one (held_for a (moment_of v a) v.kept) refl
  | false ↦ one
]

one-left : (words : Reply → Response) (r : Running) (x : ShopView) → AreOneForEachKey r.shop.kept → MayLeave words r x → AreOneForEachKey x.kept
one-left words r x one (inl e) = subst (λ (v : ShopView). AreOneForEachKey v.kept) (sym e) one
one-left words r x one (inr (a, among, e)) = subst (λ (v : ShopView). AreOneForEachKey v.kept) (sym e) (one-served words a r.shop one)

pub reopened : {T : Type 0} (holds : T → State → List Kept → Type 0) (may_leave : T → ShopView → Type 0)
    (reorders : (t : T) (s : State) (ks js : List Kept) → holds t s ks → IsPermutation ks js → holds t s js)
    (words : Reply → Response) (before after : T) (state : State) (left : ShopView) (r : Running)
    → IsRunning words holds may_leave before state r → Reopened holds may_leave before after left
    → (x : ShopView) × MayLeave words r x × IsRunning words holds may_leave after left.state (running_from words x)
reopened holds may_leave reorders words before after state left r running again =
    let found = running.leaves left again.may in
    let x = found.0 in
    let same = found.2 in
    let sound = running.leaves_sound left again.may in (
      x,
      found.1,
      record {
        views = record {
          state_is = same.state;
          held = reorders after x.state left.kept x.kept (subst (λ (s : State). holds after s left.kept) same.state again.held) same.kept;
          one = one-left words r x running.views.one found.1;
        };
        sound = subst IsSound same.state sound;
        leaves = λ other may. let is = again.only other may in (x, inl refl, record { state = is.state ∙ same.state; kept = IsPermutation-trans other.kept left.kept x.kept is.kept same.kept });
        leaves_sound = λ other may. subst IsSound (sym (again.only other may).state) sound;
      },
    )
