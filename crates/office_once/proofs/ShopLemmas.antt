-- What a shop does, from what its tables and its office do.
use Rattle.std.proofs.Common.{◌≡◌, ◌⊎◌, inl, inr, ℕ, ◌≤◌, Bool, true, false, not, cond, List, [], ◌∷◌, ◌++◌, Option, Some, None, option_map, refl, sym, ap, ap₂, ◌∙◌, subst}
use Rattle.base_values.specs.declared.answer.Answer.{Answer}
use Rattle.base_values.specs.declared.answer.Answer.TheVariants.{Decided, Unavailable}
use Rattle.base_values.specs.declared.answer.Response.{Response}
use Rattle.base_values.specs.declared.draw.Draw.{Draw}
use Rattle.base_values.specs.Moments.{last_moment}
use Rattle.model_rows.specs.declared.changes.Change.{Change}
use Rattle.model_rows.specs.declared.rows.NextIds.{NextIds}
use Rattle.model_rows.specs.Change.{Changed, after_all, changes_applied}
use Rattle.model_rows.specs.CountRows.{CountRows, counts_after}
use Rattle.model_rows.specs.Lists.{Lists, State}
use Rattle.model_invariant.specs.Sound.{IsSound}
use Rattle.model_invariant.proofs.Sound.{sound_later}
use Rattle.book_tally.specs.declared.deltas.Drafted.{Drafted}
use Rattle.book_tally.proofs.Unshifted.{unchanged}
use Rattle.office_step.specs.IsStep.{HasCountDeltas}
use Rattle.model_commands.specs.declared.requests.Command.{Command}
use Rattle.model_commands.specs.declared.replies.Reply.{Reply}
use Rattle.office_deliveries.specs.declared.arrival.Arrival.{Arrival}
use Rattle.model_answers.specs.declared.kept.Kept.{Kept}
use Rattle.office_deliveries.specs.declared.arrival.Request.TheVariants.{Write, WriteRefused}
use Rattle.office_deliveries.specs.Deliveries.{Opening, Delivery, came, turned_away, is_write, request_done, held_for, firsts, answer_told, step}
use Rattle.model_answers.specs.KeptAnswers.{has_key, told_by}
use Rattle.model_answers.specs.ShopView.{ShopView, IsSame, own_row, with_kept}
use Rattle.office_deliveries.specs.Shops.{Views, StandsFor, IsAnswered, moment_of, own, executed_at, acted_by, write_served, read_served, arrival_served, arrival_delivered, shop_after, moment_at}
use Rattle.office_deliveries.proofs.Stood.{is-stood}
use Rattle.office_deliveries.proofs.Whole.{one_more}
use Rattle.office_deliveries.proofs.OneEach.{one-next}

-- ---- what is decided

pub done-command : (words : Reply → Response) (command : Command) (at : ℕ) (draw : Draw) (state after : State) (reply : Reply) (told : Response)
    → (let made : State × Reply = (after, reply) in made ≡ step command at draw state) → told ≡ words reply → (let made : State × Response = (after, told) in made ≡ request_done words (Write command) at draw state)
unfolding request_done
done-command words command at draw state after reply told stepped worded =
    ap₂ (λ (s : State) (t : Response). let made : State × Response = (s, t) in made) (ap (λ (r : State × Reply). r.0) stepped) (worded ∙ ap (λ (r : State × Reply). words r.1) stepped)

pub done-refused : (words : Reply → Response) (told : Response) (at : ℕ) (draw : Draw) (state after : State)
    → after ≡ record state { moment = at } → (let made : State × Response = (after, told) in made ≡ request_done words (WriteRefused told) at draw state)
unfolding request_done
done-refused words told at draw state after is = ap (λ (s : State). let made : State × Response = (s, told) in made) is

pub passed : (changes : Changed) (at : ℕ) (state : State) → changes.list ≡ [] → changes.next ≡ state.next → changes_applied changes at state ≡ record state { moment = at }
passed changes at state list next =
    ap₂ (λ (xs : List Change) (ids : NextIds). let made : State = record { lists = after_all xs state.lists; next = ids; moment = at } in made) list next

pub passed-sound : (changes : Changed) (at : ℕ) (state : State) → changes.list ≡ [] → changes.next ≡ state.next → state.moment ≤ at → at ≤ last_moment → IsSound state → IsSound (changes_applied changes at state)
passed-sound changes at state list next later last sound = subst IsSound (sym (passed changes at state list next)) (sound_later state at later last sound)

-- time alone shifts no count
pub passed-deltas : (lists : Lists) (at : ℕ) (drafted : Drafted) → drafted.changes.list ≡ [] → drafted.deltas.quotas.items ≡ [] → drafted.deltas.vouchers.items ≡ [] → HasCountDeltas at lists drafted
passed-deltas lists at drafted list none gone = rw list (unchanged lists at drafted.deltas none gone)

-- ---- what is executed

abbrev pub told_of : Option Kept → Option Response
told_of None = None
told_of (Some k) = Some k.response

none-told : (o : Option Kept) → (let none : Option Response = None in told_of o ≡ none) → o ≡ None
none-told None e = refl
none-told (Some k) e = absurd (let none : Option Response = None in let some : Option Response = Some k.response in let both : some ≡ none = e in cc)

-- nothing was told under the key of an arrival: nothing is held for it
pub none-held : (a : Arrival) (at : ℕ) (ks : List Kept) → (let none : Option Response = None in told_by a.token a.key at ks ≡ none) → held_for a at ks ≡ None
none-held a at ks e = none-told (held_for a at ks) (same (held_for a at ks) ∙ e)
  where
    same : (o : Option Kept) → told_of o ≡ option_map (λ k. k.response) o
    same None = refl
    same (Some k) = refl

module _ {T : Type 0} (holds : T → State → List Kept → Type 0) (words : Reply → Response) (a : Arrival) (at : ℕ) (changes : Changed) (told : Response) (rows : List Kept) (state : State)
    (made : let made : State × Response = (changes_applied changes at state, told) in made ≡ request_done words a.request at a.draw state) (are : rows ≡ own_row (record { token = a.token; key = a.key; at = at; response = told }))
    (counts : CountRows) (counted : counts ≡ counts_after state (changes_applied changes at state)) where
  -- the counts are those of the rows that the tables hold
  counted-there : (v : ShopView) → state ≡ v.state → counts ≡ counts_after v.state (changes_applied changes at v.state)
  counted-there v same = subst (λ (s : State). counts ≡ counts_after s (changes_applied changes at s)) same counted

  -- what the commit was asked for is what the arrival makes of the shop
  pub is-executed : (v : ShopView) → state ≡ v.state → (let whole : ShopView × Response = (record { state = changes_applied changes at v.state; kept = with_kept at v.kept rows }, told) in whole ≡ executed_at words a at v)
  is-executed v same =
      let there : (let x : State × Response = (changes_applied changes at v.state, told) in x ≡ request_done words a.request at a.draw v.state) =
      subst (λ (s : State). let x : State × Response = (changes_applied changes at s, told) in x ≡ request_done words a.request at a.draw s) same made in
      let state_is = ap (λ (x : State × Response). x.0) there in
      let told_is : told ≡ (request_done words a.request at a.draw v.state).1 = ap (λ (x : State × Response). x.1) there in
      let kept_is : with_kept at v.kept rows ≡ with_kept at v.kept (own a at (request_done words a.request at a.draw v.state).1) =
      ap (with_kept at v.kept) (are ∙ ap (λ (t : Response). own a at t) told_is) in
      let view : (let x : ShopView = record { state = changes_applied changes at v.state; kept = with_kept at v.kept rows } in x ≡ (executed_at words a at v).0) =
      ap₂ (λ (s : State) (ks : List Kept). let x : ShopView = record { state = s; kept = ks } in x) state_is kept_is in
      ap₂ (λ (x : ShopView) (t : Response). let whole : ShopView × Response = (x, t) in whole) view told_is

  pub executed-views : (tables tables' : T) (state' : State) (v : ShopView) → Views holds tables state v → (let none : Option Response = None in told_by a.token a.key at v.kept ≡ none)
      → ((s : State) (ks : List Kept) → holds tables s ks → counts ≡ counts_after s (changes_applied changes at s) → holds tables' (changes_applied changes at s) (with_kept at ks rows)) → state' ≡ changes_applied changes at state
      → Views holds tables' state' (executed_at words a at v).0 × (told ≡ (executed_at words a at v).1)
  executed-views tables tables' state' v views none all adopted =
      let is = is-executed v views.state_is in
      let view = ap (λ (x : ShopView × Response). x.0) is in
      let told_is = ap (λ (x : ShopView × Response). x.1) is in
      let one = one-next a at (request_done words a.request at a.draw v.state).1 v.kept views.one (none-held a at v.kept none) in (
        record {
          state_is = adopted ∙ (ap (λ (s : State). changes_applied changes at s) views.state_is ∙ ap (λ (x : ShopView). x.state) view);
          held = subst (λ (x : ShopView). holds tables' x.state x.kept) view (all v.state v.kept views.held (counted-there v views.state_is));
          one = one;
        },
        told_is,
      )

  -- what a commit may leave is what the arrival makes of the shop
  pub executed-same : (tables : T) (left v : ShopView) → Views holds tables state v
      → ((s : State) (ks : List Kept) → holds tables s ks → counts ≡ counts_after s (changes_applied changes at s) → IsSame left (record { state = changes_applied changes at s; kept = with_kept at ks rows }))
      → IsSame left (executed_at words a at v).0
  executed-same tables left v views all =
      subst (IsSame left) (ap (λ (x : ShopView × Response). x.0) (is-executed v views.state_is)) (all v.state v.kept views.held (counted-there v views.state_is))

  -- and it is sound
  executed-sound : (tables : T) (left v : ShopView) → IsSound (changes_applied changes at state) → Views holds tables state v
      → ((s : State) (ks : List Kept) → holds tables s ks → counts ≡ counts_after s (changes_applied changes at s) → IsSame left (record { state = changes_applied changes at s; kept = with_kept at ks rows }))
      → IsSame left (executed_at words a at v).0 × IsSound left.state
  executed-sound tables left v sound views all =
      let same = all v.state v.kept views.held (counted-there v views.state_is) in
      (executed-same tables left v views all, subst IsSound (sym same.state) (subst (λ (s : State). IsSound (changes_applied changes at s)) views.state_is sound))

  -- what a crash may leave of it could be left before, or it is that
  pub executed-leaves : (tables : T) (left : ShopView) (Before : Type 0) → IsSound (changes_applied changes at state)
      → Before ⊎ ((s : State) (ks : List Kept) → holds tables s ks → counts ≡ counts_after s (changes_applied changes at s) → IsSame left (record { state = changes_applied changes at s; kept = with_kept at ks rows }))
      → Before ⊎ ((v : ShopView) → Views holds tables state v → IsSame left (executed_at words a at v).0 × IsSound left.state)
  executed-leaves tables left Before sound (inl old) = inl old
  executed-leaves tables left Before sound (inr new) = inr (λ v views. executed-sound tables left v sound views new)

pub no-key : (key : List ℕ) → not (has_key key) ≡ true → key ≡ []
no-key [] e = refl
no-key (byte ∷ bytes) e = absurd (let both : false ≡ true = e in cc)

-- nothing is told under no key
pub nothing-told : (token : ℕ) (key : List ℕ) (at : ℕ) (ks : List Kept) → key ≡ [] → (let none : Option Response = None in none ≡ told_by token key at ks)
nothing-told token key at ks empty = subst (λ (k : List ℕ). let none : Option Response = None in none ≡ told_by token k at ks) (sym empty) (never ks)
  where
    never : (ks : List Kept) → (let none : Option Response = None in none ≡ told_by token [] at ks)
    never [] = refl
    never (k ∷ ks) = never ks

-- ---- what is answered, and what the shop stands for

-- a write for which nothing is held is executed
served-new : (words : Reply → Response) (a : Arrival) (at : ℕ) (v : ShopView) → at ≡ moment_of v a → is_write a.request ≡ true → held_for a at v.kept ≡ None → arrival_served words a v ≡ executed_at words a at v
served-new words a at v now write none =
    let found : held_for a (moment_of v a) v.kept ≡ None = subst (λ (n : ℕ). held_for a n v.kept ≡ None) now none in
    ap (λ (b : Bool). cond b (write_served words a v) (v, read_served words a v)) write
    ∙ (ap (λ (h : Option Kept). acted_by words h a v) found ∙ ap (λ (n : ℕ). executed_at words a n v) (sym now))

pub settled-same : {T : Type 0} (may_leave : T → ShopView → Type 0) (words : Reply → Response) (a : Arrival) (at : ℕ) (tables' : T) (v : ShopView) → at ≡ moment_of v a → is_write a.request ≡ true → held_for a at v.kept ≡ None
    → ((left : ShopView) → may_leave tables' left → IsSame left (executed_at words a at v).0) → (left : ShopView) → may_leave tables' left → IsSame left (arrival_served words a v).0
settled-same may_leave words a at tables' v now write none all left may =
    subst (IsSame left) (ap (λ (x : ShopView × Response). x.0) (sym (served-new words a at v now write none))) (all left may)

-- what a crash may leave of a write for which nothing is held
pub crash-same : {T : Type 0} (holds : T → State → List Kept → Type 0) (may_leave : T → ShopView → Type 0) (words : Reply → Response) (a : Arrival) (at : ℕ) (tables mid tables' : T) (state state_mid : State)
    → is_write a.request ≡ true → at ≡ moment_at a.clock state
    → ((v : ShopView) → Views holds tables state v → (let none : Option Response = None in none ≡ told_by a.token a.key at v.kept))
    → ((v : ShopView) → Views holds tables state v → Views holds mid state_mid v)
    → ((left : ShopView) → may_leave mid left → may_leave tables left)
    → (left : ShopView) → may_leave mid left ⊎ ((v : ShopView) → Views holds mid state_mid v → IsSame left (executed_at words a at v).0 × IsSound left.state)
    → may_leave tables left ⊎ ((v : ShopView) → Views holds tables state v → IsSame left (arrival_served words a v).0 × IsSound left.state)
crash-same holds may_leave words a at tables mid tables' state state_mid write now found same still left (inl old) = inl (still left old)
crash-same holds may_leave words a at tables mid tables' state state_mid write now found same still left (inr new) =
    inr (λ v views.
    let there : at ≡ moment_of v a = now ∙ ap (λ (s : State). moment_at a.clock s) views.state_is in
    let is = served-new words a at v there write (none-held a at v.kept (sym (found v views))) in
    let was = new v (same v views) in
    (subst (IsSame left) (ap (λ (x : ShopView × Response). x.0) (sym is)) was.0, was.1))

pub stands-from : {T : Type 0} (holds : T → State → List Kept → Type 0) (words : Reply → Response) (tables tables' : T) (state state' : State) (a : Arrival) (answer : Answer)
    → ((v : ShopView) → Views holds tables state v → IsAnswered words a v answer (λ w. Views holds tables' state' w))
    → (p : Opening) (ds : List Delivery) → StandsFor words holds tables state p ds
    → StandsFor words holds tables' state' p (ds ++ arrival_delivered a answer ∷ []) × (answer_told words p ds (arrival_delivered a answer) ≡ answer)
stands-from holds words tables tables' state state' a (Decided t) answered p ds stands =
    let v = shop_after words p (firsts p ds) in
    let x = answered v stands in
    let y = one_more words p ds v a (Decided t) (arrival_served words a v).0 (record { office = refl; kept = refl }) (refl, x.1) in
    (subst (Views holds tables' state') (is-stood words p (ds ++ came a ∷ []) (arrival_served words a v).0 y.0) x.0, y.1)
stands-from holds words tables tables' state state' a Unavailable answered p ds stands =
    let v = shop_after words p (firsts p ds) in
    let x = answered v stands in
    let y = one_more words p ds v a Unavailable v (record { office = refl; kept = refl }) refl in
    (subst (Views holds tables' state') (is-stood words p (ds ++ turned_away a ∷ []) v y.0) x, y.1)

-- the same where nothing changes
pub stands-same : {T : Type 0} (holds : T → State → List Kept → Type 0) (words : Reply → Response) (tables : T) (state : State) (a : Arrival) (answer : Answer)
    → ((v : ShopView) → Views holds tables state v → IsAnswered words a v answer (λ w. w ≡ v))
    → (p : Opening) (ds : List Delivery) → StandsFor words holds tables state p ds
    → StandsFor words holds tables state p (ds ++ arrival_delivered a answer ∷ []) × (answer_told words p ds (arrival_delivered a answer) ≡ answer)
stands-same holds words tables state a answer answered =
    stands-from holds words tables tables state state a answer (λ v views. still answer v views (answered v views))
  where
    still : (answer : Answer) (v : ShopView) → Views holds tables state v → IsAnswered words a v answer (λ w. w ≡ v) → IsAnswered words a v answer (λ w. Views holds tables state w)
    still (Decided t) v views (same, is) = (subst (Views holds tables state) (sym same) views, is)
    still Unavailable v views same = views
