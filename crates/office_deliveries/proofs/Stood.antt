-- One more arrival: the shop stands for it too.
use Rattle.std.proofs.Common.{◌≡◌, ℕ, ◌≤◌, min, max, Bool, true, false, cond, ◌&&◌, not, List, [], ◌∷◌, ◌++◌, filter, Option, Some, None, is_some, refl, sym, ap, ap₂, ◌∙◌, subst, arith, append_assoc}
use Rattle.std.proofs.lemmas.List.Elements.{filter-append}
use Rattle.base_values.specs.declared.answer.Answer.{Answer}
use Rattle.base_values.specs.declared.answer.Answer.TheVariants.{Decided}
use Rattle.base_values.specs.declared.answer.Response.{Response}
use Rattle.base_values.specs.Moments.{last_moment}
use Rattle.model_rows.specs.Lists.{State}
use Rattle.model_commands.specs.declared.replies.Reply.{Reply}
use Rattle.office_deliveries.specs.declared.arrival.Arrival.{Arrival}
use Rattle.model_answers.specs.declared.kept.Kept.{Kept}
use Rattle.office_deliveries.specs.Deliveries.{came, turned_away, is_write, request_done, Delivery, Opening, First, latest, now, is_repeat, with_next, firsts, held_for, told_once, answers, office, ever_kept, answers_kept, told_in, answer_told}
use Rattle.model_answers.specs.KeptAnswers.{has_key, lasts}
use Rattle.model_answers.specs.ShopView.{ShopView, with_kept}
use Rattle.office_deliveries.specs.Shops.{moment_of, own, execute, acted_by, write_served, read_served, arrival_served, shop_after, Stands}
use Rattle.model_answers.proofs.Lists.{filter-filter}
use Rattle.office_deliveries.proofs.Runs.{AreTimed, timed, firsts-more, latest-more, office-more, answers-more, moment-is, timed-more}
use Rattle.office_deliveries.proofs.Repeats.{lasts-earlier, held-kept, repeat-is}

abbrev pub first_of : Opening → List First → Arrival → First
first_of p fs a = record { arrival = a; at = now p fs a }

-- ---- what is executed next

next-marked : (p : Opening) (fs : List First) (a : Arrival) → with_next p fs (turned_away a) ≡ fs
next-marked p fs a = elim (is_write a.request) as (λ b. cond ((b && false) && not (is_repeat p fs a)) (fs ++ first_of p fs a ∷ []) fs ≡ fs) [ true ↦ refl | false ↦ refl ]

next-read : (p : Opening) (fs : List First) (a : Arrival) → is_write a.request ≡ false → with_next p fs (came a) ≡ fs
next-read p fs a read = ap (λ (b : Bool). cond ((b && true) && not (is_repeat p fs a)) (fs ++ first_of p fs a ∷ []) fs) read

next-repeat : (p : Opening) (fs : List First) (a : Arrival) → is_write a.request ≡ true → is_repeat p fs a ≡ true → with_next p fs (came a) ≡ fs
next-repeat p fs a write repeat = ap₂ (λ (b c : Bool). cond ((b && true) && not c) (fs ++ first_of p fs a ∷ []) fs) write repeat

next-new : (p : Opening) (fs : List First) (a : Arrival) → is_write a.request ≡ true → is_repeat p fs a ≡ false → with_next p fs (came a) ≡ fs ++ first_of p fs a ∷ []
next-new p fs a write new = ap₂ (λ (b c : Bool). cond ((b && true) && not c) (fs ++ first_of p fs a ∷ []) fs) write new

module _ (words : Reply → Response) (p : Opening) (fs : List First) (timed : AreTimed p.state.moment fs) where
  pub office-moment : (office words p fs).moment ≡ latest p.state.moment fs
  office-moment = moment-is words p.state fs timed

  pub moment-same : (a : Arrival) → moment_of (shop_after words p fs) a ≡ now p fs a
  moment-same a = ap (λ (n : ℕ). max n (min a.clock last_moment)) office-moment

  pub not-before : (a : Arrival) → (office words p fs).moment ≤ now p fs a
  not-before a = subst (λ (n : ℕ). n ≤ max (latest p.state.moment fs) (min a.clock last_moment)) (sym office-moment) (omega arith)

  -- what is found among the kept answers is what is found among all
  pub found-same : (a : Arrival) → held_for a (moment_of (shop_after words p fs) a) (answers_kept words p fs) ≡ held_for a (now p fs a) (ever_kept words p fs)
  found-same a = ap (λ (n : ℕ). held_for a n (answers_kept words p fs)) (moment-same a) ∙ held-kept a (office words p fs).moment (now p fs a) (ever_kept words p fs) (not-before a)

  -- the office after one more executed write
  pub office-next : (a : Arrival) → (request_done words a.request (moment_of (shop_after words p fs) a) a.draw (office words p fs)).0 ≡ office words p (fs ++ first_of p fs a ∷ [])
  office-next a =
      ap (λ (n : ℕ). (request_done words a.request n a.draw (office words p fs)).0) (moment-same a) ∙ sym (office-more words p.state fs (first_of p fs a))

  told-same : (a : Arrival) → (request_done words a.request (moment_of (shop_after words p fs) a) a.draw (office words p fs)).1 ≡ (request_done words a.request (now p fs a) a.draw (office words p fs)).1
  told-same a = ap (λ (n : ℕ). (request_done words a.request n a.draw (office words p fs)).1) (moment-same a)

  moment-next : (a : Arrival) → is_write a.request ≡ true → (office words p (fs ++ first_of p fs a ∷ [])).moment ≡ now p fs a
  moment-next a write =
      moment-is words p.state (fs ++ first_of p fs a ∷ []) (timed-more p.state.moment fs a timed write) ∙ latest-more p.state.moment fs (first_of p fs a)

  -- what is kept after it
  pub kept-next : (a : Arrival) → is_write a.request ≡ true
      → with_kept (moment_of (shop_after words p fs) a) (answers_kept words p fs) (own a (moment_of (shop_after words p fs) a) (request_done words a.request (moment_of (shop_after words p fs) a) a.draw (office words p fs)).1)
      ≡ answers_kept words p (fs ++ first_of p fs a ∷ [])
  kept-next a write =
      let n = now p fs a in
      let at : List Kept → ℕ → List Kept = λ ks m. filter (λ k. lasts m k.at) ks in
      let old = ever_kept words p fs in
      let told = (request_done words a.request n a.draw (office words p fs)).1 in
      let row : Kept = record { token = a.token; key = a.key; at = n; response = told } in
      let mine : List Kept = filter (λ k. has_key k.key) (row ∷ []) in
      let here = ap (λ (m : ℕ). with_kept m (answers_kept words p fs) (own a m (request_done words a.request m a.draw (office words p fs)).1)) (moment-same a) in
      let split = filter-append (λ (k : Kept). lasts n k.at) (answers_kept words p fs) mine in
      let again = ap (λ (ks : List Kept). ks ++ at mine n) (filter-filter (λ (k : Kept). lasts n k.at) (λ (k : Kept). lasts (office words p fs).moment k.at) (λ k e. lasts-earlier (office words p fs).moment n k.at (not-before a) e) old) in
      let join = filter-append (λ (k : Kept). lasts n k.at) old mine in
      let more : ever_kept words p (fs ++ first_of p fs a ∷ []) ≡ old ++ mine =
      ap (λ (ks : List Kept). p.kept ++ filter (λ k. has_key k.key) ks) (answers-more words p.state fs (first_of p fs a))
      ∙ (ap (λ (ks : List Kept). p.kept ++ ks) (filter-append (λ (k : Kept). has_key k.key) (answers words p.state fs) (row ∷ []))
      ∙ sym (append_assoc p.kept (filter (λ k. has_key k.key) (answers words p.state fs)) mine)) in
      let whole = ap (λ (ks : List Kept). at ks n) (sym more) in
      let moment = ap (λ (m : ℕ). at (ever_kept words p (fs ++ first_of p fs a ∷ [])) m) (sym (moment-next a write)) in
      here ∙ (split ∙ (again ∙ (sym join ∙ (whole ∙ moment))))

  -- what the shop does with an arrival that isn't answered 503
  pub record Gives (a : Arrival) : Type 0 where
    pub shop : (arrival_served words a (shop_after words p fs)).0 ≡ shop_after words p (with_next p fs (came a))
    pub told : (arrival_served words a (shop_after words p fs)).1 ≡ told_in words p fs a

  serves-read : (a : Arrival) → is_write a.request ≡ false → Gives a
  serves-read a read =
      let shop = shop_after words p fs in
      let is : arrival_served words a shop ≡ (shop, read_served words a shop) = ap (λ (b : Bool). cond b (write_served words a shop) (shop, read_served words a shop)) read in
      let fresh : told_in words p fs a ≡ (request_done words a.request (now p fs a) a.draw (office words p fs)).1 =
      ap (λ (b : Bool). told_once (request_done words a.request (now p fs a) a.draw (office words p fs)).1 (cond b (held_for a (now p fs a) (ever_kept words p fs)) None)) read in
      record {
        shop = ap (λ (r : ShopView × Response). r.0) is ∙ ap (shop_after words p) (sym (next-read p fs a read));
        told = ap (λ (r : ShopView × Response). r.1) is ∙ (told-same a ∙ sym fresh);
      }

  serves-write : (a : Arrival) → is_write a.request ≡ true → (h : Option Kept) → held_for a (now p fs a) (ever_kept words p fs) ≡ h → Gives a
  serves-write a write (Some k) held =
      let shop = shop_after words p fs in
      let is : arrival_served words a shop ≡ (shop, k.response) =
      ap (λ (b : Bool). cond b (write_served words a shop) (shop, read_served words a shop)) write
      ∙ ap (λ (h : Option Kept). acted_by words h a shop) (found-same a ∙ held) in
      let again : is_repeat p fs a ≡ true = repeat-is words p fs a ∙ ap is_some held in
      let kept : told_in words p fs a ≡ k.response =
      ap (λ (b : Bool). told_once (request_done words a.request (now p fs a) a.draw (office words p fs)).1 (cond b (held_for a (now p fs a) (ever_kept words p fs)) None)) write
      ∙ ap (told_once (request_done words a.request (now p fs a) a.draw (office words p fs)).1) held in
      record {
        shop = ap (λ (r : ShopView × Response). r.0) is ∙ ap (shop_after words p) (sym (next-repeat p fs a write again));
        told = ap (λ (r : ShopView × Response). r.1) is ∙ sym kept;
      }
  serves-write a write None held =
      let shop = shop_after words p fs in
      let is : arrival_served words a shop ≡ execute words a shop =
      ap (λ (b : Bool). cond b (write_served words a shop) (shop, read_served words a shop)) write
      ∙ ap (λ (h : Option Kept). acted_by words h a shop) (found-same a ∙ held) in
      let new : is_repeat p fs a ≡ false = repeat-is words p fs a ∙ ap is_some held in
      let fresh : told_in words p fs a ≡ (request_done words a.request (now p fs a) a.draw (office words p fs)).1 =
      ap (λ (b : Bool). told_once (request_done words a.request (now p fs a) a.draw (office words p fs)).1 (cond b (held_for a (now p fs a) (ever_kept words p fs)) None)) write
      ∙ ap (told_once (request_done words a.request (now p fs a) a.draw (office words p fs)).1) held in
      let next : (execute words a shop).0 ≡ shop_after words p (fs ++ first_of p fs a ∷ []) =
      ap₂ (λ (s : State) (ks : List Kept). let both : ShopView = record { state = s; kept = ks } in both) (office-next a) (kept-next a write) in
      record {
        shop = ap (λ (r : ShopView × Response). r.0) is ∙ (next ∙ ap (shop_after words p) (sym (next-new p fs a write new)));
        told = ap (λ (r : ShopView × Response). r.1) is ∙ (told-same a ∙ sym fresh);
      }

  serves-by : (a : Arrival) → (b : Bool) → is_write a.request ≡ b → Gives a
  serves-by a true write = serves-write a write (held_for a (now p fs a) (ever_kept words p fs)) refl
  serves-by a false read = serves-read a read

  pub serves-all : (a : Arrival) → Gives a
  serves-all a = serves-by a (is_write a.request) refl

-- ---- lists

module _ (words : Reply → Response) (p : Opening) (ds : List Delivery) (shop : ShopView) (stands : Stands words p ds shop) where
  pub is-stood : shop ≡ shop_after words p (firsts p ds)
  is-stood = ap₂ (λ (s : State) (ks : List Kept). let both : ShopView = record { state = s; kept = ks } in both) stands.office stands.kept

  from-stood : (es : List Delivery) (x : ShopView) → x ≡ shop_after words p (firsts p es) → Stands words p es x
  from-stood es x is = record { office = ap (λ (s : ShopView). s.state) is; kept = ap (λ (s : ShopView). s.kept) is }

  pub stands-served : (a : Arrival) → Stands words p (ds ++ came a ∷ []) (arrival_served words a shop).0
  stands-served a =
      let serves = serves-all words p (firsts p ds) (timed p ds) a in
      from-stood (ds ++ came a ∷ []) (arrival_served words a shop).0
      (ap (λ (s : ShopView). (arrival_served words a s).0) is-stood ∙ (serves.shop ∙ ap (shop_after words p) (sym (firsts-more p [] ds (came a)))))

  pub told-served : (a : Arrival) → answer_told words p ds (came a) ≡ Decided (arrival_served words a shop).1
  told-served a =
      let serves = serves-all words p (firsts p ds) (timed p ds) a in
      ap (λ (t : Response). let answer : Answer = Decided t in answer) (sym (ap (λ (s : ShopView). (arrival_served words a s).1) is-stood ∙ serves.told))

  pub stands-unavailable : (a : Arrival) → Stands words p (ds ++ turned_away a ∷ []) shop
  stands-unavailable a =
      from-stood (ds ++ turned_away a ∷ []) shop (is-stood ∙ ap (shop_after words p) (sym (firsts-more p [] ds (turned_away a) ∙ next-marked p (firsts p ds) a)))
