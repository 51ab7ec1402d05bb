-- A repeat before a day has passed, and after it.
use Rattle.std.proofs.Common.{◌≡◌, ℕ, ◌≤◌, ◌<◌, ◌+◌, Bool, true, false, cond, ◌||◌, ◌&&◌, not, List, [], ◌∷◌, ◌++◌, filter, find, Option, Some, None, is_some, refl, sym, ap, ap₂, ◌∙◌, subst, arith, append_assoc, append-nil, bytes_eq, ◌==◌}
use Rattle.std.proofs.lemmas.Bool.{and_parts, or_parts, or_from, not-true, ltb-true, lt-ltb, eqb-true, eq-eqb, false_from_ne_true}
use Rattle.std.proofs.lemmas.List.Elements.{filter-append}
use Rattle.std.proofs.lemmas.Slice.Eq.{bytes_eq-Decides}
use Rattle.std.specs.List.{list_any, AllByRecursion}
use Rattle.base_values.specs.declared.answer.Answer.{Answer}
use Rattle.base_values.specs.declared.answer.Answer.TheVariants.{Decided}
use Rattle.base_values.specs.declared.answer.Response.{Response}
use Rattle.model_rows.specs.Lists.{State}
use Rattle.model_commands.specs.declared.replies.Reply.{Reply}
use Rattle.office_deliveries.specs.declared.arrival.Arrival.{Arrival}
use Rattle.model_answers.specs.declared.kept.Kept.{Kept}
use Rattle.office_deliveries.specs.Deliveries.{came, is_write, request_done, repeats, Delivery, Opening, First, latest, now, is_repeat, is_first, with_next, firsts_after, firsts, held_for, told_once, write_executed, office_after, answers, office, ever_kept, told_in}
use Rattle.model_answers.specs.KeptAnswers.{has_key}
use Rattle.office_deliveries.specs.Headline.{HasTheKeyOf, IsAnother, ToldAgain, ExecutedAnew}
use Rattle.model_answers.proofs.Lists.{find-behind, none-stricter, any-append, some-find}
use Rattle.office_deliveries.proofs.Runs.{AreTimed, timed, latest-more, answers-more}
use Rattle.office_deliveries.proofs.Repeats.{repeats-parts, repeats-from, repeat-is, same_bytes}
use Rattle.office_deliveries.proofs.Stood.{first_of}

pub none-from : (o : Option Kept) → is_some o ≡ false → o ≡ None
none-from None e = refl
none-from (Some k) e = absurd (let both : true ≡ false = e in cc)

-- ---- lists one after another

pub firsts-append : (p : Opening) (fs : List First) (ds es : List Delivery) → firsts_after p fs (ds ++ es) ≡ firsts_after p (firsts_after p fs ds) es
firsts-append p fs [] es = refl
firsts-append p fs (d ∷ ds) es = firsts-append p (with_next p fs d) ds es

pub answers-append : (words : Reply → Response) (state : State) (fs gs : List First) → answers words state (fs ++ gs) ≡ answers words state fs ++ answers words (office_after words state fs) gs
answers-append words state [] gs = refl
answers-append words state (f ∷ fs) gs =
    ap (λ (ks : List Kept). record { token = f.arrival.token; key = f.arrival.key; at = f.at; response = (write_executed words f state).1 } ∷ ks) (answers-append words (write_executed words f state).0 fs gs)

pub latest-append : (m : ℕ) (fs gs : List First) → latest m (fs ++ gs) ≡ latest (latest m fs) gs
latest-append m [] gs = refl
latest-append m (f ∷ fs) gs = latest-append f.at fs gs

pub timed-rest : (m : ℕ) (fs gs : List First) → AreTimed m (fs ++ gs) → AreTimed (latest m fs) gs
timed-rest m [] gs timed = timed
timed-rest m (f ∷ fs) gs timed = timed-rest f.at fs gs timed.2

pub latest-above : (m : ℕ) (fs : List First) → AreTimed m fs → m ≤ latest m fs
latest-above m [] timed = omega arith
latest-above m (f ∷ fs) (write, at, timed) = let rest : f.at ≤ latest f.at fs = latest-above f.at fs timed in omega (arith, at)

-- the first arrivals behind some others are writes of the arrivals that came behind
abbrev pub More : (First → Type 0) → Opening → List First → List Delivery → Type 0
More P p fs es = (more : List First) × (firsts_after p fs es ≡ fs ++ more) × AllByRecursion P more

pub more : (P : First → Type 0) (Q : Delivery → Type 0) → ((p : Opening) (fs : List First) (d : Delivery) → Q d → is_first p fs d ≡ true → P (first_of p fs d.arrival))
    → (p : Opening) (fs : List First) (es : List Delivery) → AllByRecursion Q es → More P p fs es
more P Q each p fs [] all = ([], sym (append-nil fs), tt)
more P Q each p fs (d ∷ es) (here, all) = elim (is_first p fs d) as (λ b. is_first p fs d ≡ b → More P p fs (d ∷ es)) [
  | true ↦ λ e.
      let f = first_of p fs d.arrival in
      let next : with_next p fs d ≡ fs ++ f ∷ [] = ap (λ (b : Bool). cond b (fs ++ f ∷ []) fs) e in
      let rest = more P Q each p (with_next p fs d) es all in
      (f ∷ rest.0, rest.1 ∙ (ap (λ (gs : List First). gs ++ rest.0) next ∙ append_assoc fs (f ∷ []) rest.0), (each p fs d here e, rest.2))
  | false ↦ λ e.
      let next : with_next p fs d ≡ fs = ap (λ (b : Bool). cond b (fs ++ first_of p fs d.arrival ∷ []) fs) e in
      let rest = more P Q each p (with_next p fs d) es all in
      (rest.0, rest.1 ∙ ap (λ (gs : List First). gs ++ rest.0) next, rest.2)
] refl

anything : (es : List Delivery) → AllByRecursion (λ (d : Delivery). Unit {0}) es
anything [] = tt
anything (d ∷ es) = (tt, anything es)

-- ---- keys

-- what repeats the later one repeats the earlier one
stricter : (a b : Arrival) (early late token : ℕ) (key : List ℕ) (since : ℕ) → HasTheKeyOf a b → early ≤ late → repeats b late token key since ≡ true → repeats a early token key since ≡ true
stricter a b early late token key since same before e =
    let r = repeats-parts b late token key since e in
    let below : late < since + 86400 = ltb-true late (since + 86400) r.lasting in
    repeats-from a early token key since (record {
      keyed = same.keyed;
      token_is = subst (λ (n : ℕ). (token == n) ≡ true) same.token r.token_is;
      key_is = subst (λ (k : List ℕ). bytes_eq key k ≡ true) same.key r.key_is;
      lasting = lt-ltb early (since + 86400) (omega arith);
    })

-- ---- a repeat before a day has passed

-- the first arrivals of a list: those in front, the one in question, and those behind it
record Parts (P : First → Type 0) (p : Opening) (fs : List First) (a : Arrival) (all : List First) : Type 0 where
  behind : List First
  are : all ≡ (fs ++ first_of p fs a ∷ []) ++ behind
  each : AllByRecursion P behind
  write : is_write a.request ≡ true
  none : is_repeat p fs a ≡ false

parts : (P : First → Type 0) (Q : Delivery → Type 0) → ((p : Opening) (fs : List First) (d : Delivery) → Q d → is_first p fs d ≡ true → P (first_of p fs d.arrival))
    → (p : Opening) (ds : List Delivery) (a : Arrival) (es : List Delivery) → is_first p (firsts p ds) (came a) ≡ true → AllByRecursion Q es
    → Parts P p (firsts p ds) a (firsts p (ds ++ came a ∷ es))
parts P Q each p ds a es first all =
    let fs = firsts p ds in
    let x = and_parts (is_write a.request && true) (not (is_repeat p fs a)) first in
    let next : with_next p fs (came a) ≡ fs ++ first_of p fs a ∷ [] = ap (λ (b : Bool). cond b (fs ++ first_of p fs a ∷ []) fs) first in
    let rest = more P Q each p (with_next p fs (came a)) es all in
    record {
      behind = rest.0;
      are = firsts-append p [] ds (came a ∷ es) ∙ (rest.1 ∙ ap (λ (gs : List First). gs ++ rest.0) next);
      each = rest.2;
      write = (and_parts (is_write a.request) true x.0).0;
      none = not-true (is_repeat p fs a) x.1;
    }

-- the moment doesn't fall
later : (p : Opening) (fs : List First) (a b : Arrival) (behind all : List First) → AreTimed p.state.moment all → all ≡ (fs ++ first_of p fs a ∷ []) ++ behind → now p fs a ≤ now p all b
later p fs a b behind all timed are =
    let f = first_of p fs a in
    let timed_all = subst (λ (gs : List First). AreTimed p.state.moment gs) are timed in
    let is : latest p.state.moment all ≡ latest (now p fs a) behind =
    ap (latest p.state.moment) are ∙ (latest-append p.state.moment (fs ++ f ∷ []) behind ∙ ap (λ (n : ℕ). latest n behind) (latest-more p.state.moment fs f)) in
    let rest = timed-rest p.state.moment (fs ++ f ∷ []) behind timed_all in
    let above : now p fs a ≤ latest (now p fs a) behind =
    latest-above (now p fs a) behind (subst (λ (n : ℕ). AreTimed n behind) (latest-more p.state.moment fs f) rest) in
    let here : now p fs a ≤ latest p.state.moment all = subst (λ (n : ℕ). now p fs a ≤ n) (sym is) above in
    omega (arith, here)

-- what was ever kept: what was before a write with a key, its own answer, and what came later
ever-parts : (words : Reply → Response) (p : Opening) (fs : List First) (f : First) (behind : List First) → has_key f.arrival.key ≡ true
    → ever_kept words p ((fs ++ f ∷ []) ++ behind)
    ≡ ever_kept words p fs ++ record { token = f.arrival.token; key = f.arrival.key; at = f.at; response = (write_executed words f (office words p fs)).1 } ∷ filter (λ k. has_key k.key) (answers words (office_after words p.state (fs ++ f ∷ [])) behind)
ever-parts words p fs f behind has =
    let keyed : Kept → Bool = λ k. has_key k.key in
    let row : Kept = record { token = f.arrival.token; key = f.arrival.key; at = f.at; response = (write_executed words f (office words p fs)).1 } in
    let old = answers words p.state fs in
    let new = answers words (office_after words p.state (fs ++ f ∷ [])) behind in
    let all : answers words p.state ((fs ++ f ∷ []) ++ behind) ≡ (old ++ row ∷ []) ++ new =
    answers-append words p.state (fs ++ f ∷ []) behind ∙ ap (λ (ks : List Kept). ks ++ new) (answers-more words p.state fs f) in
    let own : filter keyed (row ∷ []) ≡ row ∷ [] = ap (λ (b : Bool). cond b (row ∷ []) []) has in
    let filtered : filter keyed ((old ++ row ∷ []) ++ new) ≡ (filter keyed old ++ row ∷ []) ++ filter keyed new =
    filter-append keyed (old ++ row ∷ []) new
    ∙ ap (λ (ks : List Kept). ks ++ filter keyed new) (filter-append keyed old (row ∷ []) ∙ ap (λ (ks : List Kept). filter keyed old ++ ks) own) in
    ap (λ (ks : List Kept). p.kept ++ filter keyed ks) all
    ∙ (ap (λ (ks : List Kept). p.kept ++ ks) (filtered ∙ append_assoc (filter keyed old) (row ∷ []) (filter keyed new))
    ∙ sym (append_assoc p.kept (filter keyed old) (row ∷ filter keyed new)))

-- nothing is held for an arrival that is no repeat
none-held : (words : Reply → Response) (p : Opening) (fs : List First) (a : Arrival) → is_repeat p fs a ≡ false → list_any (λ k. repeats a (now p fs a) k.token k.key k.at) (ever_kept words p fs) ≡ false
none-held words p fs a none = sym (some-find (λ (k : Kept). repeats a (now p fs a) k.token k.key k.at) (ever_kept words p fs)) ∙ (sym (repeat-is words p fs a) ∙ none)

-- ---- a repeat before a day has passed

pub told_again : (words : Reply → Response) (p : Opening) (ds : List Delivery) (a : Arrival) (es : List Delivery) (b : Arrival)
    → ToldAgain words (record { opening = p; before = ds; earlier = a; between = es; later = b })
told_again words p ds a es b first same soon =
    let fs = firsts p ds in
    let all = firsts p (ds ++ came a ∷ es) in
    let x = parts (λ (f : First). Unit {0}) (λ (d : Delivery). Unit {0}) (λ q gs d u e. tt) p ds a es first (anything es) in
    let n = now p fs a in
    let m = now p all b in
    let before : n ≤ m = later p fs a b x.behind all (timed p (ds ++ came a ∷ es)) x.are in
    let fresh = (request_done words a.request n a.draw (office words p fs)).1 in
    let row : Kept = record { token = a.token; key = a.key; at = n; response = fresh } in
    let passes : Kept → Bool = λ k. repeats b m k.token k.key k.at in
    let rest : List Kept = filter (λ k. has_key k.key) (answers words (office_after words p.state (fs ++ first_of p fs a ∷ [])) x.behind) in
    let rows : ever_kept words p all ≡ ever_kept words p fs ++ row ∷ rest =
    ap (λ (gs : List First). ever_kept words p gs) x.are ∙ ever-parts words p fs (first_of p fs a) x.behind same.keyed in
    let none_old : list_any passes (ever_kept words p fs) ≡ false =
    none-stricter passes (λ (k : Kept). repeats a n k.token k.key k.at) (λ k e. stricter a b n m k.token k.key k.at same before e) (ever_kept words p fs) (none-held words p fs a x.none) in
    let hit : passes row ≡ true = repeats-from b m a.token a.key n (record {
      keyed = subst (λ (k : List ℕ). has_key k ≡ true) (sym same.key) same.keyed;
      token_is = eq-eqb a.token b.token (sym same.token);
      key_is = (bytes_eq-Decides a.key b.key).1 (sym same.key);
      lasting = lt-ltb m (n + 86400) soon;
    }) in
    let found : held_for b m (ever_kept words p all) ≡ Some row =
    ap (held_for b m) rows ∙ (find-behind passes (ever_kept words p fs) (row ∷ rest) none_old ∙ ap (λ (b : Bool). cond b (Some row) (find passes rest)) hit) in
    let other = (request_done words b.request m b.draw (office words p all)).1 in
    let second : told_in words p all b ≡ fresh =
    ap (λ (c : Bool). told_once other (cond c (held_for b m (ever_kept words p all)) None)) same.write ∙ ap (told_once other) found in
    let none_found : held_for a n (ever_kept words p fs) ≡ None = none-from (held_for a n (ever_kept words p fs)) (sym (repeat-is words p fs a) ∙ x.none) in
    let once : told_in words p fs a ≡ fresh =
    ap (λ (c : Bool). told_once fresh (cond c (held_for a n (ever_kept words p fs)) None)) x.write ∙ ap (told_once fresh) none_found in
    ap (λ (t : Response). let answer : Answer = Decided t in answer) (second ∙ sym once)

-- ---- a repeat after a day has passed

-- a write whose key isn't that of the arrival
record Differs (a : Arrival) (f : First) : Type 0 where
  write : is_write f.arrival.request ≡ true
  other : HasTheKeyOf a f.arrival → ⊥

none-differ : (a b : Arrival) (now : ℕ) (fs : List First) → HasTheKeyOf a b → AllByRecursion (Differs a) fs → list_any (λ f. repeats b now f.arrival.token f.arrival.key f.at) fs ≡ false
none-differ a b n [] same all = refl
none-differ a b n (f ∷ fs) same (differs, all) =
    or_from (repeats b n f.arrival.token f.arrival.key f.at) (list_any (λ f. repeats b n f.arrival.token f.arrival.key f.at) fs)
    (false_from_ne_true (repeats b n f.arrival.token f.arrival.key f.at) (λ e.
    let r = repeats-parts b n f.arrival.token f.arrival.key f.at e in
    differs.other (record {
      keyed = same.keyed;
      token = eqb-true f.arrival.token b.token r.token_is ∙ same.token;
      key = same_bytes f.arrival.key b.key r.key_is ∙ same.key;
      write = differs.write;
    })))
    (none-differ a b n fs same all)

pub executed_anew : (p : Opening) (ds : List Delivery) (a : Arrival) (es : List Delivery) (b : Arrival)
    → ExecutedAnew (record { opening = p; before = ds; earlier = a; between = es; later = b })
executed_anew p ds a es b first others same late =
    let fs = firsts p ds in
    let all = firsts p (ds ++ came a ∷ es) in
    let f = first_of p fs a in
    let x = parts (Differs a) (IsAnother a) (λ q gs d u e. let both = and_parts (is_write d.arrival.request && not d.unavailable) (not (is_repeat q gs d.arrival)) e in record { write = (and_parts (is_write d.arrival.request) (not d.unavailable) both.0).0; other = u }) p ds a es first others in
    let n = now p fs a in
    let m = now p all b in
    let before : n ≤ m = later p fs a b x.behind all (timed p (ds ++ came a ∷ es)) x.are in
    let old = or_parts (list_any (λ k. repeats a n k.token k.key k.at) p.kept) (list_any (λ f. repeats a n f.arrival.token f.arrival.key f.at) fs) x.none in
    let test : First → Bool = λ g. repeats b m g.arrival.token g.arrival.key g.at in
    let opening : list_any (λ k. repeats b m k.token k.key k.at) p.kept ≡ false =
    none-stricter (λ (k : Kept). repeats b m k.token k.key k.at) (λ (k : Kept). repeats a n k.token k.key k.at) (λ k e. stricter a b n m k.token k.key k.at same before e) p.kept old.0 in
    let front : list_any test fs ≡ false =
    none-stricter test (λ (g : First). repeats a n g.arrival.token g.arrival.key g.at) (λ g e. stricter a b n m g.arrival.token g.arrival.key g.at same before e) fs old.1 in
    let itself : test f ≡ false = false_from_ne_true (test f) (λ e.
    let r = repeats-parts b m a.token a.key n e in
    let soon : m < n + 86400 = ltb-true m (n + 86400) r.lasting in
    omega (arith, late)) in
    let behind : list_any test x.behind ≡ false = none-differ a b m x.behind same x.each in
    let middle : list_any test (fs ++ f ∷ []) ≡ false = any-append test fs (f ∷ []) ∙ ap₂ (λ (s t : Bool). s || (t || false)) front itself in
    let whole : list_any test all ≡ false =
    ap (list_any test) x.are ∙ (any-append test (fs ++ f ∷ []) x.behind ∙ ap₂ (λ (s t : Bool). s || t) middle behind) in
    let none : is_repeat p all b ≡ false = ap₂ (λ (s t : Bool). s || t) opening whole in
    ap₂ (λ (s t : Bool). (s && true) && not t) same.write none
