-- Histories with crashes.
use Rattle.std.proofs.Common.{◌≡◌, inl, inr, Bool, true, false, cond, ◌&&◌, not, List, [], ◌∷◌, ◌++◌, is_some, refl, sym, ap, ◌∙◌, subst}
use Rattle.base_values.specs.declared.answer.Answer.{Answer}
use Rattle.base_values.specs.declared.answer.Answer.TheVariants.{Decided}
use Rattle.base_values.specs.declared.answer.Response.{Response}
use Rattle.model_commands.specs.declared.replies.Reply.{Reply}
use Rattle.office_deliveries.specs.declared.arrival.Arrival.{Arrival}
use Rattle.office_deliveries.specs.Deliveries.{came, turned_away, Delivery, Opening, is_write, is_repeat, is_first, firsts}
use Rattle.office_deliveries.specs.Shops.{executes, shop_after, Stands}
use Rattle.model_answers.specs.ShopView.{ShopView}
use Rattle.office_deliveries.specs.Histories.{Event, Answered, Unanswered, Crashed, Running, after_answer, after_none, running_from, Happens, ComesTo}
use Rattle.office_deliveries.proofs.Runs.{timed}
use Rattle.office_deliveries.proofs.Repeats.{repeat-is}
use Rattle.office_deliveries.proofs.Stood.{is-stood, found-same, stands-served, told-served, stands-unavailable}

-- whether an arrival is executed is the same for the shop as for the list
executes-is : (words : Reply → Response) (p : Opening) (ds : List Delivery) (shop : ShopView) (a : Arrival) → Stands words p ds shop → executes a shop ≡ is_first p (firsts p ds) (came a)
executes-is words p ds shop a stands =
    let fs = firsts p ds in
    let at_stood : executes a shop ≡ executes a (shop_after words p fs) = ap (executes a) (is-stood words p ds shop stands) in
    let found = ap is_some (found-same words p fs (timed p ds) a) ∙ sym (repeat-is words p fs a) in
    let here : executes a (shop_after words p fs) ≡ (is_write a.request && not (is_repeat p fs a)) = ap (λ (b : Bool). is_write a.request && not b) found in
    let same : (is_write a.request && not (is_repeat p fs a)) ≡ is_first p fs (came a) = drop-true (is_write a.request) (not (is_repeat p fs a)) in
    at_stood ∙ (here ∙ same)
  where
    drop-true : (x y : Bool) → (x && y) ≡ ((x && true) && y)
    drop-true true y = refl
    drop-true false y = refl

-- what one history comes to
abbrev pub Comes : (Reply → Response) → Opening → List Delivery → List Arrival → List Event → Running → Type 0
Comes words p ds open_ es end = (whole : List Delivery) × ComesTo words p ds open_ es whole × Stands words p whole end.shop

pub come : (words : Reply → Response) (p : Opening) (ds : List Delivery) (r : Running) (es : List Event) (end : Running) → Stands words p ds r.shop → Happens words r es end → Comes words p ds r.undecided es end
come words p ds r [] end stands same = (ds, refl, subst (λ (x : Running). Stands words p ds x.shop) (sym same) stands)
come words p ds r (Answered a answer ∷ es) end stands (is, happens) =
    let next = stands-served words p ds r.shop stands a in
    let rest = come words p (ds ++ came a ∷ []) (after_answer words a r) es end next happens in
    let first = executes-is words p ds r.shop a stands in
    let same : cond (executes a r.shop) [] r.undecided ≡ cond (is_first p (firsts p ds) (came a)) [] r.undecided = ap (λ (b : Bool). cond b [] r.undecided) first in (
      rest.0,
      (
        told-served words p ds r.shop stands a ∙ ap (λ (t : Response). let answer : Answer = Decided t in answer) (sym is),
        subst (λ (open_ : List Arrival). ComesTo words p (ds ++ came a ∷ []) open_ es rest.0) same rest.1,
      ),
      rest.2,
    )
come words p ds r (Unanswered a ∷ es) end stands happens =
    come words p (ds ++ turned_away a ∷ []) (after_none words a r) es end (stands-unavailable words p ds r.shop stands a) happens
come words p ds r (Crashed ∷ es) end stands (left, inl same, happens) =
    let rest = come words p ds (running_from words left) es end (subst (λ (s : ShopView). Stands words p ds s) (sym same) stands) happens in
    (rest.0, inl rest.1, rest.2)
come words p ds r (Crashed ∷ es) end stands (left, inr (a, among, same), happens) =
    let next = subst (λ (s : ShopView). Stands words p (ds ++ came a ∷ []) s) (sym same) (stands-served words p ds r.shop stands a) in
    let rest = come words p (ds ++ came a ∷ []) (running_from words left) es end next happens in
    (rest.0, inr (a, among, rest.1), rest.2)

pub come_from_opening : (words : Reply → Response) (p : Opening) (events : List Event) (end : Running) → Happens words (running_from words (shop_after words p [])) events end
    → (whole : List Delivery) × ComesTo words p [] [] events whole × Stands words p whole end.shop
come_from_opening words p events end happens = come words p [] (running_from words (shop_after words p [])) events end (record { office = refl; kept = refl }) happens

-- one history behind another
pub happens_on : (words : Reply → Response) (r : Running) (es fs : List Event) (mid end : Running) → Happens words r es mid → Happens words mid fs end → Happens words r (es ++ fs) end
happens_on words r [] fs mid end same more = subst (λ m. Happens words m fs end) same more
happens_on words r (Answered a told ∷ es) fs mid end (is, h) more = (is, happens_on words (after_answer words a r) es fs mid end h more)
happens_on words r (Unanswered a ∷ es) fs mid end h more = happens_on words (after_none words a r) es fs mid end h more
happens_on words r (Crashed ∷ es) fs mid end (left, may, h) more = (left, may, happens_on words (running_from words left) es fs mid end h more)
