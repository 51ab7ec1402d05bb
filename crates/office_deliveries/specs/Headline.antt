-- What the laws of every list of arrivals say.
use Rattle.std.specs.Prelude.{◌≡◌, ◌+◌, ◌<◌, ◌≤◌, true, List, [], ◌∷◌, ◌++◌}
use Rattle.std.specs.List.{AllByRecursion}
use Rattle.base_values.specs.declared.answer.Response.{Response}
use Rattle.model_commands.specs.declared.replies.Reply.{Reply}
use Rattle.office_deliveries.specs.declared.arrival.Arrival.{Arrival}
use Rattle.office_deliveries.specs.Deliveries.{Opening, Delivery, First, came, is_write, is_first, firsts, now, answer_told}
use Rattle.model_answers.specs.KeptAnswers.{has_key, a_day}

-- an arrival shows the key of the other, and its token
pub record HasTheKeyOf (a b : Arrival) : Type 0 where
  pub keyed : has_key a.key ≡ true
  pub token : b.token ≡ a.token
  pub key : b.key ≡ a.key
  pub write : is_write b.request ≡ true

-- what comes between is another request: a read, of another token, with another key, or without any
abbrev pub IsAnother : Arrival → Delivery → Type 0
IsAnother a d = HasTheKeyOf a d.arrival → ⊥

-- two arrivals at an opening: these arrivals come before the earlier one, and these between the two
pub record TwoArrivals : Type 0 where
  pub opening : Opening
  pub before : List Delivery
  pub earlier : Arrival
  pub between : List Delivery
  pub later : Arrival

-- A repeat of an executed write that comes before a day has passed is told what that one was told, whatever it asks for
-- and whatever came between.
abbrev pub ToldAgain : (Reply → Response) → TwoArrivals → Type 0
ToldAgain words t =
    let p = t.opening in
    let till_later = t.before ++ came t.earlier ∷ t.between in
    is_first p (firsts p t.before) (came t.earlier) ≡ true → HasTheKeyOf t.earlier t.later
    → now p (firsts p till_later) t.later < now p (firsts p t.before) t.earlier + a_day
    → answer_told words p till_later (came t.later) ≡ answer_told words p t.before (came t.earlier)

-- Where a day has passed and no other request with the key came between, it is executed anew.
abbrev pub ExecutedAnew : TwoArrivals → Type 0
ExecutedAnew t =
    let p = t.opening in
    let till_later = t.before ++ came t.earlier ∷ t.between in
    is_first p (firsts p t.before) (came t.earlier) ≡ true → AllByRecursion (IsAnother t.earlier) t.between → HasTheKeyOf t.earlier t.later
    → now p (firsts p t.before) t.earlier + a_day ≤ now p (firsts p till_later) t.later
    → is_first p (firsts p till_later) (came t.later) ≡ true

-- two executions under one key of one token are a day apart, or more
abbrev pub AreADayApart : List First → Type 0
AreADayApart [] = Unit {0}
AreADayApart (f ∷ fs) = AllByRecursion (λ g. HasTheKeyOf f.arrival g.arrival → f.at + a_day ≤ g.at) fs × AreADayApart fs
