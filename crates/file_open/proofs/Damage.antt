-- What a crash leaves of a running shop holds a shop.
use Rattle.std.proofs.Common.{◌≡◌, inl, inr, ℕ, ◌+◌, ◌≤◌, max, List, [], ◌∷◌, ap, arith}
use Rattle.base_values.specs.declared.answer.Response.{Response}
use Rattle.model_rows.specs.Lists.{State}
use Rattle.model_commands.specs.declared.replies.Reply.{Reply}
use Rattle.model_answers.specs.ShopView.{ShopView, IsSame}
use Rattle.office_deliveries.specs.declared.arrival.Arrival.{Arrival}
use Rattle.office_deliveries.specs.Shops.{arrival_served}
use Rattle.office_deliveries.specs.Histories.{Running, IsAmong, MayLeave}

module _ (words : Reply → Response) (shop : ShopView) where
  -- no moment that one of these writes leads to is later
  abbrev latest : List Arrival → ℕ
  latest [] = 0
  latest (a ∷ more) = max (arrival_served words a shop).0.state.moment (latest more)

  within : (a : Arrival) (more : List Arrival) → IsAmong a more → (arrival_served words a shop).0.state.moment ≤ latest more
  within a [] h = absurd h
  within a (b ∷ more) (inl same) = let is : (arrival_served words b shop).0.state.moment ≡ (arrival_served words a shop).0.state.moment = ap (λ (x : Arrival). (arrival_served words x shop).0.state.moment) same in omega (arith, is)
  within a (b ∷ more) (inr among) = let le = within a more among in omega (arith, le)

-- no moment is later that a crash may leave
abbrev last_left : (Reply → Response) → Running → ℕ
last_left words r = max r.shop.state.moment (latest words r.shop r.undecided)

left_within : (words : Reply → Response) (r : Running) (x : ShopView) → MayLeave words r x → x.state.moment ≤ last_left words r
left_within words r x (inl same) = let is : x.state.moment ≡ r.shop.state.moment = ap (λ (v : ShopView). v.state.moment) same in omega (arith, is)
left_within words r x (inr (a, among, same)) =
    let is : x.state.moment ≡ (arrival_served words a r.shop).0.state.moment = ap (λ (v : ShopView). v.state.moment) same in
    let le = within words r.shop a r.undecided among in
    omega (arith, is, le)

-- it can't leave every shop
pub leaves_some : (words : Reply → Response) (r : Running) → ((left : ShopView) → (x : ShopView) × MayLeave words r x × IsSame left x) → ⊥
leaves_some words r all =
    let late : ShopView = record { state = record r.shop.state { moment = last_left words r + 1 }; kept = r.shop.kept } in
    let it = all late in
    let le = left_within words r it.0 it.1 in
    let is : last_left words r + 1 ≡ it.0.state.moment = ap (λ (s : State). s.moment) it.2.state in
    omega (arith, is, le)
