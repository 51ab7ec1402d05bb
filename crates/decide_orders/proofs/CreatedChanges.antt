-- The changes that make an order can be made one after another, and lead to the box office with it.
use Rattle.std.proofs.Common.{◌≡◌, ℕ, ◌+◌, ◌<◌, true, List, [], ◌∷◌, ◌++◌, length, map, Result, Ok, Err, refl, sym, ap, ◌∙◌, subst, append_assoc, arith}
use Rattle.std.specs.List.{AllByRecursion}
use Rattle.base_values.specs.Draws.{IsDraw}
use Rattle.base_values.specs.Texts.{same_text}
use Rattle.base_values.specs.declared.draw.Draw.{Draw}
use Rattle.model_rows.specs.declared.rows.OrderPos.{OrderPos}
use Rattle.model_rows.specs.declared.rows.OrderRows.{OrderRows}
use Rattle.model_rows.specs.declared.changes.Change.TheVariants.{PutOrder, PutPosition, DropCart}
use Rattle.model_rows.specs.Lists.{Lists, State}
use Rattle.model_rows.specs.Change.{change_applied, without_carts}
use Rattle.model_rows.specs.Consumed.{carts_consumed}
use Rattle.model_rows.proofs.EachRow.{all_weaker}
use Rattle.model_invariant.specs.Changes.{same_place, LeadTo}
use Rattle.model_invariant.specs.Limits.{IsLimitedPosition}
use Rattle.model_invariant.specs.Secrets.{has_own_secret}
use Rattle.model_invariant.specs.Sound.{IsSound}
use Rattle.model_invariant.proofs.Apart.{AreApart, front_apart}
use Rattle.model_invariant.proofs.Changes.{AreInPlace, can_be_made, sound_in_place, leads_nowhere, leads_joined, carts_lead}
use Rattle.model_invariant.proofs.Numbered.{TakesSome, takes_first, takes_others}
use Rattle.model_invariant.proofs.Positions.{last_put}
use Rattle.model_commands.specs.FitRequests.{IsFitOrder}
use Rattle.model_commands.specs.declared.orders.NewOrder.{NewOrder}
use Rattle.model_commands.specs.declared.orders.OrderRefusal.{OrderRefusal}
use Rattle.decide_orders.specs.Created.{position_put, with_positions, with_order_row, order_changes, order_created}
use Rattle.decide_orders.specs.Steps.{AreCounted}
use Rattle.decide_orders.proofs.Counted.{are_rows, stand_behind}
use Rattle.decide_orders.proofs.Created.{IsOwn, numbered, Goes, goes_on, are_own, takes_all, begins, created_is, created_limited, created_sound}
use Rattle.decide_orders.proofs.Puts.{put_is, carts_keep_positions}
use Rattle.decide_orders.proofs.Rows.{counted}

-- no two of these positions have one secret, nor one number in one order
record AreUnlike (positions : List OrderPos) : Type 0 where
  secrets : AreApart (λ p q. same_text p.secret q.secret) positions
  places : AreApart same_place positions

-- those in front of others
front_unlike : (xs ys all : List OrderPos) → xs ++ ys ≡ all → AreUnlike all → AreUnlike xs
front_unlike xs ys all is h = record {
  secrets = front_apart (λ p q. same_text p.secret q.secret) xs ys (subst (AreApart (λ p q. same_text p.secret q.secret)) (sym is) h.secrets);
  places = front_apart same_place xs ys (subst (AreApart same_place) (sym is) h.places);
}

-- all positions at last are those that stand and those that are left
module _ (lists : Lists) (number : ℕ) (all : List OrderPos) (unlike : AreUnlike all) where
  -- behind those that stand
  behind : (id : ℕ) (row : OrderPos) (rows : List OrderPos) (state : State) → row.id ≡ id → Goes lists number id state → state.lists.positions ++ (row ∷ rows) ≡ all → (change_applied (PutPosition row) state).lists.positions ++ rows ≡ all
  behind id row rows state own g is =
      let above = all_weaker (λ r. r.id < id) (λ r. r.id < row.id) (λ r lt. omega (arith, lt, own)) state.lists.positions g.sound.ids.positions.below in
      ap (λ (ps : List OrderPos). ps ++ rows) (last_put row state.lists.positions above) ∙ append_assoc state.lists.positions (row ∷ []) rows ∙ is

  in_place : (id : ℕ) (rows : List OrderPos) (state : State) → Goes lists number id state → state.lists.positions ++ rows ≡ all → AreInPlace state.lists
  in_place id rows state g is =
      let u = front_unlike state.lists.positions rows all is unlike in
      record { stand = g.sound.ordered.stand; secrets = u.secrets; places = u.places }

  puts_lead : (rows : List OrderPos) (id : ℕ) (state put : State) → TakesSome (length rows) id state.lists.positions → AreCounted id rows → AllByRecursion (IsOwn lists number) rows
      → AllByRecursion (λ p. has_own_secret p ≡ true) rows → AllByRecursion IsLimitedPosition rows → Goes lists number id state → state.lists.positions ++ rows ≡ all
      → with_positions rows (Ok state) ≡ Ok put → LeadTo (map PutPosition rows) state.lists put.lists
  puts_lead [] id state put takes count own secrets limits g is h =
      let same : state ≡ put = cc (h) in
      subst (λ (s : State). LeadTo [] state.lists s.lists) same (leads_nowhere state.lists)
  puts_lead (row ∷ rows) id state put takes count own secrets limits g is h = by_put (position_put row state) refl h (λ on. puts_lead rows (id + 1) (change_applied (PutPosition row) state) put (takes_others (λ (r : OrderPos). r.id) row rows id state.lists.positions takes) count.1 own.1 secrets.1 limits.1 on (behind id row rows state count.0 g is))
    where
      by_put : (done : Result State OrderRefusal) → position_put row state ≡ done → with_positions rows done ≡ Ok put
          → (Goes lists number (id + 1) (change_applied (PutPosition row) state) → with_positions rows (Ok (change_applied (PutPosition row) state)) ≡ Ok put → LeadTo (map PutPosition rows) (change_applied (PutPosition row) state).lists put.lists)
          → LeadTo (map PutPosition (row ∷ rows)) state.lists put.lists
      by_put (Err refusal) e h more = absurd (cc (h))
      by_put (Ok made) e h more =
          let next = change_applied (PutPosition row) state in
          let p = put_is row state made e in
          let on = goes_on lists number id row state count.0 own.0 secrets.0 p.left (takes_first (λ (r : OrderPos). r.id) row rows id state.lists.positions takes) limits.0 g in
          let rest = more on (subst (λ (s : State). with_positions rows (Ok s) ≡ Ok put) (sym p.is) h) in
          record {
            can = (can_be_made _ _ (PutPosition row) state.lists (numbered (id + 1) next).next state.moment on.sound (in_place (id + 1) rows next on (behind id row rows state count.0 g is)), rest.can);
            is = rest.is;
          }

-- the consumed cart positions go, the order comes, and then its positions do
pub created_leads : (new : NewOrder) (draw : Draw) (before after : State) (made : OrderRows) → IsFitOrder new → IsDraw draw → IsSound before → order_created new draw before ≡ Ok (after, made) → LeadTo (order_changes new.consume_carts made.order made.positions before.lists) before.lists after.lists
created_leads new draw before after made fit sixteen sound h =
    let m = created_is new draw before after made h in
    let ids = carts_consumed new.consume_carts before.lists in
    let start = before.next.position in
    let state = with_order_row made.order new.consume_carts before in
    let left = (without_carts ids before).lists in
    let places = sound_in_place after (created_sound new draw before after made fit sixteen sound h) in
    let end : m.put.lists ≡ after.lists = ap (λ (s : State). s.lists) m.is_after in
    let keep = carts_keep_positions ids before.lists in
    let ids_count = counted draw before [] start 1 new.positions made.positions m.are_rows in
    let below = subst (λ (ps : List OrderPos). AllByRecursion (λ r. r.id < start) ps) (sym keep) sound.ids.positions.below in
    let all = sym (stand_behind made.positions start state m.put ids_count below m.puts).positions ∙ ap (λ (l : Lists). l.positions) end in
    let unlike : AreUnlike after.lists.positions = record { secrets = places.secrets; places = places.places } in
    let takes = subst (λ (ps : List OrderPos). TakesSome (length made.positions) start ps) (sym keep) (takes_all (length made.positions) before m.takes).1 in
    let own = are_own draw before sound.ids.vouchers.in_order sound.varied [] start 1 new.positions made.positions m.are_rows in
    let rows = are_rows draw before [] start 1 new.positions made.positions m.are_rows in
    let puts = puts_lead before.lists before.next.order after.lists.positions unlike made.positions start state m.put takes ids_count own rows.secrets (created_limited new draw before after made fit sixteen sound h m) (begins new draw before after made fit sound m) all m.puts in
    let order : LeadTo (PutOrder made.order ∷ []) left state.lists = record { can = (tt, tt); is = refl } in
    let ordered = leads_joined (PutOrder made.order ∷ []) (map PutPosition made.positions) left state.lists m.put.lists order puts in
    subst (λ (l : Lists). LeadTo (order_changes new.consume_carts made.order made.positions before.lists) before.lists l) end (leads_joined (map DropCart ids) (PutOrder made.order ∷ map PutPosition made.positions) before.lists left m.put.lists (carts_lead ids before.lists) ordered)
