-- What is known where a voucher was sent, and what serving leaves as it was.
use Rattle.std.proofs.Common.{map, ◌≡◌, ℕ, Bool, true, false, List, [], ◌∷◌, Option, Some, None, Result, Ok, Err, refl, sym, ap, ◌∙◌, subst}
use Rattle.std.specs.Prelude.{if◌then◌else◌}
use Rattle.base_values.proofs.Decided.{found, found_none, gave_it, passed}
use Rattle.base_values.specs.declared.draw.Draw.{Draw}
use Rattle.model_catalogue.specs.declared.rows.Quota.{Quota}
use Rattle.model_catalogue.specs.CatalogueLists.{is_active, is_sold}
use Rattle.model_rows.specs.declared.rows.Waiting.{Waiting}
use Rattle.model_rows.specs.Full.{takes_voucher}
use Rattle.model_rows.specs.Lists.{State, waiting_at}
use Rattle.model_invariant.specs.Sound.{IsSound}
use Rattle.model_rows.specs.Takes.{places_used}
use Rattle.model_rows.specs.Usage.{usage_of, has_none}
use Rattle.model_rows.proofs.EachRow.{key-row_at}
use Rattle.model_commands.specs.declared.waiting.WaitingRefusal.{WaitingRefusal}
use Rattle.model_commands.specs.declared.waiting.WaitingRefusal.TheVariants.{SoldOut}
use Rattle.decide_waiting.specs.Places.{first_closed}
use Rattle.decide_waiting.specs.Sending.{with_its_voucher, with_sent, sent_to, voucher_sent}
use Rattle.decide_waiting.specs.Steps.{CanSend, TradesPlace}
use Rattle.decide_waiting.specs.Serving.{entries_served, all_sent, all_served, queue}
use Rattle.decide_waiting.specs.Steps.{Run, run_with, state_after, each_sent, served_in_turn}
use Rattle.decide_waiting.proofs.Served.{Turn, sound_at_once}
use Rattle.decide_waiting.proofs.Trades.{sent_can_send, sound_can_send, sent_trades, sent_used}

-- what an entry passed to which a voucher was sent
pub record IsSentTo (old : Waiting) (draw : Draw) (before after : State) (row : Waiting) : Type 0 where
  pub waits : has_none old.voucher ≡ true
  pub active : is_active old.product before.lists.catalogue ≡ true
  pub sold : is_sold old.product before.lists.catalogue ≡ true
  pub unclosed : first_closed before old.product ≡ None
  pub room : takes_voucher before ≡ true
  pub is_after : with_sent draw old before ≡ after
  pub is_row : with_its_voucher before old ≡ row

-- the entry as it was, which stood
pub record IsSent (id : ℕ) (draw : Draw) (before after : State) (row : Waiting) : Type 0 where
  pub old : Waiting
  pub stands : waiting_at id before.lists ≡ Some old
  pub to : IsSentTo old draw before after row

module _ (id : ℕ) (draw : Draw) (before after : State) (row : Waiting) where
  abbrev Gives : Result (State × Waiting) WaitingRefusal → Type 0
  Gives result = result ≡ Ok (after, row)

  pub sent_to_is : (old : Waiting) → Gives (sent_to draw old before) → IsSentTo old draw before after row
  unfolding sent_to
  sent_to_is old h =
      let (waits, h1) = passed (has_none old.voucher) _ _ h in
      let (active, h2) = passed (is_active old.product before.lists.catalogue) _ _ h1 in
      let (sold, h3) = passed (is_sold old.product before.lists.catalogue) _ _ h2 in
      let (unclosed, h4) = found_none SoldOut (first_closed before old.product) _ h3 in
      let (room, h5) = passed (takes_voucher before) _ _ h4 in
      let same = gave_it (with_sent draw old before, with_its_voucher before old) (after, row) h5 in
      record {
        waits = waits;
        active = active;
        sold = sold;
        unclosed = unclosed;
        room = room;
        is_after = ap (λ (x : State × Waiting). x.0) same;
        is_row = ap (λ (x : State × Waiting). x.1) same;
      }

  pub sent_is : Gives (voucher_sent id draw before) → IsSent id draw before after row
  unfolding voucher_sent
  sent_is h =
      let (old, stands, h1) = found (waiting_at id before.lists) _ _ h in
      record { old = old; stands = stands; to = sent_to_is old h1 }

  pub sent_moment : Gives (voucher_sent id draw before) → after.moment ≡ before.moment
  sent_moment h = sym (ap (λ (s : State). s.moment) (sent_is h).to.is_after)

  module _ (sound : IsSound before) (h : Gives (voucher_sent id draw before)) where
    stands_own : (old : Waiting) → waiting_at id before.lists ≡ Some old → waiting_at old.id before.lists ≡ Some old
    stands_own old e = ap (λ (n : ℕ). waiting_at n before.lists) (key-row_at (λ (r : Waiting). r.id) id before.lists.waiting old e) ∙ e

    pub sending_trades : (quota : Quota) → TradesPlace quota row.product (usage_of before.lists before.moment quota) (usage_of after.lists after.moment quota)
    sending_trades quota =
        let s = sent_is h in
        let is = sent_trades draw before s.old (sound_can_send before sound) quota (stands_own s.old s.stands) s.to.waits in
        subst (λ (r : Waiting). TradesPlace quota r.product (usage_of before.lists before.moment quota) (usage_of after.lists after.moment quota)) s.to.is_row (subst (λ (a : State). TradesPlace quota s.old.product (usage_of before.lists before.moment quota) (usage_of a.lists a.moment quota)) s.to.is_after is)

    pub sending_keeps_used : (quota : Quota) → places_used after quota ≡ places_used before quota
    sending_keeps_used quota =
        let s = sent_is h in
        subst (λ (a : State). places_used a quota ≡ places_used before quota) s.to.is_after (sent_used draw before s.old (sound_can_send before sound) quota (stands_own s.old s.stands) s.to.waits)

-- serving leaves every quota's usage as it was
module _ (draw : Draw) (quota : Quota) where
  turn_keeps : (id : ℕ) (state : State) (can : CanSend state) (r : Result (State × Waiting) WaitingRefusal) → voucher_sent id draw state ≡ r → CanSend (state_after state r) × (places_used (state_after state r) quota ≡ places_used state quota)
  turn_keeps id state can (Err refusal) e = (can, refl)
  turn_keeps id state can (Ok sent) e =
      let s = sent_is id draw state sent.0 sent.1 e in
      let own = ap (λ (n : ℕ). waiting_at n state.lists) (key-row_at (λ (r : Waiting). r.id) id state.lists.waiting s.old s.stands) ∙ s.stands in
      (subst CanSend s.to.is_after (sent_can_send draw state s.old can), subst (λ (a : State). places_used a quota ≡ places_used state quota) s.to.is_after (sent_used draw state s.old can quota own s.to.waits))

  same_state : (state : State) (r : Result (State × Waiting) WaitingRefusal) (rest : Run) → (run_with draw state r rest).state ≡ rest.state
  same_state state (Ok sent) rest = refl
  same_state state (Err refusal) rest = refl

  each_keeps : (ids : List ℕ) (state : State) → CanSend state → places_used (each_sent draw ids state).state quota ≡ places_used state quota
  each_keeps [] state can = refl
  each_keeps (id ∷ ids) state can =
      let turn = turn_keeps id state can (voucher_sent id draw state) refl in
      by_room (takes_voucher state) (ap (λ (s : State). places_used s quota) (same_state state (voucher_sent id draw state) (each_sent draw ids (state_after state (voucher_sent id draw state)))) ∙ each_keeps ids (state_after state (voucher_sent id draw state)) turn.0 ∙ turn.1)
    where
      by_room : (b : Bool) → places_used (run_with draw state (voucher_sent id draw state) (each_sent draw ids (state_after state (voucher_sent id draw state)))).state quota ≡ places_used state quota → places_used (Turn draw state ids id state b).state quota ≡ places_used state quota
      by_room true more = more
      by_room false more = refl

  in_turn_keeps : (state : State) → CanSend state → places_used (served_in_turn draw state).0 quota ≡ places_used state quota
  unfolding served_in_turn
  in_turn_keeps state can = each_keeps (map (λ e. e.id) (queue state.lists)) state can

  pub serving_keeps_used : (state : State) → IsSound state → places_used (all_served draw state).0 quota ≡ places_used state quota
  serving_keeps_used state sound = ap (λ (x : State × List ℕ). places_used x.0 quota) (sym (sound_at_once draw state sound)) ∙ in_turn_keeps state (sound_can_send state sound)

-- nor does it change the moment
all_sent_moment : (draw : Draw) (entries : List Waiting) (state : State) → (all_sent draw entries state).moment ≡ state.moment
all_sent_moment draw [] state = refl
all_sent_moment draw (e ∷ es) state = all_sent_moment draw es (with_sent draw e state)

pub served_moment : (draw : Draw) (state : State) → (all_served draw state).0.moment ≡ state.moment
unfolding all_served
served_moment draw state = all_sent_moment draw (entries_served state) state
