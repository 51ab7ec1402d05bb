-- A box office stays sound where a voucher is sent, and where all are served; and the changes can be made one after another.
use Rattle.std.proofs.Common.{◌≡◌, ℕ, ◌+◌, ◌<◌, ◌^◌, min, Bool, true, false, eqb, List, [], ◌∷◌, Option, Some, None, Result, Ok, Err, map, refl, ap, ◌∙◌, subst, arith}
use Rattle.std.specs.Prelude.{◌||◌, not, is_some, if◌then◌else◌}
use Rattle.base_tables.specs.Tables.{row_at, with_row}
use Rattle.base_values.specs.Draws.{IsDraw}
use Rattle.base_values.specs.Moments.{last_moment, IsMoment}
use Rattle.base_values.specs.declared.draw.Draw.{Draw}
use Rattle.base_tables.proofs.Edits.{row_at-with_row}
use Rattle.std.proofs.lemmas.Bool.Decides.{nat_tests}
use Rattle.model_catalogue.specs.declared.rows.Item.{Item}
use Rattle.model_catalogue.specs.declared.rows.Product.{Product}
use Rattle.model_rows.specs.declared.rows.Voucher.{Voucher}
use Rattle.model_rows.specs.declared.rows.Waiting.{Waiting}
use Rattle.model_rows.specs.declared.changes.Change.TheVariants.{PutVoucher, PutWaiting}
use Rattle.model_rows.specs.Full.{takes_voucher}
use Rattle.model_rows.specs.Lists.{State, waiting_at}
use Rattle.model_rows.specs.Numbered.{with_voucher}
use Rattle.model_rows.proofs.EachRow.{all-row_at}
use Rattle.model_invariant.specs.Sound.{IsSound}
use Rattle.model_invariant.specs.Limits.{IsLimitedVoucher, IsLimitedWaiting}
use Rattle.model_invariant.specs.Sent.{voucher_stands}
use Rattle.model_invariant.specs.Targets.{HasTarget}
use Rattle.model_invariant.specs.Varied.{sold_as, is_plain, names_as_sold, IsProduct, is_whole}
use Rattle.model_invariant.specs.Changes.{LeadTo}
use Rattle.model_invariant.proofs.Changes.{leads_one, leads_nowhere, leads_joined}
use Rattle.model_invariant.proofs.Numbered.{takes_it}
use Rattle.model_invariant.proofs.Sound.{sound_new_voucher}
use Rattle.model_invariant.proofs.SoundWaiting.{sound_changed_waiting}
use Rattle.model_commands.specs.declared.waiting.WaitingRefusal.{WaitingRefusal}
use Rattle.model_invariant.proofs.MadeCodes.{made_text, next_code_its_own}
use Rattle.decide_waiting.proofs.SentTexts.{tag_text, no_text}
use Rattle.decide_waiting.specs.Sending.{sent_for, sent_voucher, with_its_voucher, with_sent, sent_changes, voucher_sent}
use Rattle.decide_waiting.specs.Serving.{queue, all_served, served_changes}
use Rattle.decide_waiting.specs.Steps.{Run, run_with, state_after, each_sent, served_in_turn}
use Rattle.decide_waiting.proofs.Leaves.{own_place}
use Rattle.decide_waiting.proofs.Sent.{sent_is}
use Rattle.decide_waiting.proofs.Served.{Turn, sound_at_once, run_at_once}
use Rattle.decide_waiting.proofs.Trades.{sound_can_send}

-- a voucher for a product may block it, and what it names stands
module _ (items : List Item) (product : Product) where
  plain_by : (varied : Bool) → names_as_sold None varied ≡ true → not varied ≡ true
  plain_by true e = absurd (cc)
  plain_by false e = refl

  plain : (found : Option Item) → sold_as (names_as_sold None) found ≡ true → sold_as (λ varied. not varied) found ≡ true
  plain None e = absurd (cc)
  plain (Some item) e = plain_by item.varied e

  whole_by : (variation : Option ℕ) → sold_as (names_as_sold variation) (row_at (λ r. r.id) product.item items) ≡ true → (is_some variation || is_plain items (Some product.item)) ≡ true
  whole_by (Some id) e = refl
  whole_by None e = plain (row_at (λ r. r.id) product.item items) e

  stands : (test : Bool → Bool) (found : Option Item) → sold_as test found ≡ true → is_some found ≡ true
  stands test None e = absurd (cc)
  stands test (Some item) e = refl

target_of : (draw : Draw) (state : State) (product : Product) → IsProduct state.lists.catalogue product → HasTarget state.lists.catalogue (sent_voucher draw state product)
target_of draw state product is = record {
  item = stands state.lists.catalogue.items product (names_as_sold product.variation) (row_at (λ r. r.id) product.item state.lists.catalogue.items) is.as_sold;
  variation = is.own;
  quota = refl;
  one = refl;
}

-- it is within its limits
ends_at : (at : ℕ) → IsMoment (min (at + sent_for) last_moment)
ends_at at = omega arith

sent_limited : (draw : Draw) (state : State) (product : Product) → IsDraw draw → state.next.voucher < 2 ^ 64 → IsLimitedVoucher (sent_voucher draw state product)
sent_limited draw state product sixteen small = record {
  code = made_text draw state.next.voucher sixteen small;
  uses = (omega arith, omega arith);
  end = ends_at state.moment;
  value = tt;
  tag = tag_text;
  comment = no_text;
  budget = tt;
}

-- the new voucher stands
its_voucher_stands : (row : Voucher) (vouchers : List Voucher) → voucher_stands (with_row (λ r. r.id) row vouchers) (Some row.id) ≡ true
its_voucher_stands row vouchers =
    let own : eqb row.id row.id ≡ true = grind (arith, nat_tests) in
    let found : row_at (λ r. r.id) row.id (with_row (λ r. r.id) row vouchers) ≡ Some row = row_at-with_row (λ (r : Voucher). r.id) row.id row vouchers ∙ ap (λ b. if b then Some row else row_at (λ r. r.id) row.id vouchers) own in
    ap (λ (f : Option Voucher). is_some f) found

module _ (draw : Draw) (sixteen : IsDraw draw) where
  -- with the voucher alone, and then with the entry that names it
  its_sound : (id : ℕ) (before : State) (old : Waiting) → waiting_at id before.lists ≡ Some old → takes_voucher before ≡ true → IsSound before → IsSound (with_voucher (sent_voucher draw before old.product) before)
  its_sound id before old stands room sound =
      let voucher = sent_voucher draw before old.product in
      let product = all-row_at (λ (r : Waiting). r.id) (λ w. IsProduct before.lists.catalogue w.product) id before.lists.waiting old stands sound.products.waiting in
      let whole : is_whole before.lists.catalogue.items voucher ≡ true = whole_by before.lists.catalogue.items old.product old.product.variation product.as_sold in
      let small : before.next.voucher < 2 ^ 64 = omega (arith, sound.range.next_ids.vouchers.within) in
      sound_new_voucher before voucher refl (takes_it before.next.voucher before.lists.vouchers room) (target_of draw before old.product product) (next_code_its_own draw before sixteen sound voucher refl refl) whole (sent_limited draw before old.product sixteen small) sound

  both_sound : (id : ℕ) (before : State) (old : Waiting) → waiting_at id before.lists ≡ Some old → takes_voucher before ≡ true → IsSound before → IsSound (with_sent draw old before)
  both_sound id before old stands room sound =
      let voucher = sent_voucher draw before old.product in
      let product = all-row_at (λ (r : Waiting). r.id) (λ w. IsProduct before.lists.catalogue w.product) id before.lists.waiting old stands sound.products.waiting in
      let its = all-row_at (λ (r : Waiting). r.id) IsLimitedWaiting id before.lists.waiting old stands sound.limits.waiting in
      let limits : IsLimitedWaiting (with_its_voucher before old) = record { email = its.email; priority = its.priority; created = its.created } in
      sound_changed_waiting (with_voucher voucher before) (with_its_voucher before old) old (own_place id before old stands) product (its_voucher_stands voucher before.lists.vouchers) limits (its_sound id before old stands room sound)

  pub sent_sound : (id : ℕ) (before after : State) (row : Waiting) → IsSound before → voucher_sent id draw before ≡ Ok (after, row) → IsSound after
  sent_sound id before after row sound h =
      let s = sent_is id draw before after row h in
      subst IsSound s.to.is_after (both_sound id before s.old s.stands s.to.room sound)

  -- its two changes can be made one after another
  pub sent_leads : (id : ℕ) (before after : State) (row : Waiting) → IsSound before → voucher_sent id draw before ≡ Ok (after, row) → LeadTo (sent_changes draw before row) before.lists after.lists
  sent_leads id before after row sound h =
      let s = sent_is id draw before after row h in
      let voucher = sent_voucher draw before s.old.product in
      let mid = with_voucher voucher before in
      let end = with_sent draw s.old before in
      let entry = with_its_voucher before s.old in
      let first = leads_one (PutVoucher voucher) before mid refl (its_sound id before s.old s.stands s.to.room sound) in
      let second = leads_one (PutWaiting entry) mid end refl (both_sound id before s.old s.stands s.to.room sound) in
      let both : LeadTo (sent_changes draw before entry) before.lists end.lists = leads_joined (PutVoucher voucher ∷ []) (PutWaiting entry ∷ []) before.lists mid.lists end.lists first second in
      subst (λ (r : Waiting). LeadTo (sent_changes draw before r) before.lists after.lists) s.to.is_row (subst (λ (a : State). LeadTo (sent_changes draw before entry) before.lists a.lists) s.to.is_after both)

  turn_sound : (id : ℕ) (state : State) (r : Result (State × Waiting) WaitingRefusal) → voucher_sent id draw state ≡ r → IsSound state → IsSound (state_after state r)
  turn_sound id state (Err refusal) e sound = sound
  turn_sound id state (Ok sent) e sound = sent_sound id state sent.0 sent.1 sound e

  rest_sound : (state : State) (r : Result (State × Waiting) WaitingRefusal) (rest : Run) → IsSound rest.state → IsSound (run_with draw state r rest).state
  rest_sound state (Ok sent) rest h = h
  rest_sound state (Err refusal) rest h = h

  each_sound : (ids : List ℕ) (state : State) → IsSound state → IsSound (each_sent draw ids state).state
  each_sound [] state sound = sound
  each_sound (id ∷ ids) state sound = by_room (takes_voucher state) (rest_sound state (voucher_sent id draw state) (each_sent draw ids (state_after state (voucher_sent id draw state))) (each_sound ids (state_after state (voucher_sent id draw state)) (turn_sound id state (voucher_sent id draw state) refl sound)))
    where
      by_room : (b : Bool) → IsSound (run_with draw state (voucher_sent id draw state) (each_sent draw ids (state_after state (voucher_sent id draw state)))).state → IsSound (Turn draw state ids id state b).state
      by_room true more = more
      by_room false more = sound

  in_turn_sound : (state : State) → IsSound state → IsSound (served_in_turn draw state).0
  unfolding served_in_turn
  in_turn_sound state sound = each_sound (map (λ e. e.id) (queue state.lists)) state sound

  pub served_sound : (state : State) → IsSound state → IsSound (all_served draw state).0
  served_sound state sound = subst (λ (x : State × List ℕ). IsSound x.0) (sound_at_once draw state sound) (in_turn_sound state sound)

  -- and so can all changes of serving
  one_leads : (id : ℕ) (state : State) → IsSound state → (r : Result (State × Waiting) WaitingRefusal) → voucher_sent id draw state ≡ r → (rest : Run) → LeadTo rest.changes (state_after state r).lists rest.state.lists → LeadTo (run_with draw state r rest).changes state.lists (run_with draw state r rest).state.lists
  one_leads id state sound (Err refusal) e rest more = more
  one_leads id state sound (Ok sent) e rest more = leads_joined (sent_changes draw state sent.1) rest.changes state.lists sent.0.lists rest.state.lists (sent_leads id state sent.0 sent.1 sound e) more

  each_leads : (ids : List ℕ) (state : State) → IsSound state → LeadTo (each_sent draw ids state).changes state.lists (each_sent draw ids state).state.lists
  each_leads [] state sound = leads_nowhere state.lists
  each_leads (id ∷ ids) state sound = by_room (takes_voucher state) (one_leads id state sound (voucher_sent id draw state) refl (each_sent draw ids (state_after state (voucher_sent id draw state))) (each_leads ids (state_after state (voucher_sent id draw state)) (turn_sound id state (voucher_sent id draw state) refl sound)))
    where
      by_room : (b : Bool)
          → LeadTo (run_with draw state (voucher_sent id draw state) (each_sent draw ids (state_after state (voucher_sent id draw state)))).changes state.lists (run_with draw state (voucher_sent id draw state) (each_sent draw ids (state_after state (voucher_sent id draw state)))).state.lists
          → LeadTo (Turn draw state ids id state b).changes state.lists (Turn draw state ids id state b).state.lists
      by_room true more = more
      by_room false more = leads_nowhere state.lists

  pub served_leads : (state : State) → IsSound state → LeadTo (served_changes draw state) state.lists (all_served draw state).0.lists
  served_leads state sound = subst (λ (run : Run). LeadTo run.changes state.lists run.state.lists) (run_at_once draw state (sound_can_send state sound)) (each_leads (map (λ e. e.id) (queue state.lists)) state sound)
