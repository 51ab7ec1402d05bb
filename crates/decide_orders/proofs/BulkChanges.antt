-- The changes of a bulk call can be made one after another, and lead to the box office with all that could be added.
use Rattle.std.proofs.Common.{◌≡◌, List, [], ◌∷◌, Result, Ok, Err, refl, sym, ap, subst}
use Rattle.std.proofs.lemmas.List.Elements.{filter_map-append}
use Rattle.std.specs.List.{AllByRecursion}
use Rattle.base_values.specs.Draws.{IsDraw}
use Rattle.base_values.specs.declared.draw.Draw.{Draw}
use Rattle.model_rows.specs.declared.rows.CartPos.{CartPos}
use Rattle.model_rows.specs.declared.changes.Change.{Change}
use Rattle.model_rows.specs.declared.changes.Change.TheVariants.{PutCart}
use Rattle.model_rows.specs.Lists.{State}
use Rattle.model_invariant.specs.Changes.{LeadTo}
use Rattle.model_invariant.specs.Sound.{IsSound}
use Rattle.model_invariant.proofs.Changes.{leads_one, leads_nowhere, leads_joined}
use Rattle.model_commands.specs.FitRequests.{IsFitCart, IsFitEntry}
use Rattle.model_commands.specs.declared.carts.Entry.{Entry}
use Rattle.model_commands.specs.declared.carts.Entry.TheVariants.{New, Faulty}
use Rattle.model_commands.specs.declared.carts.NewCart.{NewCart}
use Rattle.model_commands.specs.declared.orders.OrderRefusal.{OrderRefusal}
use Rattle.decide_orders.specs.Bulk.{outcome_of, entry_added, all_added, put_by, bulk_changes}
use Rattle.decide_orders.specs.Carts.{position_added}
use Rattle.decide_orders.proofs.Added.{added_is, added_sound}
use Rattle.decide_orders.proofs.BulkSound.{entry_sound}

-- a cart position that is added
pub added_leads : (new : NewCart) (draw : Draw) (before after : State) (row : CartPos) → IsFitCart new → IsDraw draw → IsSound before → position_added new draw before ≡ Ok (after, row) → LeadTo (PutCart row ∷ []) before.lists after.lists
added_leads new draw before after row fit sixteen sound h = leads_one (PutCart row) before after (ap (λ (s : State). s.lists) (added_is new draw before after row h).is_after) (added_sound new draw before after row fit sixteen sound h)

module _ (new : NewCart) (draw : Draw) (state : State) (fit : IsFitCart new) (sixteen : IsDraw draw) (sound : IsSound state) where
  one_leads : (made : Result (State × CartPos) OrderRefusal) → position_added new draw state ≡ made → LeadTo (bulk_changes ((outcome_of state made).1 ∷ [])) state.lists (outcome_of state made).0.lists
  one_leads (Err refusal) is = leads_nowhere state.lists
  one_leads (Ok (after, row)) is = added_leads new draw state after row fit sixteen sound is

entry_leads : (entry : Entry) (draw : Draw) (state : State) → IsFitEntry entry → IsDraw draw → IsSound state → LeadTo (bulk_changes ((entry_added entry draw state).1 ∷ [])) state.lists (entry_added entry draw state).0.lists
entry_leads (New new) draw state fit sixteen sound = one_leads new draw state fit sixteen sound (position_added new draw state) refl
entry_leads (Faulty fault) draw state fit sixteen sound = leads_nowhere state.lists

pub entries_lead : (entries : List Entry) (draw : Draw) (state : State) → AllByRecursion IsFitEntry entries → IsDraw draw → IsSound state → LeadTo (bulk_changes (all_added entries draw state).1) state.lists (all_added entries draw state).0.lists
entries_lead [] draw state fit sixteen sound = leads_nowhere state.lists
entries_lead (entry ∷ entries) draw state fit sixteen sound =
    let made = entry_added entry draw state in
    let more = all_added entries draw made.0 in
    let one = entry_leads entry draw state fit.0 sixteen sound in
    let rest = entries_lead entries draw made.0 fit.1 sixteen (entry_sound entry draw state fit.0 sixteen sound) in
    subst (λ (changes : List Change). LeadTo changes state.lists more.0.lists) (sym (filter_map-append put_by (made.1 ∷ []) more.1)) (leads_joined (bulk_changes (made.1 ∷ [])) (bulk_changes more.1) state.lists made.0.lists more.0.lists one rest)
