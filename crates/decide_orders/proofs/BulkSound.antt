-- What is known where many cart positions were added.
use Rattle.std.proofs.Common.{◌≡◌, Bool, true, false, List, [], ◌∷◌, Result, Ok, Err, refl, ◌∙◌}
use Rattle.std.specs.Prelude.{nat_lt, length, if◌then◌else◌}
use Rattle.std.specs.List.{AllByRecursion}
use Rattle.base_values.specs.Draws.{IsDraw}
use Rattle.base_values.specs.declared.draw.Draw.{Draw}
use Rattle.model_rows.specs.declared.rows.CartPos.{CartPos}
use Rattle.model_rows.specs.Lists.{State}
use Rattle.model_invariant.specs.Sound.{IsSound}
use Rattle.model_commands.specs.FitRequests.{IsFitCart, IsFitEntry}
use Rattle.model_commands.specs.declared.carts.NewCart.{NewCart}
use Rattle.model_commands.specs.declared.carts.Entry.{Entry}
use Rattle.model_commands.specs.declared.carts.Entry.TheVariants.{New, Faulty}
use Rattle.model_commands.specs.declared.carts.Outcome.{Outcome}
use Rattle.model_commands.specs.declared.orders.OrderRefusal.{OrderRefusal}
use Rattle.model_commands.specs.declared.orders.OrderRefusal.TheVariants.{TooMany}
use Rattle.decide_orders.specs.Bulk.{outcome_of, entry_added, all_added, most_entries, many_added}
use Rattle.decide_orders.specs.Carts.{position_added}
use Rattle.decide_orders.proofs.Added.{added_sound, added_moment}

module _ (new : NewCart) (draw : Draw) (state : State) where
  one_sound : IsFitCart new → IsDraw draw → (made : Result (State × CartPos) OrderRefusal) → position_added new draw state ≡ made → IsSound state → IsSound (outcome_of state made).0
  one_sound fit sixteen (Err refusal) is sound = sound
  one_sound fit sixteen (Ok (after, row)) is sound = added_sound new draw state after row fit sixteen sound is

  one_moment : (made : Result (State × CartPos) OrderRefusal) → position_added new draw state ≡ made → (outcome_of state made).0.moment ≡ state.moment
  one_moment (Err refusal) is = refl
  one_moment (Ok (after, row)) is = added_moment new draw state after row is

pub entry_sound : (entry : Entry) (draw : Draw) (state : State) → IsFitEntry entry → IsDraw draw → IsSound state → IsSound (entry_added entry draw state).0
entry_sound (New new) draw state fit sixteen sound = one_sound new draw state fit sixteen (position_added new draw state) refl sound
entry_sound (Faulty fault) draw state fit sixteen sound = sound

pub entry_moment : (entry : Entry) (draw : Draw) (state : State) → (entry_added entry draw state).0.moment ≡ state.moment
entry_moment (New new) draw state = one_moment new draw state (position_added new draw state) refl
entry_moment (Faulty fault) draw state = refl

pub all_sound : (entries : List Entry) (draw : Draw) (state : State) → AllByRecursion IsFitEntry entries → IsDraw draw → IsSound state → IsSound (all_added entries draw state).0
all_sound [] draw state fit sixteen sound = sound
all_sound (entry ∷ entries) draw state fit sixteen sound = all_sound entries draw (entry_added entry draw state).0 fit.1 sixteen (entry_sound entry draw state fit.0 sixteen sound)

pub all_moment : (entries : List Entry) (draw : Draw) (state : State) → (all_added entries draw state).0.moment ≡ state.moment
all_moment [] draw state = refl
all_moment (entry ∷ entries) draw state = all_moment entries draw (entry_added entry draw state).0 ∙ entry_moment entry draw state

ok_many : (a b : State × List Outcome) → (let all : Result (State × List Outcome) OrderRefusal = Ok a in all ≡ Ok b) → a ≡ b
ok_many a b h = cc

-- where it wasn't refused as a whole, it is what all its entries make
pub many_is : (entries : List Entry) (draw : Draw) (state : State) (made : State × List Outcome) → many_added entries draw state ≡ Ok made → all_added entries draw state ≡ made
unfolding many_added
many_is entries draw state made h = by_count (nat_lt most_entries (length entries)) h
  where
    by_count : (many : Bool) → (if many then Err TooMany else Ok (all_added entries draw state)) ≡ Ok made → all_added entries draw state ≡ made
    by_count true e = absurd (cc)
    by_count false e = ok_many (all_added entries draw state) made e
