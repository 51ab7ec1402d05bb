-- What entries of a bulk call do, one after another.
use Rattle.std.proofs.Common.{◌≡◌, List, [], ◌∷◌, Result, Ok, Err, refl, sym, ap, ◌∙◌, append_assoc}
use Rattle.std.specs.Prelude.{◌++◌}
use Rattle.base_values.specs.declared.draw.Draw.{Draw}
use Rattle.model_rows.specs.declared.rows.CartPos.{CartPos}
use Rattle.model_rows.specs.Lists.{State}
use Rattle.model_commands.specs.declared.carts.NewCart.{NewCart}
use Rattle.model_commands.specs.declared.carts.Entry.{Entry}
use Rattle.model_commands.specs.declared.carts.Entry.TheVariants.{New, Faulty}
use Rattle.model_commands.specs.declared.carts.Outcome.{Outcome}
use Rattle.model_commands.specs.declared.orders.OrderRefusal.{OrderRefusal}
use Rattle.decide_orders.specs.Bulk.{entry_added, with_outcome, all_added}
use Rattle.decide_orders.specs.Steps.{after_outcomes}

-- entries one after another are those in front, and then the others
pub all_joined : (xs ys : List Entry) (draw : Draw) (state : State) → all_added (xs ++ ys) draw state ≡ after_outcomes (all_added xs draw state).1 (all_added ys draw (all_added xs draw state).0)
all_joined [] ys draw state = refl
all_joined (x ∷ xs) ys draw state = ap (with_outcome (entry_added x draw state).1) (all_joined xs ys draw (entry_added x draw state).0)

-- one entry more
pub entry_joined : (outcomes new : List Outcome) (outcome : Outcome) (entry : Entry) (all rest : List Entry) (draw : Draw) (before after : State) → all ≡ entry ∷ rest → entry_added entry draw before ≡ (after, outcome) → new ≡ outcomes ++ outcome ∷ [] → after_outcomes new (all_added rest draw after) ≡ after_outcomes outcomes (all_added all draw before)
entry_joined outcomes new outcome entry all rest draw before after left made joined =
    let more = all_added rest draw after in
    ap (λ (os : List Outcome). after_outcomes os more) joined
    ∙ ap (λ (os : List Outcome). (more.0, os)) (append_assoc outcomes (outcome ∷ []) more.1)
    ∙ ap (λ (m : State × Outcome). after_outcomes outcomes (with_outcome m.1 (all_added rest draw m.0))) (sym made)
    ∙ ap (λ (es : List Entry). after_outcomes outcomes (all_added es draw before)) (sym left)
