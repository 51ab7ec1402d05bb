-- Changes that are made one after another.
use Rattle.std.proofs.Common.{◌≡◌, List, [], ◌∷◌, ◌++◌, map, sym, ap, ◌∙◌, append_assoc}
use Rattle.std.proofs.lemmas.List.Elements.{filter_map-append}
use Rattle.model_rows.specs.declared.changes.Change.{Change}
use Rattle.model_commands.specs.declared.carts.Outcome.{Outcome}
use Rattle.decide_orders.specs.Bulk.{put_by, bulk_changes}

-- one change more of those that all the rows make
pub one_more : {T : Type 0} (f : T → Change) (old before after : List Change) (row : T) (left rest all : List T) → left ≡ row ∷ rest → after ≡ before ++ f row ∷ [] → before ++ map f left ≡ old ++ map f all → after ++ map f rest ≡ old ++ map f all
one_more f old before after row left rest all is made so_far =
    ap (λ (cs : List Change). cs ++ map f rest) made ∙ append_assoc before (f row ∷ []) (map f rest) ∙ sym (ap (λ rows. before ++ map f rows) is) ∙ so_far

-- one outcome more of a bulk call
pub bulk_more : (old before after : List Change) (outcomes new : List Outcome) (outcome : Outcome) → before ≡ old ++ bulk_changes outcomes → after ≡ before ++ bulk_changes (outcome ∷ []) → new ≡ outcomes ++ outcome ∷ [] → after ≡ old ++ bulk_changes new
bulk_more old before after outcomes new outcome so_far made is =
    made ∙ ap (λ (cs : List Change). cs ++ bulk_changes (outcome ∷ [])) so_far ∙ append_assoc old (bulk_changes outcomes) (bulk_changes (outcome ∷ [])) ∙ ap (λ (cs : List Change). old ++ cs) (sym (ap bulk_changes is ∙ filter_map-append put_by outcomes (outcome ∷ [])))
