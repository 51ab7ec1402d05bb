-- The messages of a run are those of the whole stream.
use Rattle.std.proofs.Common.{◌≡◌, ℕ, List, ◌++◌, Option, Some, None, inl, inr, sym, ap, ◌∙◌, subst, append-nil}
use Rattle.base_devices.specs.Reported.{Gives}
use Rattle.web_http.specs.Messages.{Messages}
use Rattle.web_connection.specs.Run.{Item, AreAll}

of_the_whole : (all front rest : List ℕ) (items : List Item) → all ≡ front ++ rest → AreAll front (Some rest) items → Messages all items
of_the_whole all front rest items is (inl always) = subst (λ (t : List ℕ). Messages t items) (sym is) (always rest)
of_the_whole all front rest items is (inr (these, ended)) =
    subst (λ (t : List ℕ). Messages t items) (sym (is ∙ (ap (λ (t : List ℕ). front ++ t) ended ∙ append-nil front))) these

pub all_answered : (all front : List ℕ) (after : Option (List ℕ)) (items : List Item) → Gives (Some all) front after → AreAll front after items → Messages all items
all_answered all front None items gives are = absurd gives
all_answered all front (Some rest) items gives are = of_the_whole all front rest items gives are
