-- Whole lists of arrivals.
use Rattle.std.proofs.Common.{◌≡◌, List, [], ◌∷◌, ◌++◌, refl, sym, ap, ap₂, ◌∙◌, subst, append_assoc, append-nil}
use Rattle.base_values.specs.declared.answer.Answer.{Answer}
use Rattle.base_values.specs.declared.answer.Answer.TheVariants.{Decided, Unavailable}
use Rattle.base_values.specs.declared.answer.Response.{Response}
use Rattle.model_commands.specs.declared.replies.Reply.{Reply}
use Rattle.office_deliveries.specs.declared.arrival.Arrival.{Arrival}
use Rattle.office_deliveries.specs.Deliveries.{came, Delivery, Opening, answer_told, told_after}
use Rattle.office_deliveries.specs.Shops.{arrival_delivered, delivered_all, Serves, ServesAll, Stands}
use Rattle.model_answers.specs.ShopView.{ShopView}
use Rattle.office_deliveries.proofs.Stood.{stands-served, told-served, stands-unavailable}

pub one_more : (words : Reply → Response) (p : Opening) (ds : List Delivery) (old : ShopView) (a : Arrival) (answer : Answer) (new : ShopView)
    → Stands words p ds old → Serves words a old answer new → Stands words p (ds ++ arrival_delivered a answer ∷ []) new × (answer_told words p ds (arrival_delivered a answer) ≡ answer)
one_more words p ds old a (Decided t) new stands (is, said) = (
  subst (λ (s : ShopView). Stands words p (ds ++ came a ∷ []) s) (sym is) (stands-served words p ds old stands a),
  told-served words p ds old stands a ∙ ap (λ (x : Response). let answer : Answer = Decided x in answer) (sym said),
)
one_more words p ds old a Unavailable new stands same =
    (stands-unavailable words p ds new (subst (λ (s : ShopView). Stands words p ds s) (sym same) stands) a, refl)

pub all_more : (words : Reply → Response) (p : Opening) (ds : List Delivery) (old : ShopView) (arrivals : List Arrival) (answers : List Answer) (new : ShopView)
    → Stands words p ds old → ServesAll words arrivals old answers new
    → Stands words p (ds ++ delivered_all arrivals answers) new × (told_after words p ds (delivered_all arrivals answers) ≡ answers)
all_more words p ds old [] [] new stands same =
    (subst (λ (es : List Delivery). Stands words p es new) (sym (append-nil ds)) (subst (λ (s : ShopView). Stands words p ds s) (sym same) stands), refl)
all_more words p ds old [] (answer ∷ answers) new stands x = absurd x
all_more words p ds old (a ∷ more) [] new stands x = absurd x
all_more words p ds old (a ∷ more) (answer ∷ answers) new stands (mid, serves, x) =
    let first = one_more words p ds old a answer mid stands serves in
    let others = all_more words p (ds ++ arrival_delivered a answer ∷ []) mid more answers new first.0 x in (
      subst (λ (es : List Delivery). Stands words p es new) (append_assoc ds (arrival_delivered a answer ∷ []) (delivered_all more answers)) others.0,
      ap₂ (λ (t : Answer) (ts : List Answer). t ∷ ts) first.1 others.1,
    )
