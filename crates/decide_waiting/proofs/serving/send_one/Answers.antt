use Rattle.std.proofs.Common.{◌≡◌, ◌+◌, List, Some, map, length, rules, sym, ap, ◌∙◌, subst}
use Rattle.model_catalogue.specs.CatalogueLists.{CatalogueLists}
use Rattle.model_catalogue.specs.declared.rows.Quota.{Quota}
use Rattle.draft_changes.specs.DraftState.{now}
use Rattle.model_rows.specs.Lists.{State, waiting_at}
use Rattle.decide_waiting.specs.Places.{used_unwaited}
use Rattle.decide_waiting.specs.Steps.{places_left, first_without_place, all_after_one}
use Rattle.decide_waiting.specs.Sending.{place_in}
use Rattle.decide_waiting.proofs.Closed.{first_by_left, all_left_after, left_long}
use Rattle.decide_waiting.proofs.Leaves.{own_place}
use Rattle.decide_waiting.proofs.Sent.{sent_to_is}
use Rattle.decide_waiting.proofs.Trades.{sent_unwaited}
use Rattle.decide_waiting.proofs.serving.send_one.Goals as goal

pub send_to-requires-clause-closed : goal.send_to-requires-clause-closed
send_to-requires-clause-closed g c =
    let state = now c.args.draft.now in
    let entry = c.in_ok-entry-in-Some.entry in
    let left = c.deref.ensures.value ∙ c.requires.left in
    let lists : c.catalogue.result.now.lists ≡ state.lists.catalogue = search rules in
    let quotas = c.quotas.ensures ∙ ap (λ (l : CatalogueLists). l.quotas) lists in
    c.first_without_place-closed.ensures ∙ (λ i. first_without_place entry.product (left i) (quotas i)) ∙ first_by_left state entry.product

pub all_after_one-requires : goal.all_after_one-requires
all_after_one-requires g c =
    let state = now c.args.draft.now in
    let after = now c.send_to.new.draft in
    let entry = c.in_ok-entry-in-Some.entry in
    let s = sent_to_is c.args.id c.args.draw state after c.in-Ok.row entry c.in-Ok.ensures.done in
    let left = c.deref-in-Ok.ensures.value ∙ c.requires.left in
    let lists : c.catalogue-in-Ok.result.now.lists ≡ after.lists.catalogue = search rules in
    let quotas = c.quotas-in-Ok.ensures ∙ ap (λ (l : CatalogueLists). l.quotas) (lists ∙ ap (λ (s : State). s.lists.catalogue) (sym s.is_after)) in
    ap length left ∙ left_long state state.lists.catalogue.quotas ∙ ap length (sym quotas)

pub returns-in_ok-push-in-Ok-clause-left : goal.returns-in_ok-push-in-Ok-clause-left
returns-in_ok-push-in-Ok-clause-left g c =
    let state = now c.args.draft.now in
    let after = now c.send_to.new.draft in
    let entry = c.in_ok-entry-in-Some.entry in
    let product = entry.product in
    let stands : waiting_at c.args.id state.lists ≡ Some entry = search rules in
    let s = sent_to_is c.args.id c.args.draw state after c.in-Ok.row entry c.in-Ok.ensures.done in
    let left = c.deref-in-Ok.ensures.value ∙ c.requires.left in
    let same = ap (λ (s : State). s.lists.catalogue.quotas) (sym s.is_after) in
    let lists : c.catalogue-in-Ok.result.now.lists ≡ after.lists.catalogue = search rules in
    let quotas = c.quotas-in-Ok.ensures ∙ ap (λ (l : CatalogueLists). l.quotas) lists ∙ same in
    let more : (q : Quota) → used_unwaited after q ≡ used_unwaited state q + place_in q product = λ q. subst (λ (a : State). used_unwaited a q ≡ used_unwaited state q + place_in q product) s.is_after (sent_unwaited c.args.draw state entry c.requires.can q (own_place c.args.id state entry stands) s.waits) in
    c.in_ok-left-in-Ok.ensures
    ∙ (λ i. all_after_one product (left i) (quotas i))
    ∙ all_left_after state product after more state.lists.catalogue.quotas
    ∙ ap (λ (l : List Quota). map (places_left after) l) (sym same)
