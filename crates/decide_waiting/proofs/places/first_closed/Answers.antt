use Rattle.std.proofs.Common.{◌≡◌, ℕ, ◌+◌, ◌∷◌, List, drop, length, ◌<◌, rules, sym, ap, ◌∙◌, subst, arith}
use Rattle.std.specs.Prelude.{find}
use Rattle.std.proofs.lemmas.List.{drop_more}
use Rattle.base_tables.specs.Tables.{AreInOrder}
use Rattle.model_catalogue.specs.CatalogueLists.{CatalogueLists}
use Rattle.model_catalogue.specs.Kept.{quotas_of}
use Rattle.draft_changes.specs.DraftState.{now}
use Rattle.decide_waiting.specs.Steps.{is_full_at}
use Rattle.decide_waiting.proofs.Closed.{found_here, found_later, first_by_ids}
use Rattle.decide_waiting.proofs.places.first_closed.Goals as goal

pub loop-place-init : goal.loop-place-init
loop-place-init g c =
    let state = now c.args.draft.now in
    let product = c.args.product in
    let lists : c.catalogue-catalogue.result.now.lists ≡ state.lists.catalogue = search rules in
    ap (λ (ids : List ℕ). find (is_full_at state) ids) (c.quotas_with-quotas.ensures ∙ ap (λ (l : CatalogueLists). quotas_of product l) lists)
    ∙ first_by_ids state product (subst (λ (l : CatalogueLists). AreInOrder (λ q. q.id) l.quotas) lists c.recall_invariant.ensures.in_order)

pub returns-then-is_full_at : goal.returns-then-is_full_at
returns-then-is_full_at g c =
    let ids = c.quotas_with-quotas.result in
    let i = c.loop-place.place in
    let id = c.at-id.result in
    let below : i < length ids = omega (arith, c.loop-place-test.true, c.len-place-end.ensures) in
    let here : drop i ids ≡ id ∷ drop (i + 1) ids = drop_more ids i 0 below ∙ ap (λ (n : ℕ). n ∷ drop (i + 1) ids) (c.at-id.ensures 0) in
    sym (found_here (is_full_at (now c.args.draft.now)) ids i id here (sym c.is_full_at.ensures ∙ c.if-is_full_at.true)) ∙ c.loop-place.invariant

pub loop-place-preserved : goal.loop-place-preserved
loop-place-preserved g c =
    let ids = c.quotas_with-quotas.result in
    let i = c.loop-place.place in
    let id = c.at-id.result in
    let below : i < length ids = omega (arith, c.loop-place-test.true, c.len-place-end.ensures) in
    let here : drop i ids ≡ id ∷ drop (i + 1) ids = drop_more ids i 0 below ∙ ap (λ (n : ℕ). n ∷ drop (i + 1) ids) (c.at-id.ensures 0) in
    found_later (is_full_at (now c.args.draft.now)) ids i id here (sym c.is_full_at.ensures ∙ c.if-is_full_at.false) ∙ c.loop-place.invariant
