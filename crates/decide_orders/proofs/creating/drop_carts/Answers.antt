use Rattle.std.proofs.Common.{◌≡◌, ◌+◌, ◌∷◌, ℕ, List, drop, get_or, sym, ap, ◌∙◌}
use Rattle.std.proofs.lemmas.List.{drop_more}
use Rattle.model_rows.specs.Change.{without_carts}
use Rattle.model_rows.specs.declared.changes.Change.TheVariants.{DropCart}
use Rattle.draft_changes.specs.DraftState.{DraftState, now}
use Rattle.draft_changes.proofs.Extensions.{extends_both}
use Rattle.decide_orders.proofs.Logs.{one_more}
use Rattle.decide_orders.proofs.creating.drop_carts.Goals as goal

pub loop-id-preserved : goal.loop-id-preserved
loop-id-preserved g c =
    let i = c.loop-id.id-index in
    let ids = c.args.ids.now in
    let id = get_or ids i 0 in
    let before = c.loop-id.draft in
    let after = c.drop_cart.new.self in
    let left : drop i ids ≡ id ∷ drop (i + 1) ids = drop_more ids i 0 c.loop-id-test.true in
    record {
      rest = ap (without_carts (drop (i + 1) ids)) c.in_ok-drop_cart.ensures.ok ∙ sym (ap (λ (l : List ℕ). without_carts l (now before)) left) ∙ c.loop-id.invariant.rest;
      changes = one_more (λ (k : ℕ). DropCart k) c.args.draft.now.log.changes before.log.changes after.log.changes id (drop i ids) (drop (i + 1) ids) ids left (ap (λ (d : DraftState). d.log.changes) c.in_ok-drop_cart.ensures.log) c.loop-id.invariant.changes;
      extends = extends_both c.loop-id.invariant.extends c.in_ok-drop_cart.ensures.extends;
    }
