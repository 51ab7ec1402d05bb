use Rattle.std.proofs.Common.{◌≡◌, rules, ap, ◌∙◌}
use Rattle.draft_changes.specs.DraftState.{now}
use Rattle.draft_changes.proofs.Standing.{quota_stands}
use Rattle.decide_waiting.proofs.places.places_left.Goals as goal

pub left_of-requires-clause-stands : goal.left_of-requires-clause-stands
left_of-requires-clause-stands g c =
    let lists : c.catalogue-catalogue.result.now.lists ≡ (now c.args.draft.now).lists.catalogue = search rules in
    quota_stands c.catalogue-catalogue.result.now.lists (now c.args.draft.now).lists.catalogue c.quotas-quotas.result.now c.quota-item.result c.loop-quota.quota-index lists (c.quotas-quotas.ensures ∙ ap (λ k. k.quotas) lists) c.recall_invariant.ensures.in_order c.loop-quota-test.true c.quota-item.is
