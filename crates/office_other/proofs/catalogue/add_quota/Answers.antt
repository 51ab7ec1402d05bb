use Rattle.std.proofs.Common.{rules, ◌≤◌, arith}
use Rattle.model_catalogue.specs.Limits.{last_id}
use Rattle.office_step.proofs.Catalogue.{quota_id_small}
use Rattle.office_other.proofs.Steps.{timeless}
use Rattle.office_other.proofs.catalogue.add_quota.Goals as goal

pub overflow_add-next : goal.overflow_add-next
overflow_add-next g c =
    let small : c.next_ids-next.result.quota ≤ last_id = quota_id_small _ _ _ _ c.in-Ok.ensures.done in
    omega arith

pub returns-in_ok-list-in-Ok : goal.returns-in_ok-list-in-Ok
returns-in_ok-list-in-Ok g c =
    timeless _ _ c.offered.result _ _ c.offered.ensures.changes c.offered.ensures.reply (λ at. c.offered.ensures.deltas at _) (λ at draw. record { leads = search rules; changes = search rules; refused = search rules })

pub returns-in-Err : goal.returns-in-Err
returns-in-Err g c =
    timeless _ _ c.refused.result _ _ c.refused.ensures.changes c.refused.ensures.reply c.refused.ensures.deltas (λ at draw. record { leads = search rules; changes = search rules; refused = search rules })
