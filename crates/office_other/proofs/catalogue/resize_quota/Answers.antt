use Rattle.std.proofs.Common.{rules}
use Rattle.office_other.proofs.Steps.{timeless}
use Rattle.office_other.proofs.catalogue.resize_quota.Goals as goal

pub returns-in_ok-list-in-Ok : goal.returns-in_ok-list-in-Ok
returns-in_ok-list-in-Ok g c =
    let done = rw c.in-Ok.is at c.resize.ensures.done in
    timeless _ _ c.offered.result _ _ c.offered.ensures.changes c.offered.ensures.reply (λ at. c.offered.ensures.deltas at _) (λ at draw. record { leads = search rules; changes = search rules; refused = search rules })

pub returns-in-Err : goal.returns-in-Err
returns-in-Err g c =
    timeless _ _ c.refused.result _ _ c.refused.ensures.changes c.refused.ensures.reply c.refused.ensures.deltas (λ at draw. record { leads = search rules; changes = search rules; refused = search rules })
