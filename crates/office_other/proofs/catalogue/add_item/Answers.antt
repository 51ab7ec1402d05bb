use Rattle.std.proofs.Common.{rules, ◌+◌, ◌≤◌, List, length, sym, ◌∙◌, subst, arith}
use Rattle.model_catalogue.specs.Limits.{last_id}
use Rattle.model_rows.specs.declared.changes.Change.{Change}
use Rattle.office_step.specs.IsStep.{AreOfCatalogue}
use Rattle.office_step.proofs.ForSale.{variations_offered}
use Rattle.office_step.proofs.Catalogue.{item_id_small, variation_ids_small}
use Rattle.office_other.proofs.Steps.{timeless}
use Rattle.office_other.proofs.catalogue.add_item.Goals as goal

pub overflow_add-next : goal.overflow_add-next
overflow_add-next g c =
    let small : c.next_ids-next.result.item ≤ last_id = item_id_small _ _ _ _ _ c.in-Ok.ensures.done in
    omega arith

pub overflow_add-next-in-Ok : goal.overflow_add-next-in-Ok
overflow_add-next-in-Ok g c =
    let small : c.next_ids-next.result.variation + length c.in-Ok.rows.variations ≤ last_id + 1 = variation_ids_small _ _ _ _ _ c.in-Ok.ensures.done in
    rw c.as_slice.ensures (omega arith)

pub offered-requires : goal.offered-requires
offered-requires g c =
    subst (λ (l : List Change). AreOfCatalogue l) (sym (c.new.ensures.list ∙ c.in_ok-list-in-Ok.ensures)) (variations_offered c.in-Ok.rows.variations)

pub returns-in_ok-list-in-Ok : goal.returns-in_ok-list-in-Ok
returns-in_ok-list-in-Ok g c =
    timeless _ _ c.offered.result _ _ c.offered.ensures.changes c.offered.ensures.reply (λ at. c.offered.ensures.deltas at _) (λ at draw. record { leads = search rules; changes = search rules; refused = search rules })

pub returns-in-Err : goal.returns-in-Err
returns-in-Err g c =
    timeless _ _ c.refused.result _ _ c.refused.ensures.changes c.refused.ensures.reply c.refused.ensures.deltas (λ at draw. record { leads = search rules; changes = search rules; refused = search rules })
