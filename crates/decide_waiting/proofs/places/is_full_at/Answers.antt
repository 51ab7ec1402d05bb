use Rattle.std.proofs.Common.{◌≡◌, ℕ, Some, rules, ap, ◌∙◌}
use Rattle.model_catalogue.specs.declared.rows.Quota.{Quota}
use Rattle.model_catalogue.specs.CatalogueLists.{quota_at}
use Rattle.draft_changes.specs.DraftState.{now}
use Rattle.model_rows.proofs.EachRow.{key-row_at}
use Rattle.decide_waiting.proofs.places.is_full_at.Goals as goal

pub is_full-requires-clause-stands : goal.is_full-requires-clause-stands
is_full-requires-clause-stands g c =
    let catalogue = (now c.args.draft.now).lists.catalogue in
    let quota = c.in-Some.quota.now in
    let found : quota_at c.args.id catalogue ≡ Some quota = search rules in
    ap (λ (n : ℕ). quota_at n catalogue) (key-row_at (λ (q : Quota). q.id) c.args.id catalogue.quotas quota found) ∙ found
