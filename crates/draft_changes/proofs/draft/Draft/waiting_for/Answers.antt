use Rattle.std.proofs.Common.{sym, ap, ◌∙◌}
use Rattle.model_catalogue.specs.CatalogueLists.{CatalogueLists, quota_at}
use Rattle.model_rows.specs.Lists.{Lists}
use Rattle.draft_counts.proofs.Logs.{sales_catalogue}
use Rattle.draft_changes.specs.DraftState.{DraftState, now}
use Rattle.draft_changes.proofs.draft.Draft.waiting_for.Goals as goal

pub usage_of-requires-clause-stands : goal.usage_of-requires-clause-stands
usage_of-requires-clause-stands g c =
    let log = c.self.inside.overlay in
    let id = c.args.quota.now.id in
    ap (λ (l : Lists). quota_at id l.catalogue) (sym c.self.invariant.base)
    ∙ ap (λ (k : CatalogueLists). quota_at id k) (sym (sales_catalogue log.changes log.base c.recall_invariant.ensures.sales))
    ∙ ap (λ (d : DraftState). quota_at id (now d).lists.catalogue) c.self.view_is
    ∙ c.requires.stands
