use Rattle.std.proofs.Common.{sym, ap, ◌∙◌}
use Rattle.model_catalogue.specs.CatalogueLists.{CatalogueLists, quota_at}
use Rattle.draft_counts.specs.Logs.{Log, rows_of}
use Rattle.draft_counts.proofs.Logs.{sales_catalogue}
use Rattle.draft_changes.specs.DraftState.{DraftState, now}
use Rattle.draft_changes.specs.Used.{places_used}
use Rattle.draft_changes.proofs.draft.Draft.used.Goals as goal

pub used-requires : goal.used-requires
used-requires g c =
    let log = c.self.inside.overlay in
    let id = c.args.quota.now.id in
    ap (λ (l : Log). quota_at id l.base.catalogue) (c.weighing.ensures.overlay ∙ ap (λ (d : DraftState). d.log) (sym c.self.view_is))
    ∙ ap (λ (k : CatalogueLists). quota_at id k) (sym (sales_catalogue log.changes log.base c.recall_invariant.ensures.sales))
    ∙ ap (λ (d : DraftState). quota_at id (now d).lists.catalogue) c.self.view_is
    ∙ c.requires

pub returns : goal.returns
unfolding places_used
returns g c =
    c.used.ensures
    ∙ ap (λ (l : Log). places_used (rows_of l) c.weighing.result.at c.args.quota.now) c.weighing.ensures.overlay
    ∙ ap (λ n. places_used (now c.args.self.now).lists n c.args.quota.now) c.weighing.ensures.at
