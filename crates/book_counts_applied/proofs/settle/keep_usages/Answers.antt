use Rattle.std.proofs.Common.{refl, map, sym, ap, ◌∙◌}
use Rattle.model_catalogue.specs.declared.rows.Quota.{Quota}
use Rattle.model_catalogue.specs.CatalogueLists.{CatalogueLists}
use Rattle.model_rows.specs.declared.changes.Change.{Change}
use Rattle.model_rows.specs.Change.{after_change}
use Rattle.book_counts_applied.proofs.settle.keep_usages.Goals as goal

pub returns-in-PutQuota-clause-kept : goal.returns-in-PutQuota-clause-kept
returns-in-PutQuota-clause-kept c f none is =
    let quotas = c.quotas.ensures ∙ ap (λ (l : CatalogueLists). l.quotas) c.catalogue-catalogue.ensures in
    let keeps = rw quotas at c.keep_place.ensures.kept in
    keeps f c.in-PutQuota.row refl (none c.in-PutQuota.row.id) is
    ∙ ap (λ (change : Change). map (λ (q : Quota). f q.id) (after_change change c.args.store.now.state.lists).catalogue.quotas) (sym c.in-PutQuota.is)
