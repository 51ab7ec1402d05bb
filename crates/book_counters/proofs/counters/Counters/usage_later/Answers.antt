use Rattle.std.proofs.Common.{◌≡◌, ap, sym, ◌∙◌, arith}
use Rattle.base_tables.specs.Tables.{AreInOrder}
use Rattle.base_tables.proofs.Places.{row_at_gap}
use Rattle.model_catalogue.specs.CatalogueLists.{CatalogueLists}
use Rattle.model_rows.specs.Usage.{usage_of}
use Rattle.book_counts_over_time.proofs.Later.{time_is}
use Rattle.book_counts_over_time.proofs.UsageUpdateLemmas.{kept_usage}
use Rattle.book_counters.proofs.counters.Counters.usage_later.Goals as goal

pub returns-in-Ok-clause-value : goal.returns-in-Ok-clause-value
returns-in-Ok-clause-value g c =
    let state = c.self.inside.store.state in
    let lists = c.self.inside.store.state.lists in
    let quota = c.args.quota.now in
    let quotas = c.quotas.ensures ∙ ap (λ (catalogue : CatalogueLists). catalogue.quotas) c.catalogue-catalogue.ensures in
    let order : AreInOrder (λ r. r.id) lists.catalogue.quotas = rw c.catalogue-catalogue.ensures at c.recall_invariant-2.ensures.in_order in
    let place = rw quotas at c.in-Ok.ensures.found in
    let stands = rw (← c.self.view_is) at c.requires.stands in
    let moment = rw (← c.self.view_is) at c.requires.moment in
    let kept : c.index.result.now ≡ usage_of lists state.moment quota = c.index.ensures ∙ kept_usage (usage_of lists state.moment) lists.catalogue.quotas c.self.inside.counted.usages.items quota c.in-Ok.place _ c.self.invariant.usages order place stands in
    let value = rw c.of-ended.ensures at c.later.ensures.value in
    rw (← c.self.view_is) (value ∙ time_is quota lists state.moment c.args.at moment c.recall_invariant.ensures c.index.result.now kept c.later.ensures.fits)

pub returns-in-Err-clause-value : goal.returns-in-Err-clause-value
returns-in-Err-clause-value g c =
    let lists = c.self.inside.store.state.lists in
    let quotas = c.quotas.ensures ∙ ap (λ (catalogue : CatalogueLists). catalogue.quotas) c.catalogue-catalogue.ensures in
    let gap = rw quotas at c.in-Err.ensures.absent in
    let stands = rw (← c.self.view_is) at c.requires.stands in
    absurd (cc (sym (row_at_gap (λ r. r.id) lists.catalogue.quotas c.args.quota.now.id _ gap) ∙ stands))

pub returns-in-Ok-clause-cost : goal.returns-in-Ok-clause-cost
returns-in-Ok-clause-cost g c =
    let cost = rw c.of-ended.ensures at c.later.ensures.cost in
    rw (← c.self.view_is) (omega (arith, cost))

pub later-requires-clause-redeems : goal.later-requires-clause-redeems
later-requires-clause-redeems g c = rw c.of-ended.ensures (c.deref.ensures.value ∙ c.self.invariant.redeems)
