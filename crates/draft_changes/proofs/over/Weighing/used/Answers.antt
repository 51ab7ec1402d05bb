use Rattle.std.proofs.Common.{◌≡◌, List, get_or, Some, sym, ap, ap₂, ◌∙◌, subst, arith}
use Rattle.base_tables.specs.Tables.{AreInOrder, row_at}
use Rattle.base_tables.proofs.Places.{row_at_place, row_at_gap}
use Rattle.model_catalogue.specs.declared.rows.Quota.{Quota}
use Rattle.model_catalogue.specs.CatalogueLists.{CatalogueLists}
use Rattle.model_rows.specs.Lists.{Lists}
use Rattle.draft_counts.specs.Logs.{rows_of}
use Rattle.draft_changes.specs.Used.{places_used, usage_raised}
use Rattle.draft_changes.proofs.Standing.{value_there}
use Rattle.draft_changes.proofs.over.Weighing.used.Goals as goal

pub returns-in-Ok : goal.returns-in-Ok
returns-in-Ok g c =
    let w = c.args.self.now in
    let log = w.overlay.now in
    let quota = c.args.quota.now in
    let place = c.in-Ok.place in
    let quotas = w.quotas.now in
    let sold : c.catalogue.result.now.lists.quotas ≡ quotas =
    ap (λ (k : CatalogueLists). k.quotas) c.catalogue.ensures ∙ ap (λ (l : Lists). l.catalogue.quotas) (sym w.base) ∙ sym w.sold in
    let sorted : AreInOrder (λ (q : Quota). q.id) quotas = subst (λ (l : List Quota). AreInOrder (λ q. q.id) l) sold c.recall_invariant.ensures.in_order in
    let found : Some (get_or quotas place quota) ≡ Some quota =
    sym (row_at_place (λ (q : Quota). q.id) 0 quotas quota.id place quota sorted c.in-Ok.ensures.found) ∙ ap (λ (l : List Quota). row_at (λ q. q.id) quota.id l) w.sold ∙ c.requires in
    let here : get_or quotas place quota ≡ quota = cc found in
    let base : c.base_of.result ≡ places_used log.base w.at quota = c.base_of.ensures.value quota ∙ ap (places_used log.base w.at) here in
    let value = λ (l : Lists). value_there (places_used l w.at) quotas log.base.catalogue.quotas place quota w.sold c.in-Ok.ensures.found.in_range (sym here) in
    omega (arith, w.counted place, value (rows_of log), value log.base, base, c.moved.ensures, ap₂ usage_raised c.of-count.ensures.come c.of-count.ensures.gone, ap₂ usage_raised c.of-count.ensures.gone c.of-count.ensures.come)

pub returns-in-Err : goal.returns-in-Err
returns-in-Err g c =
    let w = c.args.self.now in
    let quota = c.args.quota.now in
    let none = row_at_gap (λ (q : Quota). q.id) w.quotas.now quota.id _ c.in-Err.ensures.absent in
    absurd (cc (sym none ∙ ap (λ (l : List Quota). row_at (λ q. q.id) quota.id l) w.sold ∙ c.requires))
