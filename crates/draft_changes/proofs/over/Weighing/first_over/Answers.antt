use Rattle.std.proofs.Common.{◌≡◌, List, ℕ, Option, sym, ap, ◌∙◌, subst}
use Rattle.std.specs.Prelude.{find, option_map, length}
use Rattle.model_catalogue.specs.declared.rows.Quota.{Quota}
use Rattle.model_catalogue.specs.CatalogueLists.{CatalogueLists}
use Rattle.model_rows.specs.Over.{is_over}
use Rattle.draft_counts.specs.Logs.{rows_of, rows_at}
use Rattle.draft_counts.proofs.Logs.{sales_catalogue}
use Rattle.draft_changes.specs.Least.{found_at, IsLeast}
use Rattle.draft_changes.proofs.Overs.{least_over, none_over}
use Rattle.draft_changes.proofs.over.Weighing.first_over.Goals as goal

pub returns-in-None : goal.returns-in-None
returns-in-None g c =
    let w = c.args.self.now in
    let log = w.overlay.now in
    let passes = is_over (rows_at w.count log) (rows_of log) w.at w.own.now in
    let sold : w.quotas.now ≡ (rows_of log).catalogue.quotas = w.sold ∙ ap (λ (k : CatalogueLists). k.quotas) (sym (sales_catalogue log.changes log.base c.recall_invariant.ensures.sales)) in
    let least = subst (λ (o : Option ℕ). IsLeast (found_at (λ q. q.id) passes w.quotas.now) w.counts.now (length w.counts.now) o) c.in-None.is c.least_over.ensures.least in
    sym (none_over passes w.quotas.now w.counts.now least) ∙ ap (λ (qs : List Quota). option_map (λ (q : Quota). q.id) (find passes qs)) sold

pub returns-in-Some : goal.returns-in-Some
returns-in-Some g c =
    let w = c.args.self.now in
    let log = w.overlay.now in
    let passes = is_over (rows_at w.count log) (rows_of log) w.at w.own.now in
    let sold : w.quotas.now ≡ (rows_of log).catalogue.quotas = w.sold ∙ ap (λ (k : CatalogueLists). k.quotas) (sym (sales_catalogue log.changes log.base c.recall_invariant.ensures.sales)) in
    let least = subst (λ (o : Option ℕ). IsLeast (found_at (λ q. q.id) passes w.quotas.now) w.counts.now (length w.counts.now) o) c.in-Some.is c.least_over.ensures.least in
    sym (least_over passes w.quotas.now w.counts.now c.in-Some.place c.index-quotas-place.result least) ∙ ap (λ (qs : List Quota). option_map (λ (q : Quota). q.id) (find passes qs)) sold
