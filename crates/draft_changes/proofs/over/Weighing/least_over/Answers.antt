use Rattle.std.proofs.Common.{◌≡◌, List, sym, ap, ap₂, ◌∙◌, subst, arith}
use Rattle.model_catalogue.specs.declared.rows.Quota.{Quota}
use Rattle.model_rows.specs.Over.{is_over}
use Rattle.draft_counts.specs.Logs.{rows_of, rows_at}
use Rattle.book_tally.specs.Amounts.{nothing}
use Rattle.book_tally.proofs.Earlier.{same_at_mark}
use Rattle.draft_counts.specs.Counts.{value_at}
use Rattle.draft_changes.specs.Least.{found_at}
use Rattle.draft_changes.specs.Used.{places_used, usage_raised}
use Rattle.draft_changes.proofs.Overs.{untouched, least_start, least_end, within_over}
use Rattle.draft_changes.proofs.over.Weighing.least_over.Goals as goal

pub loop-i-init : goal.loop-i-init
loop-i-init g c =
    let w = c.args.self.now in
    let log = w.overlay.now in
    let at = w.at in
    let counts = w.counts.now in
    let before = rows_at w.count log in
    least_start (found_at (λ q. q.id) (is_over before (rows_of log) at w.own.now) w.quotas.now) counts w.mark
    (λ place lt.
    let come = same_at_mark nothing (λ r. r.come) counts w.mark place w.within lt in
    let gone = same_at_mark nothing (λ r. r.gone) counts w.mark place w.within lt in
    let same : value_at 0 (places_used before at) log.base.catalogue.quotas place ≡ value_at 0 (places_used (rows_of log) at) log.base.catalogue.quotas place = omega (arith, w.counted place, w.counted_before place, ap₂ usage_raised come gone, ap₂ usage_raised gone come) in
    untouched before (rows_of log) at w.own.now w.quotas.now place (subst (λ (qs : List Quota). value_at 0 (places_used before at) qs place ≡ value_at 0 (places_used (rows_of log) at) qs place) (sym w.sold) same))

pub returns-clause-within : goal.returns-clause-within
returns-clause-within g c =
    let w = c.args.self.now in
    let log = w.overlay.now in
    within_over (is_over (rows_at w.count log) (rows_of log) w.at w.own.now) w.quotas.now w.counts.now c.loop-i.least c.loop-i.i c.loop-i.invariant

pub returns-clause-least : goal.returns-clause-least
returns-clause-least g c =
    let w = c.args.self.now in
    let log = w.overlay.now in
    least_end (found_at (λ q. q.id) (is_over (rows_at w.count log) (rows_of log) w.at w.own.now) w.quotas.now) w.counts.now c.loop-i.i c.loop-i.least (omega arith) c.loop-i.invariant
