use Rattle.std.proofs.Common.{ap, ◌∙◌, get_or, set}
use Rattle.model_catalogue.specs.declared.rows.Quota.{Quota}
use Rattle.model_rows.specs.declared.rows.Usage.{Usage}
use Rattle.book_counts_over_time.proofs.TouchedLemmas.{beside_one, beside_gap}
use Rattle.book_counts_over_time.proofs.touched.shift_one.Goals as goal

pub returns-in-Ok-clause-items : goal.returns-in-Ok-clause-items
returns-in-Ok-clause-items g c =
    let f = g.S.UsageUpdate.shift c.args.shift.now in
    let qs = c.args.quotas.now in
    let us = c.args.usages.now.items in
    let at = c.in-Ok.at in
    let q = c.index-quotas-at.result in
    ap (λ (u : Usage). set us at u) (c.shifted.ensures ∙ ap (λ (x : Quota). f x c.index.result.now) c.index-quotas-at.is ∙ ap (λ (u : Usage). f (get_or qs at q) u) c.index.ensures)
    ∙ beside_one (λ (r : Quota). r.id) f c.args.id 0 qs us at q c.index.result.now c.requires.order c.in-Ok.ensures.found c.requires.same

pub returns-in_default-clause-items : goal.returns-in_default-clause-items
returns-in_default-clause-items g c = beside_gap (λ (r : Quota). r.id) (g.S.UsageUpdate.shift c.args.shift.now) c.args.id c.args.quotas.now c.args.usages.now.items _ c.in_default.ensures.absent c.requires.same
