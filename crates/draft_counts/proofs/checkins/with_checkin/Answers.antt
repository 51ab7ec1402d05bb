use Rattle.std.proofs.Common.{◌≡◌, true, false, refl, None, Some, option_copied, sym, ap, ◌∙◌}
use Rattle.std.proofs.lemmas.Result.{on_ok_weaker}
use Rattle.model_rows.specs.declared.changes.Change.TheVariants.{PutCheckin}
use Rattle.model_rows.specs.Change.{after_change}
use Rattle.model_rows.specs.Conditions.{is_paid}
use Rattle.model_rows.specs.Lists.{order_at, position_at}
use Rattle.model_rows.specs.Usage.{stands_as}
use Rattle.draft_overlay.specs.Logs.{rows_of}
use Rattle.draft_counts.proofs.Releases.{none_scanned, none_unpaid, is_scanned, none_out}
use Rattle.draft_counts.proofs.Values.{more_same, none_more}
use Rattle.draft_counts.proofs.checkins.with_checkin.Goals as goal

pub returns-in_default-clause-more : goal.returns-in_default-clause-more
returns-in_default-clause-more g c =
    let lists = rows_of c.args.count_base.now.overlay.now in
    let row = c.args.row.now in
    let none : position_at row.position lists ≡ None = sym c.position.ensures ∙ ap option_copied c.in_default.is in
    more_same _ _ _ _ c.args.count_base.now.catalogue.now.lists.quotas c.args.counts.now c.args.counts.now
    (λ q. none_scanned row (after_change (PutCheckin row) lists) q (position_at row.position lists) refl none)
    (λ q. none_scanned row lists q (position_at row.position lists) refl none)
    (none_more c.args.count_base.now.catalogue.now.lists.quotas c.args.counts.now)

pub returns-then-not-is_paid-clause-more : goal.returns-then-not-is_paid-clause-more
returns-then-not-is_paid-clause-more g c =
    let lists = rows_of c.args.count_base.now.overlay.now in
    let row = c.args.row.now in
    let p = c.in-Some.position.now in
    let found : Some p ≡ position_at row.position lists = c.in-Some.ensures in
    let unpaid : stands_as is_paid (order_at p.order lists) ≡ false = sym (c.is_paid.ensures ∙ ap (stands_as is_paid) c.order.ensures) ∙ c.if-not-is_paid.true in
    more_same _ _ _ _ c.args.count_base.now.catalogue.now.lists.quotas c.args.counts.now c.args.counts.now
    (λ q. none_unpaid row (after_change (PutCheckin row) lists) q p found unpaid)
    (λ q. none_unpaid row lists q p found unpaid)
    (none_more c.args.count_base.now.catalogue.now.lists.quotas c.args.counts.now)

pub returns-then-not-gone-clause-more : goal.returns-then-not-gone-clause-more
returns-then-not-gone-clause-more g c =
    let lists = rows_of c.args.count_base.now.overlay.now in
    let row = c.args.row.now in
    let p = c.in-Some.position.now in
    let found : Some p ≡ position_at row.position lists = c.in-Some.ensures in
    let paid : stands_as is_paid (order_at p.order lists) ≡ true = sym (c.is_paid.ensures ∙ ap (stands_as is_paid) c.order.ensures) ∙ c.if-not-is_paid.false in
    more_same _ _ _ _ c.args.count_base.now.catalogue.now.lists.quotas c.args.counts.now c.args.counts.now
    (λ q. none_out row (after_change (PutCheckin row) lists) q p c.is_out_after-come.result found paid c.is_out_after-come.ensures c.if-not-come.true)
    (λ q. none_out row lists q p c.is_out-gone.result found paid c.is_out-gone.ensures c.if-not-gone.true)
    (none_more c.args.count_base.now.catalogue.now.lists.quotas c.args.counts.now)

pub returns-clause-more : goal.returns-clause-more
returns-clause-more g c =
    let lists = rows_of c.args.count_base.now.overlay.now in
    let row = c.args.row.now in
    let p = c.in-Some.position.now in
    let found : Some p ≡ position_at row.position lists = c.in-Some.ensures in
    let paid : stands_as is_paid (order_at p.order lists) ≡ true = sym (c.is_paid.ensures ∙ ap (stands_as is_paid) c.order.ensures) ∙ c.if-not-is_paid.false in
    on_ok_weaker c.count_each.result
    (more_same _ _ _ _ c.args.count_base.now.catalogue.now.lists.quotas c.args.counts.now c.count_each.new.counts
    (λ q. is_scanned row (after_change (PutCheckin row) lists) q p c.is_out_after-come.result found paid c.is_out_after-come.ensures)
    (λ q. is_scanned row lists q p c.is_out-gone.result found paid c.is_out-gone.ensures))
    c.count_each.ensures.more
