use Rattle.std.proofs.Common.{◌≡◌, Bool, true, false, ◌&&◌, sym, ap, ap₂, ◌∙◌}
use Rattle.std.proofs.lemmas.Result.{on_ok_weaker}
use Rattle.model_catalogue.specs.Member.{is_in}
use Rattle.model_rows.specs.declared.rows.Usage.{Usage}
use Rattle.model_rows.specs.Lists.{order_at}
use Rattle.model_rows.specs.Conditions.{is_paid, is_pending, is_in_force}
use Rattle.model_rows.specs.Usage.{stands_as, is_covered_by, is_released}
use Rattle.draft_overlay.specs.Logs.{rows_of}
use Rattle.book_tally.specs.Amounts.{nothing}
use Rattle.draft_counts.specs.CountDelta.{once, sold_as}
use Rattle.draft_counts.proofs.Sums.{ended_sold}
use Rattle.draft_counts.proofs.Values.{more_same, none_more}
use Rattle.draft_counts.proofs.shift.with_position.Goals as goal

-- so many places that are blocked
abbrev blocked_as : Bool → Usage
blocked_as b = record nothing { blocked = once b }

pub returns-then-not-is_in_force-clause-more : goal.returns-then-not-is_in_force-clause-more
returns-then-not-is_in_force-clause-more g c =
    let lists = rows_of c.args.count_base.now.overlay.now in
    let row = c.args.row.now in
    let order = order_at row.order lists in
    let ended : stands_as is_in_force order ≡ false = sym (c.is_in_force.ensures ∙ ap (stands_as is_in_force) c.order-order.ensures) ∙ c.if-not-is_in_force.true in
    more_same _ _ _ _ c.args.count_base.now.catalogue.now.lists.quotas c.args.counts.now c.args.counts.now
    (λ q. ended_sold order (is_in q row.product) (is_released lists q row) ended)
    (λ q. sym (ap (λ (b : Bool). blocked_as (b && is_covered_by lists c.args.count_base.now.at q row.voucher)) ended))
    (none_more c.args.count_base.now.catalogue.now.lists.quotas c.args.counts.now)

pub returns-clause-more : goal.returns-clause-more
returns-clause-more g c =
    let lists = rows_of c.args.count_base.now.overlay.now in
    let row = c.args.row.now in
    let order = order_at row.order lists in
    let force : stands_as is_in_force order ≡ true = sym (c.is_in_force.ensures ∙ ap (stands_as is_in_force) c.order-order.ensures) ∙ c.if-not-is_in_force.false in
    on_ok_weaker c.count_each.result
    (more_same _ _ _ _ c.args.count_base.now.catalogue.now.lists.quotas c.args.counts.now c.count_each.new.counts
    (λ q. ap (λ (b : Bool). sold_as c.is_paid.result c.is_pending.result (is_in q row.product) (q.release_after_exit && b)) c.is_out.ensures
    ∙ ap₂ (λ (a b : Bool). sold_as a b (is_in q row.product) (is_released lists q row)) (c.is_paid.ensures ∙ ap (stands_as is_paid) c.order-order.ensures) (c.is_pending.ensures ∙ ap (stands_as is_pending) c.order-order.ensures))
    (λ q. ap blocked_as (c.voucher_of-voucher.ensures q c.args.count_base.now.at) ∙ sym (ap (λ (b : Bool). blocked_as (b && is_covered_by lists c.args.count_base.now.at q row.voucher)) force)))
    c.count_each.ensures.more
