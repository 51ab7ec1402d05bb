use Rattle.std.proofs.Common.{◌≡◌, true, false, [], length, count_by, Option, Some, sym, ap, ◌∙◌}
use Rattle.std.proofs.Common.{arith}
use Rattle.std.proofs.lemmas.Bool.Decides.{nat_tests}
use Rattle.std.proofs.lemmas.List.{nil_from_length}
use Rattle.std.proofs.lemmas.Result.{on_ok_weaker}
use Rattle.model_catalogue.specs.declared.rows.Quota.{Quota}
use Rattle.model_catalogue.specs.Member.{is_in}
use Rattle.model_rows.specs.declared.rows.Order.{Order}
use Rattle.model_rows.specs.Lists.{order_at}
use Rattle.model_rows.specs.Usage.{is_covered_by}
use Rattle.draft_overlay.specs.declared.purchases.Purchase.{Purchase}
use Rattle.draft_overlay.specs.Logs.{rows_of}
use Rattle.draft_overlay.proofs.OfOrder.{purchases_count}
use Rattle.draft_counts.specs.CountDelta.{order_counts, order_side, keeps_status, ordered_in, ordered_covered, released_in, is_free_in}
use Rattle.draft_counts.proofs.Sums.{none_ordered, same_counts, none_kept, some_kept}
use Rattle.draft_counts.proofs.Values.{more_same, none_more}
use Rattle.draft_counts.proofs.orders.with_order.Goals as goal

pub returns-then-keeps_status-clause-more : goal.returns-then-keeps_status-clause-more
returns-then-keeps_status-clause-more g c =
    let lists = rows_of c.args.count_base.now.overlay.now in
    let row = c.args.row.now in
    let old = order_at row.id lists in
    let kept : keeps_status row old ≡ true = sym (c.keeps_status.ensures ∙ ap (keeps_status row) c.order-gone.ensures) ∙ c.if-keeps_status.true in
    more_same _ _ _ _ c.args.count_base.now.catalogue.now.lists.quotas c.args.counts.now c.args.counts.now
    (λ q. none_kept (keeps_status row old) (order_side lists c.args.count_base.now.at q row.id (Some row) old) kept)
    (λ q. none_kept (keeps_status row old) (order_side lists c.args.count_base.now.at q row.id old (Some row)) kept)
    (none_more c.args.count_base.now.catalogue.now.lists.quotas c.args.counts.now)

pub returns-then-is_empty-clause-more : goal.returns-then-is_empty-clause-more
returns-then-is_empty-clause-more g c =
    let lists = rows_of c.args.count_base.now.overlay.now in
    let at = c.args.count_base.now.at in
    let row = c.args.row.now in
    let old = order_at row.id lists in
    let turns : keeps_status row old ≡ false = sym (c.keeps_status.ensures ∙ ap (keeps_status row) c.order-gone.ensures) ∙ c.if-keeps_status.false in
    let count = purchases_count row.id lists c.args.purchases.now (c.requires.turned turns) in
    let few : length c.args.purchases.now ≡ 0 = grind (arith, nat_tests) in
    let none : c.args.purchases.now ≡ [] = nil_from_length c.args.purchases.now few in
    let here : (q : Quota) → ordered_in lists q row.id ≡ 0 = λ q. sym (count (λ t. is_in q t.product)) ∙ ap (count_by (λ (t : Purchase). is_in q t.product)) none in
    let covered : (q : Quota) → ordered_covered lists at q row.id ≡ 0 = λ q. sym (count (λ t. is_covered_by lists at q t.voucher)) ∙ ap (count_by (λ (t : Purchase). is_covered_by lists at q t.voucher)) none in
    let released : (q : Quota) → released_in lists q row.id ≡ 0 = λ q. sym (count (λ t. is_free_in q t.product t.out)) ∙ ap (count_by (λ (t : Purchase). is_free_in q t.product t.out)) none in
    more_same _ _ _ _ c.args.count_base.now.catalogue.now.lists.quotas c.args.counts.now c.args.counts.now
    (λ q. sym (same_counts (Some row) old (here q) (covered q) (released q) ∙ none_ordered (Some row) old) ∙ some_kept (keeps_status row old) (order_side lists at q row.id (Some row) old) turns)
    (λ q. sym (same_counts old (Some row) (here q) (covered q) (released q) ∙ none_ordered old (Some row)) ∙ some_kept (keeps_status row old) (order_side lists at q row.id old (Some row)) turns)
    (none_more c.args.count_base.now.catalogue.now.lists.quotas c.args.counts.now)

pub returns-clause-more : goal.returns-clause-more
returns-clause-more g c =
    let lists = rows_of c.args.count_base.now.overlay.now in
    let at = c.args.count_base.now.at in
    let row = c.args.row.now in
    let old = order_at row.id lists in
    let turns : keeps_status row old ≡ false = sym (c.keeps_status.ensures ∙ ap (keeps_status row) c.order-gone.ensures) ∙ c.if-keeps_status.false in
    let count = purchases_count row.id lists c.args.purchases.now (c.requires.turned turns) in
    let here = λ (q : Quota). c.in_ok-spots.ensures.here q ∙ count (λ t. is_in q t.product) in
    let covered = λ (q : Quota). c.in_ok-spots.ensures.covered q at ∙ count (λ t. is_covered_by lists at q t.voucher) in
    let released = λ (q : Quota). c.in_ok-spots.ensures.released q ∙ count (λ t. is_free_in q t.product t.out) in
    on_ok_weaker c.count_each.result
    (more_same _ _ _ _ c.args.count_base.now.catalogue.now.lists.quotas c.args.counts.now c.count_each.new.counts
    (λ q. same_counts (Some row) _ (here q) (covered q) (released q)
    ∙ ap (λ (o : Option Order). order_counts (Some row) o (ordered_in lists q row.id) (ordered_covered lists at q row.id) (released_in lists q row.id)) c.order-gone.ensures
    ∙ some_kept (keeps_status row old) (order_side lists at q row.id (Some row) old) turns)
    (λ q. same_counts _ (Some row) (here q) (covered q) (released q)
    ∙ ap (λ (o : Option Order). order_counts o (Some row) (ordered_in lists q row.id) (ordered_covered lists at q row.id) (released_in lists q row.id)) c.order-gone.ensures
    ∙ some_kept (keeps_status row old) (order_side lists at q row.id old (Some row)) turns))
    c.count_each.ensures.more
