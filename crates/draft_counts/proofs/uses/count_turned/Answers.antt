use mathlib.Core.Bool.{beq}
use Rattle.std.proofs.Common.{◌≡◌, ℕ, Bool, false, sym, ap, ap₂, ◌∙◌}
use Rattle.std.proofs.lemmas.Result.{on_ok_weaker}
use Rattle.model_rows.specs.Lists.{order_at}
use Rattle.model_rows.specs.Conditions.{is_in_force, names}
use Rattle.model_rows.specs.Usage.{stands_as}
use Rattle.draft_overlay.specs.Logs.{rows_of}
use Rattle.draft_overlay.proofs.OfOrder.{purchases_count}
use Rattle.book_usage.specs.OfOrder.{count_ordered}
use Rattle.draft_counts.specs.Uses.{one_discount, ordered_discounts, used_since}
use Rattle.draft_counts.proofs.UseShifts.{equal, force_turns}
use Rattle.draft_counts.proofs.UseCounts.{none_since, same_more, no_more_uses}
use Rattle.draft_counts.proofs.uses.count_turned.Goals as goal

pub returns-then-force-stood-clause-more : goal.returns-then-force-stood-clause-more
returns-then-force-stood-clause-more g c =
    let lists = rows_of c.args.count_base.now.overlay.now in
    let row = c.args.row.now in
    let old = order_at row.id lists in
    let force = c.is_in_force-force.ensures in
    let stood = c.is_in_force-stood.ensures ∙ ap (stands_as is_in_force) c.order.ensures in
    let same : is_in_force row.status ≡ stands_as is_in_force old = sym force ∙ equal _ _ c.if-force-stood.true ∙ stood in
    same_more _ _ _ _ c.args.uses.now c.args.uses.now
    (λ v. none_since (is_in_force row.status) (stands_as is_in_force old) (count_ordered row.id (λ p. names v p.voucher) lists) (ordered_discounts lists row.id v) same)
    (λ v. none_since (stands_as is_in_force old) (is_in_force row.status) (count_ordered row.id (λ p. names v p.voucher) lists) (ordered_discounts lists row.id v) (sym same))
    (no_more_uses c.args.uses.now)

pub returns-clause-more : goal.returns-clause-more
returns-clause-more g c =
    let lists = rows_of c.args.count_base.now.overlay.now in
    let row = c.args.row.now in
    let old = order_at row.id lists in
    let force = c.is_in_force-force.ensures in
    let stood = c.is_in_force-stood.ensures ∙ ap (stands_as is_in_force) c.order.ensures in
    let turns : beq (is_in_force row.status) (stands_as is_in_force old) ≡ false = ap (λ (b : Bool). beq b (stands_as is_in_force old)) (sym force) ∙ ap (beq c.is_in_force-force.result) (sym stood) ∙ c.if-force-stood.false in
    let are = c.requires.turned (force_turns row old turns) in
    let count = λ (v : ℕ). purchases_count row.id lists c.args.purchases.now are (λ t. names v t.voucher) in
    let cents = λ (v : ℕ). are (λ t. one_discount v t.voucher t.discount) in
    on_ok_weaker c.count_names.result
    (same_more _ _ _ _ c.args.uses.now c.count_names.new.uses
    (λ v. ap₂ (used_since c.is_in_force-force.result c.is_in_force-stood.result) (count v) (cents v)
    ∙ ap₂ (λ (a b : Bool). used_since a b (count_ordered row.id (λ p. names v p.voucher) lists) (ordered_discounts lists row.id v)) force stood)
    (λ v. ap₂ (used_since c.is_in_force-stood.result c.is_in_force-force.result) (count v) (cents v)
    ∙ ap₂ (λ (a b : Bool). used_since a b (count_ordered row.id (λ p. names v p.voucher) lists) (ordered_discounts lists row.id v)) stood force))
    c.count_names.ensures.more
