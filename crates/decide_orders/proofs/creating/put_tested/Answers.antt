use Rattle.std.proofs.Common.{map, refl, sym, ap, ◌∙◌}
use Rattle.draft_changes.specs.DraftState.{now}
use Rattle.model_rows.specs.declared.rows.Own.TheVariants.{Position}
use Rattle.model_rows.specs.Budgets.{are_within}
use Rattle.model_rows.specs.Over.{first_over}
use Rattle.decide_orders.specs.Places.{sale_test}
use Rattle.decide_orders.proofs.Tested.{created_refused, if_err, sale_tested_since}
use Rattle.decide_orders.proofs.creating.put_tested.Goals as goal

pub returns-clause-refused : goal.returns-clause-refused
returns-clause-refused g c =
    let state = now c.args.draft.now in
    let put = now c.put_all.new.draft in
    let rows = c.args.rows.now in
    let over = first_over state.lists put.lists state.moment (map (λ p. Position p.id) rows) in
    let tested = sale_tested_since c.takes-takes.result c.in_ok-put_all.ensures.extends c.requires.mark c.requires.here c.requires.own refl c.test_sale.ensures in
    let by_takes = tested ∙ ap (sale_test (are_within put.lists rows) over) c.takes-takes.ensures in
    if_err c.test_sale.result _ (λ e failed. created_refused c.args.order.now rows c.args.carts.now state put c.in_ok-put_all.ensures.done (sym by_takes ∙ failed))
