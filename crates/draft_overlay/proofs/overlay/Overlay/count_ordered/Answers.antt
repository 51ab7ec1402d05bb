use Rattle.std.proofs.Common.{◌≡◌, Bool, ◌&&◌, eqb, take, ap, ◌∙◌, subst, count_by, arith}
use Rattle.model_rows.specs.declared.rows.OrderPos.{OrderPos}
use Rattle.model_rows.specs.Kept.{IsKept}
use Rattle.draft_overlay.specs.Logs.{Log, AreSales}
use Rattle.draft_overlay.proofs.Sales.{sales_front, sales_count}
use Rattle.draft_overlay.proofs.overlay.Overlay.count_ordered.Goals as goal

pub returns-clause-value : goal.returns-clause-value
returns-clause-value g c =
    let log = c.args.self.now in
    let passes : OrderPos → Bool = λ p. eqb c.args.order p.order && g.T.PositionTest.passes c.args.test.now p in
    let sales = subst (λ (l : Log). AreSales l.changes l.base) c.self.view_is c.self.invariant.sales in
    let kept = subst (λ (l : Log). IsKept 4294967296 l.base) c.self.view_is c.recall_invariant.ensures in
    let here : c.count_ordered-kept.result ≡ count_by passes log.base.positions = c.count_ordered-kept.ensures.value ∙ ap (λ (l : Log). count_by passes l.base.positions) c.self.view_is in
    omega (arith, here, c.count_put.ensures.value, sales_count passes 4294967296 (take c.args.i log.changes) log.base kept (sales_front c.args.i log.changes log.base sales))
