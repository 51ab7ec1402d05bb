use Rattle.std.proofs.Common.{◌≡◌, ℕ, eqb, map, sym, ap, ◌∙◌, subst, sum_by, arith}
use Rattle.std.specs.Prelude.{if◌then◌else◌}
use Rattle.model_rows.specs.declared.rows.OrderPos.{OrderPos}
use Rattle.model_rows.specs.Kept.{IsKept}
use Rattle.model_rows.specs.Lists.{positions_of}
use Rattle.draft_overlay.specs.Logs.{Log, AreSales, rows_of}
use Rattle.draft_overlay.specs.Purchases.{purchase, weighs}
use Rattle.draft_overlay.proofs.OfOrder.{of_order}
use Rattle.draft_overlay.proofs.Sales.{sales_sum}
use Rattle.draft_overlay.proofs.Still.{positions_still}
use Rattle.draft_overlay.proofs.overlay.Overlay.purchases_of.Goals as goal

pub returns-then-not-puts_positions : goal.returns-then-not-puts_positions
returns-then-not-puts_positions g c weight =
    let log = c.args.self.now in
    let lists = rows_of log in
    let order = c.args.order in
    let own : OrderPos → ℕ = λ p. if eqb order p.order then weight (purchase lists p) else 0 in
    let rows : c.as_slice.result.now ≡ positions_of order log.base = c.as_slice.ensures ∙ c.in_ok-rows.ensures ∙ ap (λ (l : Log). positions_of order l.base) c.self.view_is in
    let before : sum_by weight c.in_ok-purchases.purchases.items ≡ sum_by own log.base.positions = ap (λ rs. sum_by weight rs) (c.in_ok-purchases.ensures ∙ ap (map (purchase lists)) rows) ∙ of_order lists order weight log.base.positions in
    let none = sym c.puts_positions.ensures ∙ c.if-not-puts_positions.true in
    before ∙ sym (ap (λ ps. sum_by own ps) (positions_still log.changes log.base none))

pub returns : goal.returns
returns g c weight =
    let log = c.args.self.now in
    let lists = rows_of log in
    let order = c.args.order in
    let own : OrderPos → ℕ = λ p. if eqb order p.order then weight (purchase lists p) else 0 in
    let sales = subst (λ (l : Log). AreSales l.changes l.base) c.self.view_is c.self.invariant.sales in
    let kept = subst (λ (l : Log). IsKept 4294967296 l.base) c.self.view_is c.recall_invariant.ensures in
    let rows : c.as_slice.result.now ≡ positions_of order log.base = c.as_slice.ensures ∙ c.in_ok-rows.ensures ∙ ap (λ (l : Log). positions_of order l.base) c.self.view_is in
    let before : sum_by weight c.in_ok-purchases.purchases.items ≡ sum_by own log.base.positions = ap (λ rs. sum_by weight rs) (c.in_ok-purchases.ensures ∙ ap (map (purchase lists)) rows) ∙ of_order lists order weight log.base.positions in
    let changes : c.as_slice-2.result.now ≡ log.changes = c.as_slice-2.ensures ∙ ap (λ (l : Log). l.changes) c.self.view_is in
    omega (arith, before, c.in_ok-put_purchases.ensures weight, ap (sum_by (weighs own)) changes, sales_sum own 4294967296 log.changes log.base kept sales)
