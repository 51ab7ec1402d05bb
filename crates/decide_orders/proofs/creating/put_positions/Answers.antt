use Rattle.std.proofs.Common.{◌≡◌, ◌∷◌, ◌+◌, sym, subst, ap, ◌∙◌, ℕ, Ok, drop, arith}
use Rattle.std.proofs.lemmas.List.{drop_more}
use Rattle.model_rows.specs.declared.changes.Change.TheVariants.{PutPosition}
use Rattle.model_rows.specs.declared.rows.OrderPos.{OrderPos}
use Rattle.draft_changes.specs.DraftState.{now}
use Rattle.draft_changes.proofs.Extensions.{extends_both}
use Rattle.decide_orders.specs.Created.{with_positions, position_put}
use Rattle.decide_orders.specs.Steps.{IsReady, AreCounted}
use Rattle.decide_orders.proofs.Logs.{one_more}
use Rattle.decide_orders.proofs.Rows.{ready_next, counted_more}
use Rattle.decide_orders.proofs.creating.put_positions.Goals as goal

pub loop-row-preserved : goal.loop-row-preserved
loop-row-preserved g c =
    let i = c.loop-row.row-index in
    let row = c.row-item.result in
    let rows = c.args.rows.now in
    let left : drop i rows ≡ row ∷ drop (i + 1) rows = drop_more rows i row c.loop-row-test.true ∙ ap (λ (r : OrderPos). r ∷ drop (i + 1) rows) (sym c.row-item.is) in
    let inv = c.loop-row.invariant in
    let more = counted_more (c.args.first + i) row (drop i rows) (drop (i + 1) rows) left inv.counted in
    let step : position_put row (now c.loop-row.draft) ≡ Ok (now c.put_position.new.draft) = c.in_ok-put_position.ensures.done in
    let here : IsReady row.id (now c.loop-row.draft) = subst (λ (n : ℕ). IsReady n (now c.loop-row.draft)) (sym more.0) inv.ready in
    let on : row.id + 1 ≡ c.args.first + (i + 1) = omega (arith, more.0) in
    let next : c.args.first + i + 1 ≡ c.args.first + (i + 1) = omega arith in
    record {
      rest = sym (ap (λ rest. with_positions rest (Ok (now c.loop-row.draft))) left ∙ ap (with_positions (drop (i + 1) rows)) step) ∙ inv.rest;
      ready = subst (λ (n : ℕ). IsReady n (now c.put_position.new.draft)) on (ready_next row (now c.loop-row.draft) (now c.put_position.new.draft) step here);
      counted = subst (λ (n : ℕ). AreCounted n (drop (i + 1) rows)) next more.1;
      changes = one_more (λ (r : OrderPos). PutPosition r) c.args.draft.now.log.changes c.loop-row.draft.log.changes c.put_position.new.draft.log.changes row (drop i rows) (drop (i + 1) rows) rows left c.in_ok-put_position.ensures.changes inv.changes;
      extends = extends_both inv.extends c.in_ok-put_position.ensures.extends;
    }
