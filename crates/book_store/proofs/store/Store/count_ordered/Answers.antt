use Rattle.std.proofs.Common.{◌∙◌, arith}
use Rattle.std.proofs.Common.{refl}
use Rattle.std.specs.Prelude.{◌==◌, ◌&&◌}
use Rattle.model_rows.specs.declared.rows.OrderPos.{OrderPos}
use Rattle.model_rows.specs.Lists.{position_at}
use Rattle.book_store.specs.Walks.{one_if}
use Rattle.book_store.proofs.Counted.{walked, next_counted, counted}
use Rattle.book_store.proofs.store.Store.count_ordered.Goals as goal

pub returns-clause-value : goal.returns-clause-value
returns-clause-value g c =
    let lists = c.args.self.now.state.lists in
    walked (λ i. one_if (g.T.PositionTest.passes c.args.test.now) (position_at i lists)) c.positions_ordered-ids.result c.loop-place.place c.loop-place.count (omega (arith, c.len-place-end.ensures, c.loop-place-test.false)) c.loop-place.invariant.counted
    ∙ counted (λ r. r.id) (λ (r : OrderPos). c.args.order == r.order) (g.T.PositionTest.passes c.args.test.now) (λ (r : OrderPos). c.args.order == r.order && g.T.PositionTest.passes c.args.test.now r) lists.positions c.positions_ordered-ids.result c.positions_ordered-ids.ensures.finds (λ r. refl)

pub loop-place-preserved : goal.loop-place-preserved
loop-place-preserved g c =
    let lists = c.args.self.now.state.lists in
    record {
      counted = next_counted (λ i. one_if (g.T.PositionTest.passes c.args.test.now) (position_at i lists)) c.positions_ordered-ids.result c.loop-place.place c.at.result c.pass_of-count.result c.loop-place.count (omega (arith, c.len-place-end.ensures, c.loop-place-test.true)) c.at.ensures c.pass_of-count.ensures.value c.loop-place.invariant.counted;
      small = omega (arith, c.loop-place.invariant.small, c.pass_of-count.ensures.small);
    }
