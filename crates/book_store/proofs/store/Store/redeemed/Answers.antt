use Rattle.std.proofs.Common.{◌∙◌, arith}
use Rattle.std.proofs.Common.{refl}
use Rattle.model_rows.specs.declared.rows.OrderPos.{OrderPos}
use Rattle.model_rows.specs.Conditions.{is_in_force, names}
use Rattle.model_rows.specs.Lists.{order_at, position_at}
use Rattle.model_rows.specs.Usage.{stands_as, uses}
use Rattle.book_store.specs.Walks.{one_if}
use Rattle.book_store.proofs.Counted.{walked, next_counted, counted}
use Rattle.book_store.proofs.store.Store.redeemed.Goals as goal

pub returns-clause-value : goal.returns-clause-value
returns-clause-value c =
    let lists = c.args.self.now.state.lists in
    walked (λ i. one_if (λ p. stands_as is_in_force (order_at p.order lists)) (position_at i lists)) c.positions_naming-named.result c.loop-place.place c.loop-place.count (omega (arith, c.len-place-end.ensures, c.loop-place-test.false)) c.loop-place.invariant.counted
    ∙ counted (λ r. r.id) (λ (r : OrderPos). names c.args.voucher r.voucher) (λ p. stands_as is_in_force (order_at p.order lists)) (uses c.args.voucher lists) lists.positions c.positions_naming-named.result c.positions_naming-named.ensures.finds (λ r. refl)

pub loop-place-preserved : goal.loop-place-preserved
loop-place-preserved c =
    let lists = c.args.self.now.state.lists in
    record {
      counted = next_counted (λ i. one_if (λ p. stands_as is_in_force (order_at p.order lists)) (position_at i lists)) c.positions_naming-named.result c.loop-place.place c.at.result c.use_of-count.result c.loop-place.count (omega (arith, c.len-place-end.ensures, c.loop-place-test.true)) c.at.ensures c.use_of-count.ensures.value c.loop-place.invariant.counted;
      small = omega (arith, c.loop-place.invariant.small, c.use_of-count.ensures.small);
    }
