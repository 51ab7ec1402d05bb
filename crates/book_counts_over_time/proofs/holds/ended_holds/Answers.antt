use Rattle.std.proofs.Common.{refl, ◌∙◌, arith}
use Rattle.model_rows.specs.declared.rows.CartPos.{CartPos}
use Rattle.std.specs.Prelude.{◌&&◌}
use Rattle.model_rows.specs.CameDue.{is_due_cart}
use Rattle.model_rows.specs.Conditions.{names}
use Rattle.model_rows.specs.Lists.{cart_at}
use Rattle.book_store.specs.Walks.{one_if}
use Rattle.book_store.proofs.Counted.{walked, next_counted, counted}
use Rattle.book_counts_over_time.proofs.holds.ended_holds.Goals as goal

pub returns : goal.returns
returns c =
    let lists = c.args.store.now.state.lists in
    let from = c.args.store.now.state.moment in
    let finds = rw c.moment.ensures at c.carts_due-ids.ensures.finds in
    record {
      value = walked (λ i. one_if (λ (r : CartPos). names c.args.voucher r.voucher) (cart_at i lists)) c.carts_due-ids.result c.loop-place.place c.loop-place.count (omega (arith, c.len-place-end.ensures, c.loop-place-test.false)) c.loop-place.invariant.counted
          ∙ counted (λ r. r.id) (is_due_cart from c.args.at) (λ (r : CartPos). names c.args.voucher r.voucher) (λ r. is_due_cart from c.args.at r && names c.args.voucher r.voucher) lists.carts c.carts_due-ids.result finds (λ r. refl);
    }

pub loop-place-preserved : goal.loop-place-preserved
loop-place-preserved c =
    let lists = c.args.store.now.state.lists in
    record {
      counted = next_counted (λ i. one_if (λ (r : CartPos). names c.args.voucher r.voucher) (cart_at i lists)) c.carts_due-ids.result c.loop-place.place c.at.result c.name_of-count.result c.loop-place.count (omega (arith, c.len-place-end.ensures, c.loop-place-test.true)) c.at.ensures c.name_of-count.ensures.value c.loop-place.invariant.counted;
      small = omega (arith, c.loop-place.invariant.small, c.name_of-count.ensures.small);
    }
