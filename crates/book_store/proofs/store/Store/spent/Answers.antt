use Rattle.std.proofs.Common.{◌≡◌, ℕ, Bool, true, false, ◌&&◌, refl, ◌∙◌, arith}
use Rattle.std.specs.Prelude.{if◌then◌else◌}
use Rattle.model_rows.specs.declared.rows.OrderPos.{OrderPos}
use Rattle.model_rows.specs.Conditions.{is_in_force, names}
use Rattle.model_rows.specs.Lists.{order_at, position_at}
use Rattle.model_rows.specs.Usage.{stands_as, spends}
use Rattle.book_store.specs.Walks.{amount_of}
use Rattle.book_store.proofs.Counted.{walked, next_counted, added}
use Rattle.book_store.proofs.store.Store.spent.Goals as goal

-- a row that doesn't name the voucher spends nothing of it
named_only : (named force : Bool) (discount : ℕ) → (if named then (if named && force then discount else 0) else 0) ≡ (if named && force then discount else 0)
named_only true force discount = refl
named_only false force discount = refl

pub returns-clause-value : goal.returns-clause-value
returns-clause-value c =
    let lists = c.args.self.now.state.lists in
    walked (λ i. amount_of (spends c.args.voucher lists) (position_at i lists)) c.positions_naming-named.result c.loop-place.place c.loop-place.total (omega (arith, c.len-place-end.ensures, c.loop-place-test.false)) c.loop-place.invariant.added
    ∙ added (λ r. r.id) (λ (r : OrderPos). names c.args.voucher r.voucher) (spends c.args.voucher lists) lists.positions c.positions_naming-named.result c.positions_naming-named.ensures.finds (λ r. named_only (names c.args.voucher r.voucher) (stands_as is_in_force (order_at r.order lists)) r.discount)

pub loop-place-preserved : goal.loop-place-preserved
loop-place-preserved c =
    let lists = c.args.self.now.state.lists in
    record {
      added = next_counted (λ i. amount_of (spends c.args.voucher lists) (position_at i lists)) c.positions_naming-named.result c.loop-place.place c.at.result c.from-total.result c.loop-place.total (omega (arith, c.len-place-end.ensures, c.loop-place-test.true)) c.at.ensures (c.from-total.ensures ∙ c.spend_of.ensures.value) c.loop-place.invariant.added;
      small = omega (arith, c.loop-place.invariant.small, c.from-total.ensures, c.spend_of.ensures.small);
    }
