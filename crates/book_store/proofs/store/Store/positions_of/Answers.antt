use Rattle.std.proofs.Common.{List, refl, ◌∙◌, arith}
use Rattle.std.specs.Prelude.{◌==◌}
use Rattle.model_rows.specs.declared.rows.OrderPos.{OrderPos}
use Rattle.book_store.proofs.Listed.{one_more, no_more, rows_found}
use Rattle.book_store.proofs.store.Store.positions_of.Goals as goal

pub loop-place-preserved : goal.loop-place-preserved
loop-place-preserved c =
    one_more (λ r. r.id) c.args.self.now.state.lists.positions (λ (l : List OrderPos). l) c.positions_ordered-ids.result c.loop-place.place _ _ c.loop-place.invariant c.at.result _ (λ xs ys. refl) (omega (arith, c.len-place-end.ensures, c.loop-place-test.true)) c.at.ensures c.in_ok-push_position.ensures

pub returns : goal.returns
returns c =
    c.new.ensures
    ∙ no_more (λ r. r.id) c.args.self.now.state.lists.positions (λ (l : List OrderPos). l) c.positions_ordered-ids.result c.loop-place.place _ _ c.loop-place.invariant (omega (arith, c.len-place-end.ensures, c.loop-place-test.false)) refl
    ∙ rows_found (λ r. r.id) c.args.self.now.state.lists.positions (λ (p : OrderPos). c.args.order == p.order) c.positions_ordered-ids.result c.recall_invariant.ensures.positions.in_order c.positions_ordered-ids.ensures.all
