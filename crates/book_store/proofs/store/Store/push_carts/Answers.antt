use Rattle.std.proofs.Common.{List, refl, ap, ◌++◌, ◌∙◌, map, filter, arith}
use Rattle.base_values.specs.Texts.{same_text}
use Rattle.model_rows.specs.declared.rows.CartPos.{CartPos}
use Rattle.model_rows.specs.Conditions.{names}
use Rattle.book_indexes.specs.Keys.{cart_keys}
use Rattle.book_indexes.proofs.SameDigest.{found_by_digest}
use Rattle.book_store.proofs.Listed.{one_more, no_more, rows_found, ids_split, filter_found}
use Rattle.book_store.proofs.store.Store.push_carts.Goals as goal

pub loop-place-preserved : goal.loop-place-preserved
loop-place-preserved c =
    one_more (λ r. r.id) c.args.self.now.state.lists.carts (λ (l : List CartPos). map (λ r. r.id) (filter (λ r. same_text r.cart_id c.args.cart.now) l)) c.with_text-found.result c.loop-place.place _ _
    c.loop-place.invariant c.at.result _ (ids_split (λ r. r.id) (λ r. same_text r.cart_id c.args.cart.now)) (omega (arith, c.len-place-end.ensures, c.loop-place-test.true)) c.at.ensures
    c.in_ok-push_cart.ensures

pub returns : goal.returns
returns c =
    let carts = c.args.self.now.state.lists.carts in
    no_more (λ r. r.id) carts (λ (l : List CartPos). map (λ r. r.id) (filter (λ r. same_text r.cart_id c.args.cart.now) l)) c.with_text-found.result c.loop-place.place _ _ c.loop-place.invariant (omega (arith, c.len-place-end.ensures, c.loop-place-test.false)) refl
    ∙ ap (λ (l : List CartPos). c.args.ids.now.items ++ map (λ r. r.id) (filter (λ r. same_text r.cart_id c.args.cart.now) l)) (rows_found (λ r. r.id) carts (λ (r : CartPos). names c.digest.result (cart_keys r).text) c.with_text-found.result c.recall_invariant.ensures.carts.in_order (rw c.carts.ensures at c.with_text-found.ensures.all))
    ∙ ap (λ (l : List CartPos). c.args.ids.now.items ++ map (λ r. r.id) l) (filter_found (λ (r : CartPos). names c.digest.result (cart_keys r).text) (λ (r : CartPos). same_text r.cart_id c.args.cart.now) (λ r. found_by_digest c.digest.result r.cart_id c.args.cart.now (rw c.as_str.ensures.value at c.digest.ensures)) carts)
