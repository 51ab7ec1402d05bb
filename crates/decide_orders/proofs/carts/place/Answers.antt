use Rattle.std.proofs.Common.{◌≡◌, true, Err, [], ◌∷◌, rules, refl, sym, ap, ◌∙◌}
use Rattle.std.proofs.lemmas.Result.{err_from_is_err_and}
use Rattle.draft_changes.specs.DraftState.{now}
use Rattle.model_rows.specs.declared.changes.Change.TheVariants.{PutCart}
use Rattle.model_rows.specs.declared.rows.Own.TheVariants.{Cart}
use Rattle.model_rows.specs.Change.{change_applied}
use Rattle.model_rows.specs.Over.{first_over}
use Rattle.decide_orders.specs.Carts.{has_use_for}
use Rattle.decide_orders.specs.Places.{places_test}
use Rattle.decide_orders.proofs.Tested.{tested_since, cart_refused}
use Rattle.decide_orders.proofs.carts.place.Goals as goal

pub returns-in_err-end_attempt : goal.returns-in_err-end_attempt
returns-in_err-end_attempt g c =
    let row = c.args.row in
    let state = now c.args.draft.now in
    let after = now c.put_cart.new.self in
    let uses : has_use_for row state ≡ true = sym c.has_use_for.ensures ∙ c.if-not-has_use_for.false in
    let tested = tested_since c.takes_cart-takes_cart.result c.in_ok-put_cart.ensures.extends c.mark-mark.ensures.place c.mark-mark.ensures.here refl c.test_places-tested.ensures in
    let put : after ≡ change_applied (PutCart row) state = c.in_ok-put_cart.ensures.ok in
    let failed : c.test_places-tested.result ≡ Err c.in_err-end_attempt.field-0.0 = search rules in
    let refused = cart_refused row state uses (sym (λ i. places_test (first_over state.lists (put i).lists state.moment (Cart row.id ∷ [])) (c.takes_cart-takes_cart.ensures i)) ∙ sym tested ∙ failed) in
    let given = err_from_is_err_and c.from_residual-in_err-end_attempt.result c.from_residual-in_err-end_attempt.ensures.1 in
    record {
      done = search rules;
      refused = rw given.1 (λ _. refused ∙ ap (λ e. Err e) (sym given.2));
      changes = search rules;
      extends = search rules;
      same = search rules;
    }
