use Rattle.std.proofs.Common.{◌≡◌, length, option_copied, ap, arith}
use Rattle.base_tables.specs.Tables.{sum_at}
use Rattle.model_rows.specs.declared.changes.Change.{Change}
use Rattle.model_rows.specs.Lists.{cart_at}
use Rattle.model_rows.specs.Change.{after_change}
use Rattle.draft_overlay.specs.Logs.{rows_of}
use Rattle.draft_counts.proofs.RowCountLemmas.{count_put, count_drop}
use Rattle.draft_counts.proofs.numbers.carts_after.Goals as goal

pub returns-in-PutCart : goal.returns-in-PutCart
returns-in-PutCart g c =
    let lists = rows_of c.args.overlay.now in
    let row = c.in-PutCart.row in
    let gone : sum_at (λ d. 1) (option_copied c.cart.result) ≡ sum_at (λ d. 1) (cart_at row.id lists) = ap (sum_at (λ d. 1)) c.cart.ensures in
    omega (arith, c.without_one.ensures, c.requires.carts, gone, count_put (λ r. r.id) row lists.carts c.recall_invariant.ensures.kept.carts.in_order, ap (λ (change : Change). length (after_change change lists).carts) c.in-PutCart.is)

pub returns-in-DropCart : goal.returns-in-DropCart
returns-in-DropCart g c =
    let lists = rows_of c.args.overlay.now in
    let id = c.in-DropCart.id in
    let gone : sum_at (λ d. 1) (option_copied c.cart-in-DropCart.result) ≡ sum_at (λ d. 1) (cart_at id lists) = ap (sum_at (λ d. 1)) c.cart-in-DropCart.ensures in
    omega (arith, c.without_one-in-DropCart.ensures, c.requires.carts, gone, count_drop (λ r. r.id) id lists.carts c.recall_invariant.ensures.kept.carts.in_order, ap (λ (change : Change). length (after_change change lists).carts) c.in-DropCart.is)
