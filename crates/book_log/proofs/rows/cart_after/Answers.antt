use Rattle.std.proofs.Common.{◌<◌, take, sym, ap, ◌∙◌, subst}
use Rattle.std.proofs.lemmas.List.{get_or-take}
use Rattle.std.specs.Option.{IfSome}
use Rattle.book_log.specs.Puts.{cart_put}
use Rattle.book_log.proofs.RowSteps.{cart_touched, cart_kept}
use Rattle.book_log.proofs.rows.cart_after.Goals as goal

pub returns-in-None : goal.returns-in-None
returns-in-None c lists stood =
    stood ∙ sym (cart_kept c.args.id (take c.args.count c.args.log.now) lists (sym c.last_before.ensures.value ∙ c.in-None.is))

pub returns-in-Some : goal.returns-in-Some
returns-in-Some c lists stood =
    let log = c.args.log.now in
    let now = c.get.result.now in
    let place = c.in-Some.place in
    let below = subst (λ o. IfSome o (λ p. p < c.args.count)) c.in-Some.is c.last_before.ensures.within in
    let read = c.get.ensures ∙ sym (get_or-take c.args.count log place now below) in
    c.cart_put.ensures ∙ ap cart_put read ∙ sym (cart_touched c.args.id (take c.args.count log) lists now place (sym c.last_before.ensures.value ∙ c.in-Some.is))
