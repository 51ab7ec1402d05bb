use Rattle.std.proofs.Common.{sym, ap, ◌∙◌}
use Rattle.book_log.specs.Puts.{order_put}
use Rattle.book_log.proofs.RowSteps.{order_touched, order_kept}
use Rattle.book_log.proofs.rows.order_in.Goals as goal

pub returns-in-None : goal.returns-in-None
returns-in-None c lists stood =
    stood ∙ sym (order_kept c.args.id c.args.log.now lists (sym c.last.ensures.value ∙ c.in-None.is))

pub returns-in-Some : goal.returns-in-Some
returns-in-Some c lists stood =
    c.order_put.ensures ∙ ap order_put c.get.ensures ∙ sym (order_touched c.args.id c.args.log.now lists c.get.result.now c.in-Some.place (sym c.last.ensures.value ∙ c.in-Some.is))
