use Rattle.std.proofs.Common.{sym, ap, ◌∙◌}
use Rattle.book_log.specs.Puts.{waiting_put}
use Rattle.book_log.proofs.RowSteps.{waiting_touched, waiting_kept}
use Rattle.book_log.proofs.rows.waiting_in.Goals as goal

pub returns-in-None : goal.returns-in-None
returns-in-None c lists stood =
    stood ∙ sym (waiting_kept c.args.id c.args.log.now lists (sym c.last.ensures.value ∙ c.in-None.is))

pub returns-in-Some : goal.returns-in-Some
returns-in-Some c lists stood =
    c.waiting_put.ensures ∙ ap waiting_put c.get.ensures ∙ sym (waiting_touched c.args.id c.args.log.now lists c.get.result.now c.in-Some.place (sym c.last.ensures.value ∙ c.in-Some.is))
