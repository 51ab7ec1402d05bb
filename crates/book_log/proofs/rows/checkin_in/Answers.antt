use Rattle.std.proofs.Common.{sym, ap, ◌∙◌}
use Rattle.book_log.specs.Puts.{checkin_put}
use Rattle.book_log.proofs.RowSteps.{checkin_touched, checkin_kept}
use Rattle.book_log.proofs.rows.checkin_in.Goals as goal

pub returns-in-None : goal.returns-in-None
returns-in-None c lists stood =
    stood ∙ sym (checkin_kept c.args.id c.args.log.now lists (sym c.last.ensures.value ∙ c.in-None.is))

pub returns-in-Some : goal.returns-in-Some
returns-in-Some c lists stood =
    c.checkin_put.ensures ∙ ap checkin_put c.get.ensures ∙ sym (checkin_touched c.args.id c.args.log.now lists c.get.result.now c.in-Some.place (sym c.last.ensures.value ∙ c.in-Some.is))
