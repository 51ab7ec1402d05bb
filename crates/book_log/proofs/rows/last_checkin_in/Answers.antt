use Rattle.std.proofs.Common.{sym, ap, ◌∙◌}
use Rattle.book_log.specs.NewCheckins.{last_with_all}
use Rattle.book_log.proofs.LastCheckins.{last_after_all, last_stays}
use Rattle.book_log.proofs.rows.last_checkin_in.Goals as goal

pub returns-then-not-touches : goal.returns-then-not-touches
returns-then-not-touches c lists new stood =
    let log = c.args.log.now in
    sym (last_stays c.args.position log c.args.before (sym c.touches.ensures ∙ c.if-not-touches.true)) ∙ ap (last_with_all c.args.position log) stood ∙ last_after_all c.args.position log lists new

pub returns : goal.returns
returns c lists new stood =
    let log = c.args.log.now in
    c.last_with_all.ensures ∙ ap (λ l. last_with_all c.args.position l c.args.before) c.as_slice.ensures ∙ ap (last_with_all c.args.position log) stood ∙ last_after_all c.args.position log lists new
