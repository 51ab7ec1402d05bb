use Rattle.std.proofs.Common.{[], ap, ◌∙◌, arith}
use Rattle.std.proofs.lemmas.List.{get_or_default}
use Rattle.book_log.specs.Places.{place_in, touches}
use Rattle.book_log.proofs.LastPlaces.{last_below}
use Rattle.book_log.proofs.change_log.ChangeLog.last.Goals as goal

pub returns-clause-within : goal.returns-clause-within
returns-clause-within c =
    let index = c.self.invariant in
    let found = c.last.ensures ∙ ap (place_in c.args.id) (get_or_default c.self.inside.tables c.number.result c.index-self-number.result [] (omega (arith, c.number.ensures.within, index.ten))) ∙ index.lasts c.number.result c.args.id c.number.ensures.within in
    rw (← c.self.view_is) (last_below (touches c.number.result c.args.id) _ _ found)
