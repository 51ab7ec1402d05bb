use Rattle.app_files.proofs.ActLemmas.{spoken_as, was_done}
use Rattle.app_files.proofs.acting.act_over.Goals as goal

pub returns : goal.returns
returns g c =
    let office = c.args.office in
    spoken_as g.W.Wording.words _ _ _ c.args.tick _ _ _ _ c.over-shop.ensures.wording
    (was_done _ _ c.args.tick _ office.organizer office.event c.args.tables _ c.act-answer.new.self.tables _ office.state _ c.act-answer.new.self.state _ c.act-answer.result _
    c.over-shop.ensures.tables c.over-shop.ensures.office c.arrival.ensures c.told.ensures c.into_tables.ensures
    c.act-answer.ensures.office c.act-answer.ensures.sure c.act-answer.ensures.house
    c.act-answer.ensures.answered c.act-answer.ensures.stands c.act-answer.ensures.running c.act-answer.ensures.crash c.act-answer.ensures.settled)
