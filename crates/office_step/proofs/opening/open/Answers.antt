use Rattle.model_rows.specs.Lists.{State}
use Rattle.model_rows.proofs.Headroom.{headroom_later}
use Rattle.office_step.proofs.opening.open.Goals as goal

pub new-requires-clause-headroom : goal.new-requires-clause-headroom
new-requires-clause-headroom g c =
    let state : State = g.B.Book.state c.args.book.now in
    headroom_later state.moment c.args.at state.lists c.requires.moment c.requires.sound.headroom
