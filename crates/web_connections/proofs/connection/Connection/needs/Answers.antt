use Rattle.std.proofs.Common.{◌<◌, arith, length}
use Rattle.web_connections.proofs.TurnLemmas.{needs_room}
use Rattle.web_connections.proofs.connection.Connection.needs.Goals as goal

pub returns-then-self-len : goal.returns-then-self-len
returns-then-self-len g c =
    let unsent : c.self.inside.at < length c.self.inside.answer.items = omega (arith, c.if-self-len.true, c.len.ensures) in
    rw (← c.self.view_is) (needs_room _ _ _ unsent)
