use Rattle.std.proofs.Common.{arith, refl}
use Rattle.web_connection.specs.Run.{AtTick}
use Rattle.web_connections.specs.Contexts.{between_at}
use Rattle.web_server.proofs.RoundLemmas.{clears_leaves, hosts_more, hosts_of, hosts_turn, reassigns_clears}
use Rattle.web_server.proofs.server.Server.go_on.Goals as goal

pub returns-in-Ok-clause-hosts : goal.returns-in-Ok-clause-hosts
returns-in-Ok-clause-hosts g c =
    let S = AtTick g.T.Ticks.reads g.D.Handler.serves in
    let from = between_at g.T.Ticks c.args.context.now in
    let to = between_at g.T.Ticks c.turn.new.context in
    let note = c.note.ensures in
    hosts_more S from to to _ _ _ _ _ _ _ _ _ (hosts_turn S from to _ _ _ c.args.slot _ (rw (c.name_caller.ensures) at c.turn.ensures.turn))
    (hosts_of S to to _ _ _ _ _ _ refl (reassigns_clears _ _ _ _ _ _ note.clears (omega (arith, note.left)) note.came))

pub returns-in-Err-clause-hosts : goal.returns-in-Err-clause-hosts
returns-in-Err-clause-hosts g c =
    let S = AtTick g.T.Ticks.reads g.D.Handler.serves in
    let from = between_at g.T.Ticks c.args.context.now in
    let to = between_at g.T.Ticks c.turn.new.context in
    hosts_more S from to to _ _ _ _ _ _ _ _ _ (hosts_turn S from to _ _ _ c.args.slot _ (rw (c.name_caller.ensures) at c.turn.ensures.turn))
    (hosts_of S to to _ _ _ _ _ _ refl (reassigns_clears _ _ _ _ _ _ (clears_leaves _ _ c.args.slot c.lose.ensures.connections) (omega (arith, c.lose.ensures.left)) refl))
