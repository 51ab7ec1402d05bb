use Rattle.std.proofs.Common.{◌<◌, arith, length, refl, subst}
use Rattle.std.proofs.lemmas.List.{length-drop}
use Rattle.web_connection.specs.Run.{AtTick}
use Rattle.web_connections.specs.Contexts.{between_at}
use Rattle.web_connections.specs.Exchanges.{ConnectionState}
use Rattle.web_connections.proofs.TurnLemmas.{sends_moves, takes_sent, takes_unsent, turn_moves, turn_more}
use Rattle.web_connections.proofs.connection.Connection.go_on.Goals as goal

pub returns-then-self-len-clause-turn : goal.returns-then-self-len-clause-turn
returns-then-self-len-clause-turn g c = turn_moves (AtTick g.T.Ticks.reads g.D.Handler.serves) _ _ _ _ refl (sends_moves _ _ c.send.ensures)

pub returns-then-self-len-clause-takes : goal.returns-then-self-len-clause-takes
returns-then-self-len-clause-takes g c =
    takes_unsent c.args.self.now c.send.new.self (subst (λ (s : ConnectionState). 0 < length s.unsent) c.self.view_is
    (omega (arith, length-drop c.self.inside.at c.self.inside.answer.items, c.if-self-len.true, c.len.ensures)))

pub returns-clause-turn : goal.returns-clause-turn
returns-clause-turn g c =
    let S = AtTick g.T.Ticks.reads g.D.Handler.serves in
    let from = between_at g.T.Ticks c.args.context.now in
    let to = between_at g.T.Ticks c.reply_on.new.context in
    turn_more S from from to _ _ _ (turn_moves S from from _ _ refl c.hear_on.ensures.moves)
    (turn_more S from to to _ _ _ c.reply_on.ensures.turn (turn_moves S to to _ _ refl (sends_moves _ _ c.send-2.ensures)))

pub returns-clause-takes : goal.returns-clause-takes
returns-clause-takes g c = takes_sent _ _ _ _ c.hear_on.ensures.same c.reply_on.ensures.takes c.send-2.ensures
