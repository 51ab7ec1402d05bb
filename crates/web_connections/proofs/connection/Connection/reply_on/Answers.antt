use Rattle.std.proofs.Common.{ap, refl, sym, ◌∙◌}
use Rattle.web_connection.specs.Run.{AtTick}
use Rattle.web_connections.specs.Exchanges.{ConnectionState}
use Rattle.web_connections.proofs.TurnLemmas.{turn_moves, turn_reply}
use Rattle.web_connections.proofs.connection.Connection.reply_on.Goals as goal

pub returns-in-Goes-clause-turn : goal.returns-in-Goes-clause-turn
returns-in-Goes-clause-turn g c = turn_reply (AtTick g.T.Ticks.reads g.D.Handler.serves) _ _ _ _ (ap (λ (s : ConnectionState). s.phase) (sym c.self.view_is) ∙ c.in-Goes.is) c.requires.sent c.reply.ensures.replies

pub returns-in_default-clause-turn : goal.returns-in_default-clause-turn
returns-in_default-clause-turn g c = turn_moves (AtTick g.T.Ticks.reads g.D.Handler.serves) _ _ _ _ refl (λ first own connection. connection)
