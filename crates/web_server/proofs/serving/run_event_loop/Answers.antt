use Rattle.std.proofs.Common.{arith, inr, refl, subst}
use Rattle.web_connection.specs.Run.{AtTick}
use Rattle.web_connections.specs.Acts.{between}
use Rattle.web_connections.specs.Connections.{Callers}
use Rattle.web_server.specs.Rounds.{RoundsEnd, most_of}
use Rattle.web_server.proofs.RoundLemmas.{answers_all, answers_none}
use Rattle.web_server.proofs.serving.run_event_loop.Goals as goal

pub returns-in-Ok-clause-answers : goal.returns-in-Ok-clause-answers
returns-in-Ok-clause-answers g c =
    let S = AtTick g.T.Ticks.reads g.D.Handler.serves in
    let from = between (g.T.Ticks.reported c.args.ticks.now) c.args.handler.now in
    let to = between (g.T.Ticks.reported c.run_with_ledgers.new.ticks) c.run_with_ledgers.new.handler in
    let connections = c.run_with_ledgers.new.server.connections in
    let count = rw (c.in-Ok.ensures.connections, c.in-Ok.ensures.left) at c.run_with_ledgers.ensures.hosts.count in
    answers_all S from to 128 (most_of c.args.connections) _ _ connections _ _ c.run_with_ledgers.result
    (omega (arith, count))
    (rw c.in-Ok.ensures.connections at c.run_with_ledgers.ensures.hosts)
    (subst (λ (h : Callers). RoundsEnd c.run_with_ledgers.result h connections) c.in-Ok.ensures.connections c.run_with_ledgers.ensures.ends)

pub returns-in-Err-clause-answers : goal.returns-in-Err-clause-answers
returns-in-Err-clause-answers g c = answers_none (AtTick g.T.Ticks.reads g.D.Handler.serves) _ _ _ _ _ _ refl refl (inr refl)
