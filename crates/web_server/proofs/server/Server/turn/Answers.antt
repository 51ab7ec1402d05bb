use Rattle.std.proofs.Common.{arith, refl}
use Rattle.web_connection.specs.Run.{AtTick}
use Rattle.web_server.proofs.RoundLemmas.{hosts_none, hosts_of, reassigns_clears}
use Rattle.web_server.proofs.server.Server.turn.Goals as goal

pub returns-then-eq-clause-hosts : goal.returns-then-eq-clause-hosts
returns-then-eq-clause-hosts g c = hosts_none (AtTick g.T.Ticks.reads g.D.Handler.serves) _ _ _ _ _ _ _ _ refl refl refl refl

pub returns-then-gives_way-clause-hosts : goal.returns-then-gives_way-clause-hosts
returns-then-gives_way-clause-hosts g c =
    let close = c.close.ensures in
    hosts_of (AtTick g.T.Ticks.reads g.D.Handler.serves) _ _ _ _ _ _ _ _ refl (reassigns_clears _ _ _ _ _ _ close.clears (omega (arith, close.left)) close.came)
