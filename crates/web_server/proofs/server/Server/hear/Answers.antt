use Rattle.std.proofs.Common.{refl}
use Rattle.web_connection.specs.Run.{AtTick}
use Rattle.web_server.proofs.RoundLemmas.{hosts_none}
use Rattle.web_server.proofs.server.Server.hear.Goals as goal

pub returns-in-Listener-clause-hosts : goal.returns-in-Listener-clause-hosts
returns-in-Listener-clause-hosts g c = hosts_none (AtTick g.T.Ticks.reads g.D.Handler.serves) _ _ _ _ _ _ _ _ refl c.note_ready.ensures.connections c.note_ready.ensures.left refl

pub returns-in-Closed-clause-hosts : goal.returns-in-Closed-clause-hosts
returns-in-Closed-clause-hosts g c = hosts_none (AtTick g.T.Ticks.reads g.D.Handler.serves) _ _ _ _ _ _ _ _ refl refl refl c.read_away.ensures.came
