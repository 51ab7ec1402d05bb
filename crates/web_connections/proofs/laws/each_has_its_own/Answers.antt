use Rattle.web_connection.specs.Run.{AtTick}
use Rattle.web_connections.proofs.HistoryLemmas.{own_history}
use Rattle.web_connections.proofs.laws.each_has_its_own.Goals as goal

pub returns : goal.returns
returns g c = λ from to came count now order does. own_history (AtTick g.T.Ticks.reads g.D.Handler.serves) from to came count now order does
