use Rattle.web_connection.specs.Run.{AtTick}
use Rattle.web_connections.proofs.HistoryLemmas.{all_on}
use Rattle.web_connections.proofs.laws.callers_go_on.Goals as goal

pub returns : goal.returns
returns g c = λ from to came old new order does. all_on (AtTick g.T.Ticks.reads g.D.Handler.serves) from to came old new order does
