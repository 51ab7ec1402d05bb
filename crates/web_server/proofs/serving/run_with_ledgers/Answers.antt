use Rattle.std.proofs.Common.{refl}
use Rattle.web_connection.specs.Run.{AtTick}
use Rattle.web_server.proofs.RoundLemmas.{hosts_none}
use Rattle.web_server.proofs.serving.run_with_ledgers.Goals as goal

pub returns-in_default-clause-hosts : goal.returns-in_default-clause-hosts
returns-in_default-clause-hosts g c = hosts_none (AtTick g.T.Ticks.reads g.D.Handler.serves) _ _ _ _ _ _ _ _ refl refl refl refl

pub returns-in_default-new-clause-hosts : goal.returns-in_default-new-clause-hosts
returns-in_default-new-clause-hosts g c = hosts_none (AtTick g.T.Ticks.reads g.D.Handler.serves) _ _ _ _ _ _ _ _ refl refl refl refl
