use Rattle.std.proofs.Common.{arith, refl}
use Rattle.web_connection.specs.Run.{AtTick}
use Rattle.web_connections.specs.Contexts.{between_at}
use Rattle.web_server.proofs.RoundLemmas.{hosts_more, hosts_none, hosts_of, reassigns_clears, reassigns_more}
use Rattle.web_server.proofs.serving.run_round.Goals as goal

pub returns-clause-hosts : goal.returns-clause-hosts
returns-clause-hosts g c =
    let S = AtTick g.T.Ticks.reads g.D.Handler.serves in
    let from = between_at g.T.Ticks c.args.context.now in
    let to = between_at g.T.Ticks c.hear_all.new.context in
    let look = c.look_if_due.ensures in
    hosts_more S from to to _ _ _ _ _ _ _ _ _ (rw c.wait.ensures.came at c.hear_all.ensures.hosts)
    (hosts_of S to to _ _ _ _ _ _ refl (reassigns_more _ _ _ _ _ _ _ _ _ (reassigns_clears _ _ _ _ _ _ look.clears (omega (arith, look.left)) look.came) c.accept.ensures.reassigns))

pub returns-then-is_err-clause-hosts : goal.returns-then-is_err-clause-hosts
returns-then-is_err-clause-hosts g c = hosts_none (AtTick g.T.Ticks.reads g.D.Handler.serves) _ _ _ _ _ _ _ _ refl refl refl c.wait.ensures.came
