use Rattle.std.proofs.Common.{refl, ◌∙◌}
use Rattle.web_connection.specs.Run.{AtTick}
use Rattle.web_connections.specs.Contexts.{between_at}
use Rattle.web_connections.proofs.ContextLemmas.{kept_more, kept_same}
use Rattle.web_server.proofs.RoundLemmas.{hosts_more, hosts_none}
use Rattle.web_server.proofs.serving.hear_all.Goals as goal

pub loop-init : goal.loop-init
loop-init g c = (hosts_none (AtTick g.T.Ticks.reads g.D.Handler.serves) _ _ _ _ _ _ _ _ refl refl refl refl, refl, kept_same c.args.context.now)

pub loop-preserved : goal.loop-preserved
loop-preserved g c =
    let S = AtTick g.T.Ticks.reads g.D.Handler.serves in
    let from = between_at g.T.Ticks c.args.context.now in
    let mid = between_at g.T.Ticks c.loop.context in
    let to = between_at g.T.Ticks c.hear.new.context in (
      hosts_more S from mid to _ _ _ _ _ _ _ _ _ (rw (← c.event.ensures.came) at c.loop.invariant.0) c.hear.ensures.hosts,
      c.hear.ensures.listens ∙ c.event.ensures.listens ∙ c.loop.invariant.1,
      kept_more c.args.context.now c.loop.context c.hear.new.context c.loop.invariant.2 c.hear.ensures.keeps,
    )
