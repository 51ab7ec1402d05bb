use Rattle.std.proofs.Common.{refl, ◌∙◌}
use Rattle.web_connection.specs.Run.{AtTick}
use Rattle.web_connections.specs.Contexts.{between_at}
use Rattle.web_connections.proofs.ContextLemmas.{kept_more, kept_same}
use Rattle.web_server.proofs.RoundLemmas.{hosts_more, hosts_none}
use Rattle.web_server.proofs.serving.run_rounds.Goals as goal

pub loop-init : goal.loop-init
loop-init g c = (hosts_none (AtTick g.T.Ticks.reads g.D.Handler.serves) _ _ _ _ _ _ _ _ refl refl refl refl, refl, kept_same c.args.context.now)

pub returns-in-Err-clause-hosts : goal.returns-in-Err-clause-hosts
returns-in-Err-clause-hosts g c =
    let S = AtTick g.T.Ticks.reads g.D.Handler.serves in
    let from = between_at g.T.Ticks c.args.context.now in
    let mid = between_at g.T.Ticks c.loop.context in
    let to = between_at g.T.Ticks c.run_round.new.context in
    hosts_more S from mid to _ _ _ _ _ _ _ _ _ c.loop.invariant.0 c.run_round.ensures.hosts

pub returns-in-Err-clause-keeps : goal.returns-in-Err-clause-keeps
returns-in-Err-clause-keeps g c = kept_more c.args.context.now c.loop.context c.run_round.new.context c.loop.invariant.2 c.run_round.ensures.keeps

pub loop-preserved : goal.loop-preserved
loop-preserved g c =
    let S = AtTick g.T.Ticks.reads g.D.Handler.serves in
    let from = between_at g.T.Ticks c.args.context.now in
    let mid = between_at g.T.Ticks c.loop.context in
    let to = between_at g.T.Ticks c.run_round.new.context in (
      hosts_more S from mid to _ _ _ _ _ _ _ _ _ c.loop.invariant.0 c.run_round.ensures.hosts,
      c.run_round.ensures.listens ∙ c.loop.invariant.1,
      kept_more c.args.context.now c.loop.context c.run_round.new.context c.loop.invariant.2 c.run_round.ensures.keeps,
    )
