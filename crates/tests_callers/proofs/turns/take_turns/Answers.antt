use Rattle.std.proofs.Common.{◌++◌, List, [], refl, subst, sym}
use Rattle.std.proofs.lemmas.List.{take_more}
use Rattle.web_connection.specs.Run.{AtTick}
use Rattle.web_connections.specs.Contexts.{between_at}
use Rattle.web_connections.specs.Connections.{DoesAll}
use Rattle.web_connections.specs.declared.turns.Next.{Next}
use Rattle.web_connections.proofs.ContextLemmas.{kept_more, kept_same}
use Rattle.web_connections.proofs.HistoryLemmas.{does_more}
use Rattle.tests_callers.proofs.turns.take_turns.Goals as goal

pub loop-next-preserved : goal.loop-next-preserved
loop-next-preserved g c =
    let S = AtTick g.T.Ticks.reads g.D.Handler.serves in
    let from = between_at g.T.Ticks c.args.context.now in
    let to = between_at g.T.Ticks c.do_next.new.context in
    let was = c.loop-next.invariant.1 in (
      kept_more c.args.context.now c.loop-next.context c.do_next.new.context c.loop-next.invariant.0 c.do_next.ensures.keeps,
      (
        was.0 ++ c.do_next.ensures.does.0,
        subst (λ (order : List Next). DoesAll S from to (was.0 ++ c.do_next.ensures.does.0) c.args.connections.now c.do_next.new.connections order)
            (sym (take_more c.args.order.now c.loop-next.next-index _ c.loop-next-test.true))
            (does_more S from _ to was.0 c.do_next.ensures.does.0 c.args.connections.now _ c.do_next.new.connections _ _ was.1 c.do_next.ensures.does.1),
      ),
    )

pub loop-next-init : goal.loop-next-init
loop-next-init g c = (kept_same c.args.context.now, ([], (refl, refl, refl)))
