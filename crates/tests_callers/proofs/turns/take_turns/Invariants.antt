use Rattle.std.proofs.Common.{List, take}
use Rattle.web_sockets.specs.Accepting.{Begun}
use Rattle.web_connection.specs.Run.{AtTick}
use Rattle.web_connections.specs.Contexts.{KeepsLent, between_at}
use Rattle.web_connections.specs.Connections.{DoesAll}
use Rattle.tests_callers.proofs.turns.take_turns.Given as goal

abbrev pub invariant-loop-next : goal.invariant-loop-next
invariant-loop-next g l =
    KeepsLent l.fn.context l.context
    × ((came : List Begun) × DoesAll (AtTick g.T.Ticks.reads g.D.Handler.serves) (between_at g.T.Ticks l.fn.context) (between_at g.T.Ticks l.context)
    came l.fn.connections l.connections (take l.next-index l.fn.order))
