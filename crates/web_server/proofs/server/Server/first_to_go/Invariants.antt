use Rattle.web_server.specs.GivingWay.{readiness_at}
use Rattle.web_server.proofs.GivingWayLemmas.{IsFirst}
use Rattle.web_server.proofs.server.Server.first_to_go.Given as goal

abbrev pub invariant-loop-slot : goal.invariant-loop-slot
invariant-loop-slot g l = IsFirst (readiness_at l.self.timers.items l.self.connections l.now) l.slot l.found l.most
