use Rattle.std.proofs.Common.{◌≡◌}
use Rattle.web_server.specs.GivingWay.{load_to}
use Rattle.web_server.proofs.server.Server.load.Given as goal

abbrev pub invariant-loop-slot : goal.invariant-loop-slot
invariant-loop-slot g l = l.load ≡ load_to l.self.timers.items l.self.connections l.slot
