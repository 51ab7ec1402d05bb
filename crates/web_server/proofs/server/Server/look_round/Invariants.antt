use Rattle.std.proofs.Common.{◌≡◌}
use Rattle.web_server.specs.Rounds.{Clears}
use Rattle.web_server.proofs.GivingWayLemmas.{EndedTo}
use Rattle.web_server.proofs.server.Server.look_round.Given as goal

abbrev pub invariant-loop-slot : goal.invariant-loop-slot
invariant-loop-slot g l = Clears l.fn.self.connections l.self.connections
    × EndedTo l.fn.self.timers.items l.now l.slot l.fn.self.connections l.self.connections
    × (l.self.timers.items ≡ l.fn.self.timers.items)
    × (l.self.left ≡ l.fn.self.left)
    × (g.N.Network.listens l.network ≡ g.N.Network.listens l.fn.network)
    × (g.N.Network.came l.network ≡ g.N.Network.came l.fn.network)
