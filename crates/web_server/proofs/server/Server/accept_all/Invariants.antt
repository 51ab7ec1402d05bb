use Rattle.std.proofs.Common.{◌≡◌}
use Rattle.web_server.specs.Rounds.{Reassigns}
use Rattle.web_server.proofs.server.Server.accept_all.Given as goal

abbrev pub invariant-loop : goal.invariant-loop
invariant-loop g l = Reassigns l.fn.self.connections l.self.connections l.fn.self.left l.self.left (g.N.Network.came l.fn.network) (g.N.Network.came l.network)
    × (g.N.Network.listens l.network ≡ g.N.Network.listens l.fn.network)
