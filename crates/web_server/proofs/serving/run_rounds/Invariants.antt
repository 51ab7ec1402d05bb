use Rattle.std.proofs.Common.{◌≡◌}
use Rattle.web_connections.specs.Contexts.{KeepsLent}
use Rattle.web_server.specs.Hosted.{HostsBy}
use Rattle.web_server.proofs.serving.run_rounds.Given as goal

abbrev pub invariant-loop : goal.invariant-loop
invariant-loop g l =
    HostsBy g.T.Ticks g.D.Handler.serves l.fn.context l.context l.fn.server l.server (g.N.Network.came l.fn.network) (g.N.Network.came l.network)
    × (g.N.Network.listens l.network ≡ g.N.Network.listens l.fn.network)
    × KeepsLent l.fn.context l.context
