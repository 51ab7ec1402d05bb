-- What callers do in a server, at the handler of a context.
use Rattle.std.specs.Prelude.{List, Option}
use Rattle.base_values.specs.declared.answer.Answer.{Answer}
use Rattle.base_devices.specs.declared.device.Tick.{Tick}
use Rattle.base_devices.specs.declared.device.Ticks as clock
use Rattle.web_http.specs.Messages.{Message}
use Rattle.web_connection.specs.Run.{AtTick}
use Rattle.web_sockets.specs.Accepting.{Begun}
use Rattle.web_connections.specs.declared.context.Context.{Context}
use Rattle.web_connections.specs.Contexts.{between_at}
use Rattle.web_server.specs.declared.server.Server.{Server}
use Rattle.web_server.specs.Rounds.{Hosts}

-- Callers come, have turns and leave in a server, of which so many were to be accepted, and are still: each turn is at the handler of the context, at
-- ticks of its clock. The network had shown some callers before, and has shown some behind.
abbrev pub HostsBy : {L M T D R E : Type 0} → clock.Ghosts T → (D → Tick → Message → Answer → D → Type 0) → Context L M T D → Context L M T D → Server R E → Server R E → Option (List Begun)
    → Option (List Begun) → Type 0
HostsBy t serves context context' server server' shown seen =
    Hosts (AtTick t.reads serves) (between_at t context) (between_at t context') server.connections server'.connections server.left server'.left shown seen
