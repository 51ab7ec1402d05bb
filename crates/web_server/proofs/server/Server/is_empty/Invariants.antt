use Rattle.std.proofs.Common.{◌≡◌, ℕ, ◌<◌}
use Rattle.web_connections.specs.declared.phase.Needs.TheVariants as needs
use Rattle.web_connections.specs.Connections.{at_slot, slot_needs}
use Rattle.web_server.proofs.server.Server.is_empty.Given as goal

abbrev pub invariant-loop-slot : goal.invariant-loop-slot
invariant-loop-slot g l = (k : ℕ) → k < l.slot → slot_needs (at_slot k l.self.connections) ≡ needs.Nothing
