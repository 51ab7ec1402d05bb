-- How far a server is, where it is served by a context.
use Rattle.std.specs.Prelude.{◌≡◌}
use Rattle.base_devices.specs.declared.device.Ticks as clock
use Rattle.web_connections.specs.declared.context.Context.{Context}
use Rattle.web_connections.specs.Acts.{Between, between}

-- the handler of a context, and the ticks that its clock gave till then, where that is known
abbrev pub between_at : {L M T D : Type 0} → clock.Ghosts T → Context L M T D → Between D
between_at t context = between (t.reported context.ticks.now) context.handler.now

-- A context keeps the clock and the handler that it was lent: what becomes of them within becomes of them without.
abbrev pub KeepsLent : {L M T D : Type 0} → Context L M T D → Context L M T D → Type 0
KeepsLent old new = (new.ticks.ghost_name ≡ old.ticks.ghost_name) × (new.handler.ghost_name ≡ old.handler.ghost_name)
