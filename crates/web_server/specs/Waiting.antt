-- Who leaves for one who waits for a slot of a full server.
use Rattle.std.specs.Prelude.{◌&&◌, ℕ, true, false, not, nat_lt, Bool, Option, Some, None}
use Rattle.web_connections.specs.declared.phase.Needs.{Needs}
use Rattle.web_connections.specs.declared.phase.Needs.TheVariants as needs
use Rattle.web_connections.specs.Connections.{Caller, Callers, IsFree}
use Rattle.web_server.specs.declared.server.Server.{Server}
use Rattle.web_server.specs.declared.timeouts.Timer.{Timer}
use Rattle.web_server.specs.GivingWay.{GoesFirst, begins_no_more, readiness_at}

-- no slot is free
abbrev pub IsFull : Callers → Type 0
IsFull callers = (slot : ℕ) → IsFree slot callers → ⊥

-- whether one more may be waiting to be accepted, of so many who are accepted still, for whom the system may have a file
abbrev pub may_come : ℕ → Bool → Bool → Bool
may_come left may_accept lacks_files = may_accept && not lacks_files && nat_lt 0 left

-- no slot is free, and nobody goes
abbrev pub IsShut : {R E : Type 0} → ℕ → Server R E → Type 0
IsShut now server = IsFull server.connections × GoesFirst (readiness_at server.timers.items server.connections now) 128 None

-- whether whoever has a timer gives way to one who waits, before it begins a further message
abbrev pub gives_way : Option ℕ → Option Timer → ℕ → Bool
gives_way None timer now = false
gives_way (Some since) None now = false
gives_way (Some since) (Some timer) now = begins_no_more timer now

-- Behind a turn whoever's conversation is over leaves, and whoever gives way.
abbrev pub leaves_behind : Option ℕ → Option Timer → Needs → ℕ → Bool
leaves_behind wanted timer needs.Nothing now = true
leaves_behind wanted timer needs.Bytes now = gives_way wanted timer now
leaves_behind wanted timer needs.Room now = gives_way wanted timer now

-- who is at a slot from which one leaves, or not
abbrev pub unless_leaves : Bool → Option Caller → Option Caller
unless_leaves true whoever = None
unless_leaves false whoever = whoever

-- Since when one more waits behind that: whoever leaves makes a slot free, for which nobody waits then.
abbrev pub wanted_still : Bool → Option ℕ → Option ℕ
wanted_still true wanted = None
wanted_still false wanted = wanted
