-- How long a caller may take, in milliseconds, and who is counted as between two requests or within one.
use Rattle.std.specs.Prelude.{◌≡◌, ◌+◌, ◌-◌, ◌^◌, ◌<◌, ◌||◌, ◌⊎◌, ℕ, Bool, true, false, min, nat_le, List, Option, Some, None, unwrap_or, slice_get, slice_set, if◌then◌else◌}
use Rattle.web_connections.specs.declared.phase.Needs.{Needs}
use Rattle.web_connections.specs.declared.phase.Needs.TheVariants as needs
use Rattle.web_connections.specs.Connections.{Caller, Callers, at_slot, slot_needs}
use Rattle.web_server.specs.declared.timeouts.Load.{Load}
use Rattle.web_server.specs.declared.timeouts.Timer.{Timer}

-- a count and one more, up to the greatest number of 64 bits
abbrev pub one_more : ℕ → ℕ
one_more n = min (n + 1) (2 ^ 64 - 1)

-- whoever waits for bytes is within a request, once it began, or else between two
abbrev pub load_of_waiting : Option ℕ → Load → Load
load_of_waiting None load = record load { between = one_more load.between }
load_of_waiting (Some began) load = record load { within = one_more load.within }

-- whoever has bytes unsent is of the third group; whoever may have another message there is of none
abbrev pub load_of_sending : Option ℕ → Load → Load
load_of_sending None load = load
load_of_sending (Some unsent) load = record load { unsent = one_more load.unsent }

-- the load with one caller more
abbrev pub load_with : Timer → Needs → Load → Load
load_with timer needs.Bytes load = load_of_waiting timer.began load
load_with timer needs.Room load = load_of_sending timer.unsent load
load_with timer needs.Nothing load = load

-- a minute for the next request to begin, and half a minute for one that began to be whole
abbrev pub takes_too_long : Option ℕ → ℕ → ℕ → Bool
takes_too_long None waits now = nat_le 60000 (now - waits)
takes_too_long (Some began) waits now = nat_le 30000 (now - began)

-- half a minute from when bytes were unsent first, without a break
abbrev pub sends_too_long : Option ℕ → ℕ → Bool
sends_too_long None now = false
sends_too_long (Some unsent) now = nat_le 30000 (now - unsent)

-- The time is up of whoever takes too long; or who takes no part of an answer for ten seconds, or has had bytes unsent for half a minute without a
-- break.
abbrev pub is_up : Timer → Needs → ℕ → Bool
is_up timer needs.Bytes now = takes_too_long timer.began timer.waits now
is_up timer needs.Room now = nat_le 10000 (now - timer.waits) || sends_too_long timer.unsent now
is_up timer needs.Nothing now = false

-- since when a request is on its way behind a turn: whoever waited for bytes, and does still, is within one
abbrev pub began_if : Needs → Option ℕ → ℕ → Option ℕ
began_if needs.Bytes began now = Some (unwrap_or began now)
began_if needs.Room began now = None
began_if needs.Nothing began now = None

-- nobody else is
abbrev pub began_after : Needs → Needs → Option ℕ → ℕ → Option ℕ
began_after needs.Bytes after began now = began_if after began now
began_after needs.Room after began now = None
began_after needs.Nothing after began now = None

-- since when bytes are unsent behind a turn: a part that is taken begins nothing anew, but only that none is left
abbrev pub unsent_after : Bool → Option ℕ → ℕ → Option ℕ
unsent_after true unsent now = Some (unwrap_or unsent now)
unsent_after false unsent now = None

-- The timer of a caller that came at that moment: it is within its first request from then on.
abbrev pub timer_begun : ℕ → Timer
timer_begun now = record { came = now; waits = now; began = Some now; unsent = None }

-- since when a caller waits behind a turn; when it came stays
abbrev pub timer_after : Timer → Needs → Needs → Bool → ℕ → Timer
timer_after timer before after unsent now = record { came = timer.came; waits = now; began = began_after before after timer.began now; unsent = unsent_after unsent timer.unsent now }

-- Whoever comes to a slot came now, and has waited since then, and all others keep their timers; or nobody comes, and nothing changes.
abbrev pub Begins : ℕ → ℕ → List Timer → List Timer → Callers → Callers → Type 0
Begins slot now timer timer' old new =
    ((new.came ≡ old.came) × (timer' ≡ timer)) ⊎ ((new.came ≡ old.came + 1) × (timer' ≡ slice_set timer slot (timer_begun now)))

-- since when callers wait, with what is so of the caller at a slot behind its turn; where its conversation is over nothing is kept
abbrev pub timers_after : ℕ → Option Timer → Needs → Needs → Bool → ℕ → List Timer → List Timer
timers_after slot found before needs.Nothing unsent now timer = timer
timers_after slot None before after unsent now timer = timer
timers_after slot (Some s) before after unsent now timer = slice_set timer slot (timer_after s before after unsent now)

-- whoever is at a slot is late if its time is up; a free slot needs nothing
abbrev pub is_late : Option Timer → ℕ → Option Caller → Bool
is_late None now whoever = false
is_late (Some timer) now whoever = is_up timer (slot_needs whoever) now

-- who is at a slot behind a look at it
abbrev pub stays : Option Timer → ℕ → Option Caller → Option Caller
stays timer now whoever = if is_late timer now whoever then None else whoever

-- A look at all 128 slots: those leave whose time is up, and nobody else.
pub record EndsLate (timer : List Timer) (now : ℕ) (old new : Callers) : Type 0 where
  pub came : new.came ≡ old.came
  pub slots : (slot : ℕ) → slot < 128 → at_slot slot new ≡ stays (slice_get timer slot) now (at_slot slot old)
