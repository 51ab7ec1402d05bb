-- Whose slot is given to another caller.
use Rattle.std.specs.Prelude.{◌≡◌, ◌+◌, ◌-◌, ◌^◌, ◌≤◌, ◌<◌, ◌&&◌, ◌||◌, ◌≢◌, ◌⊎◌, ℕ, zero, suc, min, nat_le, nat_lt, Bool, true, List, Option, Some, None, IfSome, is_none, if◌then◌else◌, slice_get}
use Rattle.web_connections.specs.declared.phase.Needs.{Needs}
use Rattle.web_connections.specs.declared.phase.Needs.TheVariants as needs
use Rattle.web_connections.specs.Connections.{Callers, IsFree, at_slot, slot_needs, with_slot}
use Rattle.web_server.specs.declared.timeouts.Load.{Load}
use Rattle.web_server.specs.declared.timeouts.Timer.{Timer}
use Rattle.web_server.specs.Timeouts.{load_with}

-- A slot is lent once its caller came a second ago, but an answer that is on its way has a second.
pub record IsLent (timer : Timer) (now : ℕ) : Type 0 where
  pub came : timer.came + 1000 ≤ now
  pub unsent : IfSome timer.unsent (λ since. since + 1000 ≤ now)

-- Who may have to go: whoever is between two requests, where that group is a greatest one; whoever is within one; whoever has had bytes unsent for a
-- second, where that group is greater than each other; and whoever has a slot that is lent.
abbrev pub MayGo : Load → Timer → Needs → ℕ → Type 0
MayGo load timer needs.Bytes now = timer.began ≡ None → ((load.within ≤ load.between) × (load.unsent ≤ load.between)) ⊎ IsLent timer now
MayGo load timer needs.Room now =
    IfSome timer.unsent (λ since. since + 1000 ≤ now)
    × (((timer.unsent ≢ None) × (load.between < load.unsent) × (load.within < load.unsent)) ⊎ IsLent timer now)
MayGo load timer needs.Nothing now = ⊥

-- how readily one goes who has waited so long: not at all within a grace; beyond it the longer the readier, with so much added
abbrev pub beyond : ℕ → ℕ → ℕ → Option ℕ
beyond grace more long = if nat_le grace long then Some (min (more + long) (2 ^ 64 - 1)) else None

-- Whoever waits for bytes may go: between two requests after a quarter of a second, before all who are within one, and only where these aren't
-- more; within one a second after it began.
abbrev pub readiness_of_waiting : Option ℕ → ℕ → Load → ℕ → Option ℕ
readiness_of_waiting None waits load now = if nat_lt load.between load.within || nat_lt load.between load.unsent then None else beyond 250 (2 ^ 63) (now - waits)
readiness_of_waiting (Some began) waits load now = beyond 1000 (2 ^ 62) (now - began)

-- Whoever has bytes unsent may go a second after the first of them was, before all others, and only where that group is greater than each other one.
abbrev pub readiness_of_sending : Option ℕ → Load → ℕ → Option ℕ
readiness_of_sending None load now = None
readiness_of_sending (Some unsent) load now = if nat_lt load.between load.unsent && nat_lt load.within load.unsent then beyond 1000 (2 ^ 63) (now - unsent) else None

-- how readily one goes as one of its group
abbrev pub readiness_in_group : Timer → Needs → Load → ℕ → Option ℕ
readiness_in_group timer needs.Bytes load now = readiness_of_waiting timer.began timer.waits load now
readiness_in_group timer needs.Room load now = readiness_of_sending timer.unsent load now
readiness_in_group timer needs.Nothing load now = None

-- nothing is unsent; or bytes have been for a second
abbrev pub is_owed_nothing : Option ℕ → ℕ → Bool
is_owed_nothing None now = true
is_owed_nothing (Some unsent) now = nat_le 1000 (now - unsent)

-- A slot is a caller's own for a second. Then it is lent: its caller goes once nothing of its answers is unsent, or has been for a second, and of
-- these whoever came first goes first.
abbrev pub lent : Timer → ℕ → Option ℕ
lent timer now = if nat_le 1000 (now - timer.came) && is_owed_nothing timer.unsent now then Some (min (now - timer.came) (2 ^ 62 - 1)) else None

-- as one of a group, or else as one whose slot is lent
abbrev pub or_lent : Option ℕ → Option ℕ → Option ℕ
or_lent None lent = lent
or_lent (Some readiness) lent = Some readiness

-- How readily one goes. Whoever goes as one of a group is readier than each whose slot is only lent.
abbrev pub readiness_of : Timer → Needs → Load → ℕ → Option ℕ
readiness_of timer needs.Bytes load now = or_lent (readiness_in_group timer needs.Bytes load now) (lent timer now)
readiness_of timer needs.Room load now = or_lent (readiness_in_group timer needs.Room load now) (lent timer now)
readiness_of timer needs.Nothing load now = None

-- While one more waits, whoever came a second ago begins no further message; what is unsent is sent.
abbrev pub begins_no_more : Timer → ℕ → Bool
begins_no_more timer now = is_none timer.unsent && nat_le 1000 (now - timer.came)

-- how readily a caller goes where it is known since when it waits; else it may not go
abbrev pub readiness_from : Option Timer → Needs → Load → ℕ → Option ℕ
readiness_from None needs load now = None
readiness_from (Some timer) needs load now = readiness_of timer needs load now

-- the load with whoever is at one more slot
abbrev pub load_at : Option Timer → Needs → Load → Load
load_at None needs load = load
load_at (Some timer) needs load = load_with timer needs load

-- how many are between two requests, and how many within one, at the first so many slots
unfoldable pub load_to : List Timer → Callers → ℕ → Load
load_to timer callers zero = record { between = 0; within = 0; unsent = 0 }
load_to timer callers (suc n) = load_at (slice_get timer n) (slot_needs (at_slot n callers)) (load_to timer callers n)

-- how readily whoever is at a slot goes, among all who are there
unfoldable pub readiness_at : List Timer → Callers → ℕ → ℕ → Option ℕ
readiness_at timer callers now slot = readiness_from (slice_get timer slot) (slot_needs (at_slot slot callers)) (load_to timer callers 128) now

-- Of the first so many slots: nobody may go; or one goes first, than whom nobody is readier.
abbrev pub GoesFirst : (ℕ → Option ℕ) → ℕ → Option ℕ → Type 0
GoesFirst ready n None = (slot : ℕ) → slot < n → ready slot ≡ None
GoesFirst ready n (Some first) = (most : ℕ) × (ready first ≡ Some most) × ((slot r : ℕ) → slot < n → ready slot ≡ Some r → r ≤ most)

-- who is there when that one has left
abbrev pub without : Option ℕ → Callers → Callers
without None callers = callers
without (Some slot) callers = with_slot slot None callers

-- A caller more comes: where a slot is free nobody leaves, else whoever goes first, of all 128 slots.
pub record MakesRoom (ready : ℕ → Option ℕ) (old new : Callers) : Type 0 where
  pub free : (slot : ℕ) → IsFree slot old → new ≡ old
  pub full : ((slot : ℕ) → IsFree slot old → ⊥) → (first : Option ℕ) × GoesFirst ready 128 first × (new ≡ without first old)

-- nobody is at any of the 128 slots
abbrev pub NobodyIsThere : Callers → Type 0
NobodyIsThere callers = (slot : ℕ) → slot < 128 → slot_needs (at_slot slot callers) ≡ needs.Nothing
