-- What a framing shows: the bytes not yet taken, and the message that was taken last.
use Rattle.std.specs.Prelude.{◌≡◌, ℕ, ◌<◌, List, ◌++◌, length, Option, Some, None, Result, Ok, Err}
use Rattle.web_http.specs.declared.fault.FrameFault.{FrameFault}
use Rattle.web_http.specs.Messages.{Message, Takes, Faults, HasNone}

-- the bytes that are not yet taken, and the message that was taken last, unless it is forgotten
pub record Framed : Type 0 where
  pub left : List ℕ
  pub taken : Option Message

-- the message is the first, whatever follows
abbrev pub TakesFirst : List ℕ → Message → List ℕ → Type 0
TakesFirst bytes m rest = (more : List ℕ) → Takes (bytes ++ more) m (rest ++ more)

-- the fault is there, whatever follows
abbrev pub FaultsFirst : List ℕ → FrameFault → Type 0
FaultsFirst bytes f = (more : List ℕ) → Faults (bytes ++ more) f

-- The first message is taken off, or the fault is there and nothing is taken, or neither is there. The message before is
-- forgotten.
abbrev pub Goes : Framed → Framed → Option (Result (Unit {0}) FrameFault) → Type 0
Goes old new None = HasNone old.left × (new.left ≡ old.left) × (new.taken ≡ None)
Goes old new (Some (Ok u)) = (m : Message) × (new.taken ≡ Some m) × TakesFirst old.left m new.left × (length new.left < length old.left)
Goes old new (Some (Err f)) = FaultsFirst old.left f × (new.left ≡ old.left) × (new.taken ≡ None)
