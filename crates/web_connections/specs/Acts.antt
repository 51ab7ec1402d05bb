-- What a handler did, message by message: a tick, the message, its answer.
use Rattle.std.specs.Prelude.{◌≡◌, List, [], ◌∷◌, ◌++◌, map, Option}
use Rattle.base_values.specs.declared.answer.Answer.{Answer}
use Rattle.base_devices.specs.declared.device.Tick.{Tick}
use Rattle.web_http.specs.Messages.{Message}

-- what was done for one message: at which tick, which message, which answer
pub record Act : Type 0 where
  pub tick : Tick
  pub message : Message
  pub answer : Answer

-- at which tick a message was answered
abbrev pub tick_of : Act → Tick
tick_of a = a.tick

-- the ticks of acts, in their order; each act takes one
abbrev pub ticks : List Act → List Tick
ticks acts = map tick_of acts

-- from this handler these acts lead to that one, one after another
abbrev pub Acts : {D : Type 0} → (D → Tick → Message → Answer → D → Type 0) → D → List Act → D → Type 0
Acts Serves d [] e = e ≡ d
Acts {D} Serves d (a ∷ acts) e = (mid : D) × Serves d a.tick a.message a.answer mid × Acts Serves mid acts e

-- a handler that only records what it did
abbrev pub Records : List Act → Tick → Message → Answer → List Act → Type 0
Records old t m answer new = new ≡ old ++ record { tick = t; message = m; answer = answer } ∷ []

-- how far a server is: the ticks that it was given, where that is known, and its handler
pub record Between (D : Type 0) : Type 0 where
  pub reported : Option (List Tick)
  pub handler : D

-- a handler, and the ticks that the server was given till then, where that is known
abbrev pub between : {D : Type 0} → Option (List Tick) → D → Between D
between reported handler = record { reported = reported; handler = handler }

-- the ticks that the server was given till then, with another handler
abbrev pub seen_at : {D E : Type 0} → Between D → E → Between E
seen_at slot handler = between slot.reported handler
