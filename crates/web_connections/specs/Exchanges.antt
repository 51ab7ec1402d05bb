-- One conversation, turn by turn.
use Rattle.std.specs.Prelude.{◌≡◌, ℕ, ◌<◌, ◌≤◌, List, [], ◌∷◌, ◌++◌, length, Option, Some}
use Rattle.std.specs.Io.KnownBytes.{IsAtEnd}
use Rattle.base_values.specs.declared.answer.Answer.{Answer}
use Rattle.base_devices.specs.declared.device.Tick.{Tick}
use Rattle.base_devices.specs.Reported.{Adds, Gives}
use Rattle.web_http.specs.Messages.{Message, HasNone}
use Rattle.web_connection.specs.declared.failure.Failure.{Failure}
use Rattle.web_connection.specs.Run.{AreAll, Broken, Cursor, Finished, Progress, cursor}
use Rattle.web_connections.specs.declared.phase.Phase.{Phase}
use Rattle.web_connections.specs.declared.phase.Phase.TheVariants as phases
use Rattle.web_connections.specs.declared.phase.Needs.{Needs}
use Rattle.web_connections.specs.declared.phase.Needs.TheVariants as needs
use Rattle.web_connections.specs.Acts.{Act, Acts, Between, Records, ticks}

-- how far a conversation is: the bytes that came and weren't taken yet, and what isn't sent yet; what is still to come, and what went out, where
-- that is known
pub record ConnectionState : Type 0 where
  pub phase : Phase
  pub left : List ℕ
  pub unsent : List ℕ
  pub coming : Option (List ℕ)
  pub gone : Option (List ℕ)

-- a conversation that begins: it waits for its first bytes
abbrev pub connection_begun : Option (List ℕ) → Option (List ℕ) → ConnectionState
connection_begun coming gone = record { phase = phases.Waits; left = []; unsent = []; coming = coming; gone = gone }

-- what it needs for its next turn: room, where an answer isn't sent whole or another message may be there; bytes, where it waits for them;
-- nothing, where it is over
abbrev pub needs_of : List ℕ → Phase → Needs
needs_of (b ∷ unsent) phase = needs.Room
needs_of [] phases.Waits = needs.Bytes
needs_of [] phases.Goes = needs.Room
needs_of [] phases.Ends = needs.Nothing
needs_of [] phases.Lost = needs.Nothing

-- a part of the answer may be sent; where it waits for bytes no message is whole
pub record IsConnection (at : ℕ) (answer : List ℕ) (phase : Phase) (left : List ℕ) : Type 0 where
  pub within : at ≤ length answer
  pub waits : phase ≡ phases.Waits → HasNone left

-- How far a run came: its first messages were answered, and where it waits none is left; or all of them were; or it broke off.
abbrev pub Went : {D : Type 0} → (D → Tick → Message → Answer → D → Type 0) → Option (List ℕ) → Phase → Cursor D → Cursor D → Type 0
Went Serves after phases.Waits p q = Progress Serves p q × HasNone q.left
Went Serves after phases.Goes p q = Progress Serves p q
Went Serves after phases.Ends p q = Finished Serves (AreAll p.left after) p q
Went Serves after phases.Lost p q = (e : Failure) × Broken Serves e p q

-- the cursor of a conversation that has these acts behind it, whose texts are this text
abbrev pub acts_recorded : List ℕ → List Act → List ℕ → Cursor (List Act)
acts_recorded left own text = cursor left (Some (ticks own)) own (Some text)

-- A conversation from its first byte: its own acts are those of its own bytes, in order, and what went out is the front of their texts.
pub record Exchanges (first : ConnectionState) (own : List Act) (now : ConnectionState) : Type 0 where
  pub bytes : List ℕ
  pub given : Gives first.coming bytes now.coming
  pub text : List ℕ
  pub went : Went Records now.coming now.phase (acts_recorded bytes [] []) (acts_recorded now.left own text)
  pub sent : List ℕ
  pub is : text ≡ sent ++ now.unsent
  pub out : Adds first.gone sent now.gone

-- Where another message may be there, the first one that is whole is answered at a handler, whose page has this text before and that one behind; nothing
-- is read or sent meanwhile. Where it goes on it took some of the bytes.
pub record Replies {D : Type 0} (Serves : D → Tick → Message → Answer → D → Type 0) (from to : Between D) (before behind : List ℕ) (old new : ConnectionState) : Type 0 where
  pub went : Went Serves new.coming new.phase (cursor old.left from.reported from.handler (Some before)) (cursor new.left to.reported to.handler (Some behind))
  pub coming : new.coming ≡ old.coming
  pub gone : new.gone ≡ old.gone
  pub takes : new.phase ≡ phases.Goes → length new.left < length old.left

-- whatever conversation it was in goes on, without an act
abbrev pub Moves : ConnectionState → ConnectionState → Type 0
Moves old new = (first : ConnectionState) (own : List Act) → Exchanges first own old → Exchanges first own new

-- A turn: some acts, and whatever conversation it was in goes on with them.
pub record Turn {D : Type 0} (Serves : D → Tick → Message → Answer → D → Type 0) (from to : Between D) (old new : ConnectionState) : Type 0 where
  pub acts : List Act
  pub acted : Acts Serves from.handler acts to.handler
  pub reported : Adds from.reported (ticks acts) to.reported
  pub exchanges : (first : ConnectionState) (own : List Act) → Exchanges first own old → Exchanges first (own ++ acts) new

-- Where another message may be there, and nothing is unsent, a turn takes one; or the conversation doesn't go on, but waits, ends or breaks off.
abbrev pub Takes : ConnectionState → ConnectionState → Type 0
Takes old new = old.phase ≡ phases.Goes → old.unsent ≡ [] → new.phase ≡ phases.Goes → length new.left < length old.left

-- a part of what isn't sent was sent, perhaps none of it
pub record Sends (old new : ConnectionState) : Type 0 where
  pub part : List ℕ
  pub phase : new.phase ≡ old.phase
  pub left : new.left ≡ old.left
  pub coming : new.coming ≡ old.coming
  pub unsent : old.unsent ≡ part ++ new.unsent
  pub gone : Adds old.gone part new.gone

-- what a read leads to: more bytes; none yet; the end of what comes; or a read buffer that is lost
abbrev pub Came : Phase → ConnectionState → ConnectionState → Type 0
Came phases.Waits old new = Gives old.coming [] new.coming × (new.left ≡ old.left)
Came phases.Goes old new = (input : List ℕ) × Gives old.coming input new.coming × (new.left ≡ old.left ++ input)
Came phases.Ends old new = Gives old.coming [] new.coming × (new.left ≡ old.left) × IsAtEnd new.coming
Came phases.Lost old new = (input : List ℕ) × Gives old.coming input new.coming × (length input ≤ 65536)

-- a conversation in whose bytes no message is whole reads some more, and sends nothing meanwhile
pub record Hears (old new : ConnectionState) : Type 0 where
  pub came : Came new.phase old new
  pub none : HasNone old.left
  pub unsent : new.unsent ≡ old.unsent
  pub gone : new.gone ≡ old.gone
