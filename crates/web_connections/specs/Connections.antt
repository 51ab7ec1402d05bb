-- Many conversations at one handler, whose callers come and go.
use Rattle.std.specs.Prelude.{◌≡◌, ⊤, ◌⊎◌, Bool, true, false, ℕ, ◌==◌, ◌+◌, ◌<◌, ◌≤◌, List, [], ◌∷◌, ◌++◌, length, map, Option, Some, None, if◌then◌else◌, slice_index_or, slice_set}
use Rattle.base_values.specs.declared.answer.Answer.{Answer}
use Rattle.base_devices.specs.declared.device.Tick.{Tick}
use Rattle.base_devices.specs.Reported.{Adds}
use Rattle.web_http.specs.Messages.{Message}
use Rattle.web_http.specs.Framed.{Framed}
use Rattle.web_sockets.specs.Accepting.{Begun}
use Rattle.web_connections.specs.declared.phase.Needs.{Needs}
use Rattle.web_connections.specs.declared.phase.Needs.TheVariants as needs
use Rattle.web_connections.specs.declared.phase.Phase.TheVariants as phases
use Rattle.web_connections.specs.declared.turns.Next.{Next}
use Rattle.web_connections.specs.declared.turns.Next.TheVariants as nexts
use Rattle.web_connections.specs.Acts.{Act, Acts, Between, ticks}
use Rattle.web_connections.specs.Exchanges.{ConnectionState, Takes, Exchanges, Turn, connection_begun, needs_of}

-- ---- slots

-- a caller: how many came before it, and how far its conversation is
pub record Caller : Type 0 where
  pub number : ℕ
  pub state : ConnectionState

-- the caller who has this number, with its conversation
abbrev pub caller : ℕ → ConnectionState → Caller
caller number state = record { number = number; state = state }

-- a slot, which is free or has a caller
abbrev pub caller_in_slot : ℕ → Option ConnectionState → Option Caller
caller_in_slot number None = None
caller_in_slot number (Some state) = Some (caller number state)

-- how many callers came, and who is at each slot
pub record Callers : Type 0 where
  pub came : ℕ
  pub slots : List (Option Caller)

-- how many came in all, and who is at each slot now
abbrev pub callers : ℕ → List (Option Caller) → Callers
callers came slots = record { came = came; slots = slots }

-- who is at a slot; beyond the last slot nobody is
abbrev pub at_slot : ℕ → Callers → Option Caller
at_slot slot now = slice_index_or now.slots slot None

-- callers with another one, or nobody, at that slot
abbrev pub with_slot : ℕ → Option Caller → Callers → Callers
with_slot slot whoever now = callers now.came (slice_set now.slots slot whoever)

-- the next caller takes a slot, with the next number
abbrev pub with_caller : ℕ → ConnectionState → Callers → Callers
with_caller slot state now = callers (now.came + 1) (slice_set now.slots slot (Some (caller now.came state)))

-- a turn of whoever is at a slot: at a free one nothing happens
abbrev pub TakesTurn : {D : Type 0} → (D → Tick → Message → Answer → D → Type 0) → Between D → Between D → Option Caller → Option Caller → Type 0
TakesTurn Serves from to None new = (new ≡ None) × (to ≡ from)
TakesTurn Serves from to (Some c) new = (state : ConnectionState) × (new ≡ Some (caller c.number state)) × Turn Serves from to c.state state × Takes c.state state

-- the turn of whoever is at a slot
abbrev pub TurnsAt : {D : Type 0} → (D → Tick → Message → Answer → D → Type 0) → Between D → Between D → ℕ → Callers → Callers → Type 0
TurnsAt Serves from to slot old new =
    (whoever : Option Caller) × TakesTurn Serves from to (at_slot slot old) whoever × (new ≡ with_slot slot whoever old)

-- a slot is free for one more caller, who can have a number still
pub record IsFree (slot : ℕ) (now : Callers) : Type 0 where
  pub within : slot < length now.slots
  pub free : at_slot slot now ≡ None
  pub number : now.came < 18446744073709551615

-- a slot that is free, or none is
abbrev pub FindsFree : List (Option Caller) → Option ℕ → Type 0
FindsFree slots (Some slot) = (slot < length slots) × (slice_index_or slots slot None ≡ None)
FindsFree slots None = (slot : ℕ) → slot < length slots → slice_index_or slots slot None ≡ None → ⊥

-- what whoever is at a slot needs for the next turn; a free slot needs nothing
abbrev pub slot_needs : Option Caller → Needs
slot_needs None = needs.Nothing
slot_needs (Some c) = needs_of c.state.unsent c.state.phase

-- whether there are bytes
abbrev pub has_some : List ℕ → Bool
has_some [] = false
has_some (b ∷ bs) = true

-- whether whoever is at a slot has bytes unsent
abbrev pub slot_unsent : Option Caller → Bool
slot_unsent None = false
slot_unsent (Some c) = has_some c.state.unsent

-- whoever leaves takes the connection along as it is
abbrev pub leaves_with : {E : Type 0} → (E → Option (List ℕ)) → (E → Option (List ℕ)) → Option Caller → Option E → Type 0
leaves_with left taken None None = ⊤
leaves_with left taken None (Some ends) = ⊥
leaves_with left taken (Some c) None = ⊥
leaves_with left taken (Some c) (Some ends) = (left ends ≡ c.state.coming) × (taken ends ≡ c.state.gone)

-- room for a conversation that is there already has nothing of another one
abbrev pub IsSpare : Option Framed → Type 0
IsSpare None = ⊤
IsSpare (Some frames) = frames.left ≡ []

-- ---- what happens, one after another

-- a conversation as a caller begins it
abbrev pub state_begun : Begun → ConnectionState
state_begun b = connection_begun b.coming b.gone

-- Nobody comes; or one does, who takes a slot that is free, or none.
abbrev pub AcceptsOne : List Begun → Callers → Callers → Type 0
AcceptsOne [] old new = new ≡ old
AcceptsOne (b ∷ bs) old new = (bs ≡ []) × ((new ≡ old) ⊎ ((slot : ℕ) × IsFree slot old × (new ≡ with_caller slot (state_begun b) old)))

-- a single thing that happens: somebody comes, or has a turn, or leaves
abbrev pub Does : {D : Type 0} → (D → Tick → Message → Answer → D → Type 0) → Between D → Between D → List Begun → Callers → Callers → Next → Type 0
Does Serves from to came old new nexts.Comes = (to ≡ from) × AcceptsOne came old new
Does Serves from to came old new (nexts.Turn slot) = (came ≡ []) × TurnsAt Serves from to slot old new
Does Serves from to came old new (nexts.Leaves slot) = (came ≡ []) × (to ≡ from) × (new ≡ with_slot slot None old)

-- all of it, one after another, and all who came
abbrev pub DoesAll : {D : Type 0} → (D → Tick → Message → Answer → D → Type 0) → Between D → Between D → List Begun → Callers → Callers → List Next → Type 0
DoesAll Serves from to came old new [] = (came ≡ []) × (to ≡ from) × (new ≡ old)
DoesAll {D} Serves from to came old new (next ∷ others) =
    (mid : Between D) × (amid : Callers) × (first : List Begun) × (later : List Begun) × (came ≡ first ++ later)
    × Does Serves from mid first old amid next × DoesAll Serves mid to later amid new others

-- the conversations were begun by some of those who came, in their order
abbrev pub AreAmong : List ConnectionState → List Begun → Type 0
AreAmong states [] = states ≡ []
AreAmong states (b ∷ bs) = AreAmong states bs ⊎ ((rest : List ConnectionState) × (states ≡ state_begun b ∷ rest) × AreAmong rest bs)

-- ---- all callers since the connections opened

-- an act, and the number of the caller whose message it answered
pub record Heard : Type 0 where
  pub caller : ℕ
  pub act : Act

-- what was done, whoever it was for
abbrev pub act_of : Heard → Act
act_of h = h.act

-- what was done for all callers, in order
abbrev pub acts_of : List Heard → List Act
acts_of heard = map act_of heard

-- the acts for the caller with this number, in order
abbrev pub of : ℕ → List Heard → List Act
of n [] = []
of n (h ∷ hs) = if h.caller == n then h.act ∷ of n hs else of n hs

-- each act is for one of those who came
abbrev pub AreOf : ℕ → List Heard → Type 0
AreOf came [] = ⊤
AreOf came (h ∷ hs) = (h.caller < came) × AreOf came hs

-- nobody's conversation
abbrev pub nobody : ConnectionState
nobody = record { phase = phases.Lost; left = []; unsent = []; coming = None; gone = None }

-- What happened in the connections: each caller who came, by its number, as its conversation began and as it is, or was when the caller went; and one
-- list of acts for all of them.
pub record History : Type 0 where
  pub firsts : List ConnectionState
  pub lasts : List ConnectionState
  pub heard : List Heard

-- callers as they began, the same as they are now, and what was done for all of them
abbrev pub history : List ConnectionState → List ConnectionState → List Heard → History
history firsts lasts heard = record { firsts = firsts; lasts = lasts; heard = heard }

-- What holds when this many callers came: the acts lead from handler to handler, one after another, at the ticks that were given, and each is for
-- a caller among them. Each caller's conversation is the acts that are for it: they are those of its own bytes, in order, and what it was
-- sent is the front of their texts.
pub record Connections {D : Type 0} (Serves : D → Tick → Message → Answer → D → Type 0) (came : ℕ) (from to : Between D) (all : History) : Type 0 where
  pub acted : Acts Serves from.handler (acts_of all.heard) to.handler
  pub reported : Adds from.reported (ticks (acts_of all.heard)) to.reported
  pub are : AreOf came all.heard
  pub firsts : length all.firsts ≡ came
  pub lasts : length all.lasts ≡ came
  pub exchanges : (n : ℕ) → n < came → Exchanges (slice_index_or all.firsts n nobody) (of n all.heard) (slice_index_or all.lasts n nobody)

-- Whoever is at a slot is one of those who came, and its conversation is as far as that slot has it. Nobody has two slots.
pub record AreInSlots (now : Callers) (lasts : List ConnectionState) : Type 0 where
  pub here : (slot : ℕ) (c : Caller) → at_slot slot now ≡ Some c → (c.number < now.came) × (slice_index_or lasts c.number nobody ≡ c.state)
  pub apart : (i j : ℕ) (c d : Caller) → at_slot i now ≡ Some c → at_slot j now ≡ Some d → c.number ≡ d.number → i ≡ j

-- What holds of the connections and who is in it now: the acts lead on, and whoever is at a slot is as far as the story has it.
pub record Serving {D : Type 0} (Serves : D → Tick → Message → Answer → D → Type 0) (from to : Between D) (now : Callers) (all : History) : Type 0 where
  pub connections : Connections Serves now.came from to all
  pub in_slots : AreInSlots now all.lasts

-- a caller is at no slot
abbrev pub IsGone : ℕ → Callers → Type 0
IsGone n now = (slot : ℕ) (c : Caller) → at_slot slot now ≡ Some c → c.number ≡ n → ⊥

-- Whatever happened in the connections till then, this is what happened till now. Those who came till then began as they did, and their acts come first. Whoever
-- was gone then is gone for good: nothing more is for such a caller, and its conversation is as it was.
pub record GoesOn {D : Type 0} (Serves : D → Tick → Message → Answer → D → Type 0) (first from to : Between D) (old new : Callers) (till : History) : Type 0 where
  pub firsts : List ConnectionState
  pub lasts : List ConnectionState
  pub heard : List Heard
  pub serving : Serving Serves first to new (history (till.firsts ++ firsts) lasts (till.heard ++ heard))
  pub came : old.came ≤ new.came
  pub gone : (n : ℕ) → n < old.came → IsGone n old
      → IsGone n new × (slice_index_or lasts n nobody ≡ slice_index_or till.lasts n nobody) × (of n heard ≡ [])

-- whatever happened till then, the story goes on from it; whoever came in is one of those who came
abbrev pub LeadsOn : {D : Type 0} → (D → Tick → Message → Answer → D → Type 0) → Between D → Between D → List Begun → Callers → Callers → Type 0
LeadsOn {D} Serves from to came old new =
    (first : Between D) (till : History) → Serving Serves first from old till → (on : GoesOn Serves first from to old new till) × AreAmong on.firsts came
