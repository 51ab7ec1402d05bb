-- Callers at once, at one handler.
use Rattle.std.specs.Prelude.{◌≡◌, ◌+◌, ◌≤◌, ◌⊎◌, ⊤, ℕ, zero, suc, List, [], ◌∷◌, ◌++◌, None, Option, Result, Ok, Err}
use Rattle.base_values.specs.declared.answer.Answer.{Answer}
use Rattle.base_devices.specs.declared.device.Tick.{Tick}
use Rattle.base_devices.specs.Reported.{Adds}
use Rattle.web_http.specs.Messages.{Message}
use Rattle.web_connection.specs.declared.failure.Failure.TheVariants as failures
use Rattle.web_cli.specs.declared.fault.RunFault.{RunFault}
use Rattle.web_cli.specs.declared.fault.RunFault.TheVariants as faults
use Rattle.web_sockets.specs.Accepting.{Begun}
use Rattle.web_connections.specs.declared.turns.Next.{Next}
use Rattle.web_connections.specs.declared.turns.Next.TheVariants as nexts
pub use Rattle.web_connections.specs.Acts.{Between, between, seen_at}
use Rattle.web_connections.specs.Connections.{AreAmong, Callers, DoesAll, Connections, AcceptsOne, History, with_slot}

-- callers come and leave, one after another, and nobody has a turn
abbrev pub Rearranges : List Begun → Callers → Callers → List Next → Type 0
Rearranges came old new [] = (came ≡ []) × (new ≡ old)
Rearranges came old new (nexts.Comes ∷ others) =
    (amid : Callers) × (first : List Begun) × (later : List Begun) × (came ≡ first ++ later) × AcceptsOne first old amid × Rearranges later amid new others
Rearranges came old new (nexts.Leaves slot ∷ others) = Rearranges came (with_slot slot None old) new others
Rearranges came old new (nexts.Turn slot ∷ others) = ⊥

-- some callers came and some left, in some order, and nobody had a turn
pub record Rearranged (came : List Begun) (old new : Callers) : Type 0 where
  pub order : List Next
  pub all : Rearranges came old new order

-- callers come, have turns and leave, in some order
pub record Happened {D : Type 0} (Serves : D → Tick → Message → Answer → D → Type 0) (from to : Between D) (came : List Begun) (old new : Callers) : Type 0 where
  pub order : List Next
  pub all : DoesAll Serves from to came old new order

-- nobody came, and some left
pub record Clears (old new : Callers) : Type 0 where
  pub connections : Rearranged [] old new
  pub came : new.came ≡ old.came

-- What a deed of a server leaves in which nobody has a turn: callers came whom the network accepted, and some left; each who came was one of those who
-- were to be accepted still.
pub record Reassigns (old new : Callers) (before left : ℕ) (shown seen : Option (List Begun)) : Type 0 where
  pub came : List Begun
  pub reported : Adds shown came seen
  pub connections : Rearranged came old new
  pub count : new.came + left ≤ old.came + before

-- What a deed of a server leaves in which callers have turns too: callers came whom the network accepted, and some left; each who came was one
-- of those who were to be accepted still.
pub record Hosts {D : Type 0} (Serves : D → Tick → Message → Answer → D → Type 0) (from to : Between D) (old new : Callers) (before left : ℕ) (shown seen : Option (List Begun)) : Type 0 where
  pub came : List Begun
  pub reported : Adds shown came seen
  pub connections : Happened Serves from to came old new
  pub count : new.came + left ≤ old.came + before

-- At most so many callers came in, many of them at once, and each has the conversation of its own bytes. They are, in order, some of those whom the
-- network accepted.
pub record Served {D : Type 0} (Serves : D → Tick → Message → Answer → D → Type 0) (most : ℕ) (old new : Between D) (shown seen : Option (List Begun)) : Type 0 where
  pub came : ℕ
  pub within : came ≤ most
  pub all : History
  pub connections : Connections Serves came old new all
  pub begun : List Begun
  pub reported : Adds shown begun seen
  pub among : AreAmong all.firsts begun

-- how many callers are accepted: so many, and for 0 as many as a `u64` counts, which no server sees the end of
abbrev pub most_of : ℕ → ℕ
most_of zero = 18446744073709551615
most_of (suc n) = suc n

-- Why that ends early: no more callers can be accepted; or there is no room for a server, or where it listens couldn't be said, and then nobody came.
abbrev pub EndsEarly : RunFault → ℕ → Type 0
EndsEarly faults.Listen n = ⊤
EndsEarly faults.Memory n = n ≡ 0
EndsEarly (faults.Run failures.Output) n = n ≡ 0
EndsEarly fault n = ⊥

-- a server that can't be opened
abbrev pub EndsAtOnce : RunFault → Type 0
EndsAtOnce fault = (fault ≡ faults.Listen) ⊎ (fault ≡ faults.Memory)

-- rounds end early only where no more callers can be accepted; or there is no room for them, and nothing happened
abbrev pub RoundsEnd : Result (Unit {0}) RunFault → Callers → Callers → Type 0
RoundsEnd (Ok u) old new = ⊤
RoundsEnd (Err fault) old new = (fault ≡ faults.Listen) ⊎ ((fault ≡ faults.Memory) × (new ≡ old))

-- all of them came; or some did, and a fault ended it
abbrev pub AnswersCallers : {D : Type 0} → (D → Tick → Message → Answer → D → Type 0) → ℕ → Between D → Between D → Option (List Begun) → Option (List Begun) → Result (Unit {0}) RunFault → Type 0
AnswersCallers Serves most old new shown seen (Ok u) = Served Serves most old new shown seen
AnswersCallers Serves most old new shown seen (Err fault) = (served : Served Serves most old new shown seen) × EndsEarly fault served.came
