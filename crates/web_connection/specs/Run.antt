-- A run of a handler over the messages of a stream.
use Rattle.std.specs.Prelude.{◌≡◌, ℕ, ◌+◌, ◌-◌, ◌*◌, ◌<◌, ◌≤◌, ◌⊎◌, Bool, List, [], ◌∷◌, ◌++◌, length, map, Option, Some, Result, Ok, Err, true, false}
use Rattle.std.specs.Io.KnownBytes.{IsAtEnd}
use Rattle.base_values.specs.declared.answer.Answer.{Answer}
use Rattle.base_devices.specs.declared.device.Tick.{Tick}
use Rattle.base_devices.specs.declared.device.Source as source
use Rattle.base_devices.specs.declared.device.Ticks as clock
use Rattle.base_devices.specs.declared.device.Drain as drain
use Rattle.base_devices.specs.Reported.{Adds, Gives}
use Rattle.web_http.specs.declared.fault.FrameFault.{FrameFault}
use Rattle.web_http.specs.Text.{text, fault_text}
use Rattle.web_http.specs.Messages.{Message, Takes, Faults, HasNone, closes, Messages, whole}
use Rattle.web_http.specs.Framed.{TakesFirst}
use Rattle.web_connection.specs.declared.failure.Failure.{Failure}
use Rattle.web_connection.specs.declared.failure.Failure.TheVariants as failures
use Rattle.web_connection.specs.declared.failure.Step.{Step}
use Rattle.web_connection.specs.declared.failure.Step.TheVariants as steps

-- what a stream holds: a whole message, or the fault that ends it
abbrev pub Item : Type 0
Item = Result Message FrameFault

-- A run from one handler to another, with what is written: one tick and one answer for each message, in order, and the
-- text of each answer, one after another, and nothing else. A fault takes no tick, and leaves the handler as it is.
abbrev pub Runs : {D : Type 0} → (D → Tick → Message → Answer → D → Type 0) → D → List Tick → List Item → List ℕ → D → Type 0
Runs Serves d [] [] written e = (written ≡ []) × (e ≡ d)
Runs Serves d [] (Err f ∷ items) written e = (written ≡ fault_text f) × (e ≡ d) × (items ≡ [])
Runs Serves d [] (Ok m ∷ items) written e = ⊥
Runs Serves d (t ∷ ts) [] written e = ⊥
Runs Serves d (t ∷ ts) (Err f ∷ items) written e = ⊥
Runs {D} Serves d (t ∷ ts) (Ok m ∷ items) written e =
    (mid : D) × (answer : Answer) × (rest : List ℕ) × Serves d t m answer mid × (written ≡ text answer (closes m) ++ rest) × Runs Serves mid ts items rest e

-- a handler serves a message at a tick of which this is known
abbrev pub AtTick : {D : Type 0} → (Option Tick → Type 0) → (D → Tick → Message → Answer → D → Type 0) → D → Tick → Message → Answer → D → Type 0
AtTick reads Serves old tick m answer new = reads (Some tick) × Serves old tick m answer new

-- the item is the next one of the bytes
abbrev pub IsNext : List ℕ → Item → Type 0
IsNext bytes (Ok m) = (rest : List ℕ) × Takes bytes m rest
IsNext bytes (Err f) = Faults bytes f

-- the messages are at the front of the bytes, none of them ends the connection, and rest follows
abbrev pub Chain : List ℕ → List Message → List ℕ → Type 0
Chain bytes [] rest = bytes ≡ rest
Chain bytes (m ∷ ms) rest = (mid : List ℕ) × TakesFirst bytes m mid × (closes m ≡ false) × Chain mid ms rest

-- whatever follows the bytes, the items are the messages
abbrev pub AreAlways : List ℕ → List Item → Type 0
AreAlways bytes items = (more : List ℕ) → Messages (bytes ++ more) items

-- The items are all the messages of the stream that begins with these bytes: the last of them ends the connection, so that
-- what follows doesn't matter, or nothing follows.
abbrev pub AreAll : List ℕ → Option (List ℕ) → List Item → Type 0
AreAll bytes after items = AreAlways bytes items ⊎ (Messages bytes items × IsAtEnd after)

-- where a run stands: the bytes not yet taken, the ticks that were told, the handler, and what was written
pub record Cursor (D : Type 0) : Type 0 where
  pub left : List ℕ
  pub reported : Option (List Tick)
  pub handler : D
  pub taken : Option (List ℕ)

-- the cursor with these bytes left, these ticks, this handler and what was written
abbrev pub cursor : {D : Type 0} → List ℕ → Option (List Tick) → D → Option (List ℕ) → Cursor D
cursor left reported handler taken = record { left = left; reported = reported; handler = handler; taken = taken }

-- the messages at the front were answered, and none of them ends the connection
pub record Progress {D : Type 0} (Serves : D → Tick → Message → Answer → D → Type 0) (old new : Cursor D) : Type 0 where
  pub messages : List Message
  pub ticks : List Tick
  pub written : List ℕ
  pub chain : Chain old.left messages new.left
  pub reported : Adds old.reported ticks new.reported
  pub taken : Adds old.taken written new.taken
  pub runs : Runs Serves old.handler ticks (map whole messages) written new.handler

-- the messages were answered, in order, and nothing else was written
pub record Finished {D : Type 0} (Serves : D → Tick → Message → Answer → D → Type 0) (IsOf : List Item → Type 0) (old new : Cursor D) : Type 0 where
  pub items : List Item
  pub ticks : List Tick
  pub written : List ℕ
  pub all : IsOf items
  pub reported : Adds old.reported ticks new.reported
  pub taken : Adds old.taken written new.taken
  pub runs : Runs Serves old.handler ticks items written new.handler

-- an item more was acted on, and the front of its text was written
pub record CutOff {D : Type 0} (Serves : D → Tick → Message → Answer → D → Type 0) (old new : Cursor D) : Type 0 where
  pub item : Item
  pub ticks : List Tick
  pub part : List ℕ
  pub rest : List ℕ
  pub next : IsNext old.left item
  pub reported : Adds old.reported ticks new.reported
  pub taken : Adds old.taken part new.taken
  pub runs : Runs Serves old.handler ticks (item ∷ []) (part ++ rest) new.handler

-- what one call of a reader gives: some bytes, at most 65,536
abbrev pub IsReadBuffer : List ℕ → Type 0
IsReadBuffer input = (0 < length input) × (length input ≤ 65536)

-- no message is left in what was there before the last bytes came, which one call of the reader gave
abbrev pub LosesRead : List ℕ → Type 0
LosesRead bytes = (waiting : List ℕ) × (input : List ℕ) × (bytes ≡ waiting ++ input) × HasNone waiting × (length input ≤ 65536)

-- nothing more was told or written, and the handler is as it was
pub record Stopped {D : Type 0} (old new : Cursor D) : Type 0 where
  pub reported : Adds old.reported [] new.reported
  pub taken : Adds old.taken [] new.taken
  pub handler : new.handler ≡ old.handler

-- Where a run breaks off, behind the messages that were answered whole: where the writer fails, within the text of the next
-- one; where the clock fails, before the next one, which is there; where the reader fails or its limit is met, once no message
-- is left; and where the room for what was read can't grow, once none is left in what was read before, so that only the bytes
-- of one call are lost.
abbrev pub BreaksOff : {D : Type 0} → (D → Tick → Message → Answer → D → Type 0) → Failure → Cursor D → Cursor D → Type 0
BreaksOff Serves failures.Output old new = CutOff Serves old new
BreaksOff Serves failures.Clock old new = Stopped old new × ((m : Message) × IsNext old.left (Ok m))
BreaksOff Serves failures.Input old new = Stopped old new × HasNone old.left
BreaksOff Serves failures.Limit old new = Stopped old new × HasNone old.left
BreaksOff Serves failures.Memory old new = Stopped old new × LosesRead old.left

-- messages at the front were answered whole, and there the run breaks off
pub record Broken {D : Type 0} (Serves : D → Tick → Message → Answer → D → Type 0) (e : Failure) (old new : Cursor D) : Type 0 where
  pub mid : Cursor D
  pub before : Progress Serves old mid
  pub last : BreaksOff Serves e mid new

-- what one step leads to
abbrev pub Steps : {D : Type 0} → (D → Tick → Message → Answer → D → Type 0) → Cursor D → Cursor D → Result Step Failure → Type 0
Steps Serves old new (Ok steps.Waits) = HasNone old.left × (new ≡ old)
Steps Serves old new (Ok steps.Goes) = Progress Serves old new × (length new.left < length old.left)
Steps Serves old new (Ok steps.Ends) = Finished Serves (AreAlways old.left) old new
Steps Serves old new (Err e) = Broken Serves e old new

-- what all steps that can be made lead to: the bytes wait for more, or the connection ends
abbrev pub ServesReady : {D : Type 0} → (D → Tick → Message → Answer → D → Type 0) → Cursor D → Cursor D → Result Bool Failure → Type 0
ServesReady Serves old new (Ok true) = Progress Serves old new × HasNone new.left
ServesReady Serves old new (Ok false) = Finished Serves (AreAlways old.left) old new
ServesReady Serves old new (Err e) = Broken Serves e old new

-- What a whole run over these bytes leads to, where `after` is what the reader still has. At its end all messages of the
-- stream are answered; where it fails, the first ones are, and what was written is the front of their text.
abbrev pub Streams : {D : Type 0} → (D → Tick → Message → Answer → D → Type 0) → Option (List ℕ) → Cursor D → Cursor D → Result (Unit {0}) Failure → Type 0
Streams Serves after old new (Ok u) = Finished Serves (AreAll old.left after) old new
Streams Serves after old new (Err e) = Broken Serves e old new

-- where the devices of a run and its handler stand: what the reader still has, where that is known, and the calls that were made of
-- it; the ticks that were told; the handler; and what was written
pub record Devices (D : Type 0) : Type 0 where
  pub left : Option (List ℕ)
  pub calls : ℕ
  pub reported : Option (List Tick)
  pub handler : D
  pub taken : Option (List ℕ)

-- where this reader, this clock, this handler and this writer stand
abbrev pub devices_at : {R T D W : Type 0} → source.Ghosts R → clock.Ghosts T → drain.Ghosts W → R → T → D → W → Devices D
devices_at r t w reader ticks handler writer =
    record { left = r.left reader; calls = r.calls reader; reported = t.reported ticks; handler = handler; taken = w.taken writer }

-- the devices with another handler among them
abbrev pub with_handler : {D E : Type 0} → Devices D → E → Devices E
with_handler devices handler = record { left = devices.left; calls = devices.calls; reported = devices.reported; handler = handler; taken = devices.taken }

-- how many of the calls of the reader gave nothing: the last one, where the run comes to the end or the reader fails
abbrev pub idle_reads : Result (Unit {0}) Failure → ℕ
idle_reads (Ok u) = 1
idle_reads (Err failures.Input) = 1
idle_reads (Err failure) = 0

-- each of so many calls of the reader gave 1 to 65,536 of the bytes, but for those that gave nothing
pub record InPieces (bytes : List ℕ) (calls idle : ℕ) : Type 0 where
  pub most : length bytes ≤ 65536 * calls
  pub some : calls ≤ length bytes + idle

-- what a run leads to: the reader gave some bytes, and all that was told and written is of a run over them
pub record RunLeads {D : Type 0} (Serves : D → Tick → Message → Answer → D → Type 0) (old new : Devices D) (result : Result (Unit {0}) Failure) : Type 0 where
  pub bytes : List ℕ
  pub given : Gives old.left bytes new.left
  pub pieces : InPieces bytes (new.calls - old.calls) (idle_reads result)
  pub streams : Streams Serves new.left (cursor bytes old.reported old.handler old.taken) (cursor [] new.reported new.handler new.taken) result

-- a failure was counted where it is the clock's or the writer's, and no other one
abbrev pub Counted : {A : Type 0} → Result A Failure → ℕ → ℕ → ℕ → ℕ → Type 0
Counted (Ok a) clock clock' output output' = (clock' ≡ clock) × (output' ≡ output)
Counted (Err failures.Clock) clock clock' output output' = (clock < clock') × (output' ≡ output)
Counted (Err failures.Output) clock clock' output output' = (clock' ≡ clock) × (output < output')
Counted (Err failures.Input) clock clock' output output' = ⊥
Counted (Err failures.Memory) clock clock' output output' = ⊥
Counted (Err failures.Limit) clock clock' output output' = ⊥

-- what the devices of a run have counted: the failures of its clock, its writer and its reader, and the calls of the reader
pub record Counts : Type 0 where
  pub clock : ℕ
  pub output : ℕ
  pub input : ℕ
  pub calls : ℕ

-- what this reader, this clock and this writer have counted
abbrev pub device_counts : {R T W : Type 0} → source.Ghosts R → clock.Ghosts T → drain.Ghosts W → R → T → W → Counts
device_counts r t w reader ticks writer =
    record { clock = t.failures ticks; output = w.failures writer; input = r.failures reader; calls = r.calls reader }

-- the most calls of its reader that a run makes
abbrev pub most_reads : ℕ
most_reads = 1000000

-- How a whole run counts. It ends with the failure of a device where that device failed, and no other one did; else no device failed, and
-- the limit is met only by 1,000,000 reads.
abbrev pub CountedAll : Result (Unit {0}) Failure → Counts → Counts → Type 0
CountedAll (Ok u) old new = (new.clock ≡ old.clock) × (new.output ≡ old.output) × (new.input ≡ old.input)
CountedAll (Err failures.Clock) old new = (old.clock < new.clock) × (new.output ≡ old.output) × (new.input ≡ old.input)
CountedAll (Err failures.Output) old new = (new.clock ≡ old.clock) × (old.output < new.output) × (new.input ≡ old.input)
CountedAll (Err failures.Input) old new = (new.clock ≡ old.clock) × (new.output ≡ old.output) × (old.input < new.input)
CountedAll (Err failures.Memory) old new = (new.clock ≡ old.clock) × (new.output ≡ old.output) × (new.input ≡ old.input)
CountedAll (Err failures.Limit) old new =
    (new.clock ≡ old.clock) × (new.output ≡ old.output) × (new.input ≡ old.input) × (new.calls ≡ old.calls + most_reads)

-- A run ends with a number of its devices only for what they counted: 82 where the reader failed or was called 1,000,000
-- times, 83 where the writer failed, 85 where the clock failed.
pub record NumberCounted (number : ℕ) (old new : Counts) : Type 0 where
  pub input : number ≡ 82 → (old.input < new.input) ⊎ (new.calls ≡ old.calls + most_reads)
  pub output : number ≡ 83 → old.output < new.output
  pub clock : number ≡ 85 → old.clock < new.clock

-- The bytes that one call of the reader gives stand behind those that were there; no bytes come only at the end. A call that
-- fails gives none. Where the room can't grow, what came is lost, and what was there stays.
abbrev pub TakesIn : Result Bool Failure → List ℕ → List ℕ → Option (List ℕ) → Option (List ℕ) → Type 0
TakesIn (Ok true) old new given given' = (input : List ℕ) × Gives given input given' × IsReadBuffer input × (new ≡ old ++ input)
TakesIn (Ok false) old new given given' = Gives given [] given' × (new ≡ old) × IsAtEnd given'
TakesIn (Err failures.Input) old new given given' = Gives given [] given' × (new ≡ old)
TakesIn (Err e) old new given given' = (input : List ℕ) × Gives given input given' × IsReadBuffer input × (new ≡ old)

-- the reader's failure was counted
abbrev pub CountedIn : Result Bool Failure → ℕ → ℕ → Type 0
CountedIn (Ok b) input input' = input' ≡ input
CountedIn (Err failures.Input) input input' = input < input'
CountedIn (Err failures.Memory) input input' = input' ≡ input
CountedIn (Err failures.Clock) input input' = ⊥
CountedIn (Err failures.Output) input input' = ⊥
CountedIn (Err failures.Limit) input input' = ⊥
