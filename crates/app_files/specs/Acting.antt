-- What becomes of a shop's database when the program asks something of the shop by itself.
use Rattle.std.specs.Prelude.{◌≡◌, ◌⊎◌, ◌++◌, ◌∷◌, ℕ, List, [], Option, Some, None, Result, Ok, Err, true, codes}
use Rattle.sqlite.specs.declared.connection.Connection.{Connection}
use Rattle.base_values.specs.declared.answer.Answer.{Answer}
use Rattle.base_values.specs.declared.answer.Answer.TheVariants.{Decided, Unavailable}
use Rattle.base_values.specs.declared.answer.Response.{Response}
use Rattle.model_commands.specs.declared.replies.Reply.{Reply}
use Rattle.model_commands.specs.declared.requests.Command.{Command}
use Rattle.web_connection.specs.declared.failure.Failure.TheVariants as failures
use Rattle.office_deliveries.specs.Deliveries.{Delivery, Opening, answer_told}
use Rattle.office_deliveries.specs.Histories.{IsRunning, Running, after_act}
use Rattle.office_deliveries.specs.Shops.{IsAnswered, IsDecided, StandsFor, Views, arrival_delivered, executes, arrival_served}
use Rattle.office_deliveries.specs.declared.arrival.Arrival.{Arrival}
use Rattle.office_deliveries.specs.declared.arrival.Request.TheVariants as requests
use Rattle.base_devices.specs.declared.device.Tick.{Tick}
use Rattle.model_answers.specs.ShopView.{IsSame, ShopView}
use Rattle.model_invariant.specs.Sound.{IsSound}
use Rattle.file_tables.specs.declared.sql.SqlTables.{SqlTables}
use Rattle.web_handler.specs.Streams.{HandlerView, House, Meaning}
use Rattle.web_cli.specs.declared.fault.RunFault.{RunFault}
use Rattle.web_cli.specs.declared.fault.RunFault.TheVariants as faults

-- the arrival that a command of the program's own is: it has no key, and so it shows no token
abbrev pub own_arrival : Command → Tick → Arrival
own_arrival command tick = record { clock = tick.clock; draw = tick.draw; token = 0; key = []; request = requests.Write command }

-- the body of a reply that the command doesn't cause
abbrev pub untold : List ℕ
untold = codes "{}"

-- what is told of its answer; where it wasn't carried out the store, or memory, refused it
abbrev pub told_of : Answer → Result (List ℕ) RunFault
told_of (Decided response) = Ok response.body
told_of Unavailable = Err faults.Store

-- The command is an arrival of this tick. It is answered like any other, and what it did is told. The handler is one of the same house, and
-- stands for the list of arrivals with this one behind it; where it was running it is running. Where it was answered 503 its office is as it
-- was, whatever became of its tables. A crash leaves what one before it could have left, or the whole of it, which is sound; and once what it
-- did is told, only that.
pub record Acts {T : Type 0} (words : Reply → Response) (command : Command) (tick : Tick) (tables : Meaning T) (first last : HandlerView T) (outcome : Result (List ℕ) RunFault) : Type 0 where
  pub answer : Answer
  pub told : outcome ≡ told_of answer
  pub organizer : last.organizer ≡ first.organizer
  pub event : last.event ≡ first.event
  pub office : answer ≡ Unavailable → last.state ≡ first.state
  pub sure : tables.sure last.tables → tables.sure first.tables
  pub house : tables.sure last.tables → (house : House) → tables.knows first.tables house → tables.knows last.tables house
  pub answered : tables.sure last.tables → (v : ShopView) → Views tables.holds first.tables first.state v
      → IsAnswered words (own_arrival command tick) v answer (λ w. Views tables.holds last.tables last.state w)
  pub stands : tables.sure last.tables → (p : Opening) (ds : List Delivery) → StandsFor words tables.holds first.tables first.state p ds
      → let d = arrival_delivered (own_arrival command tick) answer in StandsFor words tables.holds last.tables last.state p (ds ++ d ∷ []) × (answer_told words p ds d ≡ answer)
  pub running : tables.sure last.tables → (r : Running) → IsRunning words tables.holds tables.may_leave first.tables first.state r
      → IsRunning words tables.holds tables.may_leave last.tables last.state (after_act words (own_arrival command tick) answer r)
  pub crash : tables.sure last.tables → (left : ShopView) → tables.may_leave last.tables left → tables.may_leave first.tables left
      ⊎ ((v : ShopView) → Views tables.holds first.tables first.state v → IsSame left (arrival_served words (own_arrival command tick) v).0 × IsSound left.state)
  pub settled : tables.sure last.tables → IsDecided answer ((v : ShopView) → Views tables.holds first.tables first.state v → executes (own_arrival command tick) v ≡ true
      → (left : ShopView) → tables.may_leave last.tables left → IsSame left (arrival_served words (own_arrival command tick) v).0)

-- from this handler the command is carried out at the tick that is read of the system, or none can be read, and nothing is done
pub record ActsFrom {S : Type 0} (reads : Option Tick → Type 0) (words : Reply → Response) (command : Command) (tables : Meaning (SqlTables S)) (first : HandlerView (SqlTables S)) (left : Connection S) (outcome : Result (List ℕ) RunFault) : Type 0 where
  pub last : HandlerView (SqlTables S)
  pub act : ((tick : Tick) × reads (Some tick) × Acts words command tick tables first last outcome) ⊎ (reads None × (outcome ≡ Err (faults.Run failures.Clock)) × (last ≡ first))
  pub connection : left ≡ last.tables.connection
