-- What a command of the program's own comes to.
use Rattle.std.proofs.Common.{◌≡◌, ◌∙◌, ◌⊎◌, inl, inr, ℕ, List, [], ◌∷◌, ◌++◌, Option, Some, None, Result, Err, ap, ap₂, refl, subst, true}
use Rattle.sqlite_trees.specs.declared.store.Store.{Ghosts}
use Rattle.sqlite.specs.State.{State as Connected}
use Rattle.sqlite.specs.declared.connection.Connection.{Connection}
use Rattle.base_values.specs.declared.answer.Answer.{Answer}
use Rattle.base_values.specs.declared.answer.Answer.TheVariants.{Unavailable}
use Rattle.web_connection.specs.declared.failure.Failure.TheVariants as failures
use Rattle.office_deliveries.specs.Deliveries.{Delivery, Opening, answer_told}
use Rattle.office_deliveries.specs.Histories.{IsRunning, Running, TellsIt, after_act}
use Rattle.office_deliveries.specs.Shops.{IsAnswered, IsDecided, StandsFor, Views, arrival_delivered, executes, arrival_served}
use Rattle.office_deliveries.specs.declared.arrival.Arrival.{Arrival}
use Rattle.base_devices.specs.declared.device.Tick.{Tick}
use Rattle.model_answers.specs.ShopView.{IsSame, ShopView}
use Rattle.model_rows.specs.Lists.{State}
use Rattle.model_invariant.specs.Sound.{IsSound}
use Rattle.file_tables.specs.declared.sql.SqlTables.{SqlTables}
use Rattle.web_handler.specs.Streams.{HandlerView, House, Meaning, handler_with}
use Rattle.web_cli.specs.declared.fault.RunFault.{RunFault}
use Rattle.web_cli.specs.declared.fault.RunFault.TheVariants as faults
use Rattle.app_files.specs.Served.{OpensAs, StaysUnopened}
use Rattle.base_values.specs.declared.answer.Response.{Response}
use Rattle.model_commands.specs.declared.replies.Reply.{Reply}
use Rattle.model_commands.specs.declared.requests.Command.{Command}
use Rattle.app_files.specs.Acting.{Acts, ActsFrom, own_arrival, told_of}
use Rattle.app_files.specs.Worked.{IsOpenedAndWorked, work_words}
use Rattle.model_commands.specs.declared.requests.Command.TheVariants.{Periodic}

module _ {T : Type 0} (words : Reply → Response) (command : Command) (tick : Tick) (tables : Meaning T) where
  -- what an arrival comes to that was answered, and the write that a crash may leave of it
  abbrev Answered : Arrival → Answer → T → State → T → State → Type 0
  Answered a answer before s after t = tables.sure after → (v : ShopView) → Views tables.holds before s v → IsAnswered words a v answer (λ w. Views tables.holds after t w)

  abbrev Stands : Arrival → Answer → T → State → T → State → Type 0
  Stands a answer before s after t = tables.sure after → (p : Opening) (ds : List Delivery) → StandsFor words tables.holds before s p ds
      → StandsFor words tables.holds after t p (ds ++ arrival_delivered a answer ∷ []) × (answer_told words p ds (arrival_delivered a answer) ≡ answer)

  abbrev Runs : Arrival → Answer → T → State → T → State → Type 0
  Runs a answer before s after t = tables.sure after → (r : Running) → IsRunning words tables.holds tables.may_leave before s r
      → IsRunning words tables.holds tables.may_leave after t (after_act words a answer r) × TellsIt words a answer r.shop

  abbrev Leaves : Arrival → T → State → T → Type 0
  Leaves a before s after = tables.sure after → (left : ShopView) → tables.may_leave after left → tables.may_leave before left
      ⊎ ((v : ShopView) → Views tables.holds before s v → IsSame left (arrival_served words a v).0 × IsSound left.state)

  -- what a crash may leave once it is told
  abbrev Settles : Arrival → Answer → T → State → T → Type 0
  Settles a answer before s after = tables.sure after → IsDecided answer ((v : ShopView) → Views tables.holds before s v → executes a v ≡ true
      → (left : ShopView) → tables.may_leave after left → IsSame left (arrival_served words a v).0)

  -- the shop of tables and an office answered the arrival that the command is
  pub was_done : (organizer event : List ℕ) (before shop after given : T) (s of_shop t : State) (a : Arrival) (answer : Answer) (outcome : Result (List ℕ) RunFault)
      → shop ≡ before → of_shop ≡ s → a ≡ own_arrival command tick → outcome ≡ told_of answer → given ≡ after
      → (answer ≡ Unavailable → t ≡ of_shop) → (tables.sure after → tables.sure shop) → (tables.sure after → (house : House) → tables.knows shop house → tables.knows after house)
      → Answered a answer shop of_shop after t → Stands a answer shop of_shop after t → Runs a answer shop of_shop after t → Leaves a shop of_shop after → Settles a answer shop of_shop after
      → (last : HandlerView T) × Acts words command tick tables (handler_with before organizer event s) last outcome × (given ≡ last.tables)
  was_done organizer event before shop after given s of_shop t a answer outcome tables_are state_is arrival_is told given_is office sure house answered stands runs crash settled =
      let does : Acts words command tick tables (handler_with shop organizer event of_shop) (handler_with after organizer event t) outcome = record {
        answer = answer;
        told = told;
        organizer = refl;
        event = refl;
        office = office;
        sure = sure;
        house = house;
        answered = subst (λ (x : Arrival). Answered x answer shop of_shop after t) arrival_is answered;
        stands = subst (λ (x : Arrival). Stands x answer shop of_shop after t) arrival_is stands;
        running = λ is_sure r running. (subst (λ (x : Arrival). Runs x answer shop of_shop after t) arrival_is runs is_sure r running).0;
        crash = subst (λ (x : Arrival). Leaves x shop of_shop after) arrival_is crash;
        settled = subst (λ (x : Arrival). Settles x answer shop of_shop after) arrival_is settled;
      } in (
        handler_with after organizer event t,
        subst (λ (d : HandlerView T). Acts words command tick tables d (handler_with after organizer event t) outcome) (ap₂ (λ (x : T) (y : State). handler_with x organizer event y) tables_are state_is) does,
        given_is,
      )

-- in the words that the shop was given
pub spoken_as : {V T : Type 0} (say : V → Reply → Response) (a b : V) (command : Command) (tick : Tick) (tables : Meaning T) (first : HandlerView T) (outcome : Result (List ℕ) RunFault) (given : T) → a ≡ b
    → ((last : HandlerView T) × Acts (say a) command tick tables first last outcome × (given ≡ last.tables)) → (last : HandlerView T) × Acts (say b) command tick tables first last outcome × (given ≡ last.tables)
spoken_as {V} {T} say a b command tick tables first outcome given is done = subst (λ (v : V). (last : HandlerView T) × Acts (say v) command tick tables first last outcome × (given ≡ last.tables)) is done

module _ {S : Type 0} (words : Reply → Response) (command : Command) (tables : Meaning (SqlTables S)) where
  -- it was done over tables whose connection is handed back
  pub acts_there : (tick : Tick) (first : HandlerView (SqlTables S)) (given : SqlTables S) (left : Connection S) (outcome : Result (List ℕ) RunFault)
      → ((last : HandlerView (SqlTables S)) × Acts words command tick tables first last outcome × (given ≡ last.tables)) → left ≡ given.connection
      → (last : HandlerView (SqlTables S)) × Acts words command tick tables first last outcome × (left ≡ last.tables.connection)
  acts_there tick first given left outcome done is = (done.0, done.1, is ∙ ap (λ t. t.connection) done.2)

module _ {S : Type 0} (reads : Option Tick → Type 0) (words : Reply → Response) (command : Command) (tables : Meaning (SqlTables S)) where
  -- at a tick that was read
  pub at_tick : (tick : Tick) (first : HandlerView (SqlTables S)) (left : Connection S) (outcome : Result (List ℕ) RunFault) → reads (Some tick)
      → ((last : HandlerView (SqlTables S)) × Acts words command tick tables first last outcome × (left ≡ last.tables.connection)) → ActsFrom reads words command tables first left outcome
  at_tick tick first left outcome read done = record { last = done.0; act = inl (tick, read, done.1); connection = done.2 }

  -- none was read
  pub no_tick : (first : HandlerView (SqlTables S)) (left : Connection S) → reads None → left ≡ first.tables.connection → ActsFrom reads words command tables first left (Err (faults.Run failures.Clock))
  no_tick first left unread is = record { last = first; act = inr (unread, refl, refl); connection = is }

module _ {S : Type 0} (reads : Option Tick → Type 0) (tables : Meaning (SqlTables S)) where
  pub is_worked : (g : Ghosts S) (old : Connected) (handler : HandlerView (SqlTables S)) (left : Connection S) (outcome : Result (List ℕ) RunFault) → OpensAs g old handler
      → ActsFrom reads work_words Periodic tables handler left outcome → IsOpenedAndWorked reads g tables old left outcome ⊎ StaysUnopened g old left outcome
  is_worked g old handler left outcome opens works = inl (record { handler = handler; opens = opens; works = works })
