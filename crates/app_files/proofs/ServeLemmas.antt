-- What serving a shop's database comes to.
use Rattle.std.proofs.Common.{◌≡◌, ◌∙◌, ◌⊎◌, inl, ℕ, List, [], Option, None, Result, Err, ap₂, refl, subst, arith}
use Rattle.sqlite_trees.specs.declared.store.Store.{Ghosts}
use Rattle.sqlite.specs.State.{State as Connected}
use Rattle.sqlite.specs.declared.connection.Connection.{Connection}
use Rattle.model_rows.specs.Lists.{State}
use Rattle.file_tables.specs.declared.sql.SqlTables.{SqlTables}
use Rattle.web_handler.specs.Streams.{HandlerView, Meaning, handler_with}
use Rattle.base_devices.specs.declared.device.Tick.{Tick}
use Rattle.web_http.specs.Written.{Page}
use Rattle.web_cli.specs.declared.fault.RunFault.{RunFault}
use Rattle.web_cli.specs.declared.fault.RunFault.TheVariants as faults
use Rattle.web_http.specs.Messages.{Message}
use Rattle.base_values.specs.declared.answer.Answer.{Answer}
use Rattle.web_connections.specs.Acts.{Between, between}
use Rattle.web_connections.specs.Connections.{Connections, history}
use Rattle.web_connections.proofs.HistoryLemmas.{history_opens}
use Rattle.app_files.specs.Served.{IsOpenedAndServed, IsSilent, LeadsFrom, OpensAs, StaysUnopened}

-- a hall into which nobody came
pub nobody_came : {D : Type 0} (Serves : D → Tick → Message → Answer → D → Type 0) (at : Between D) → Connections Serves 0 at at (history [] [] [])
nobody_came Serves at = (history_opens Serves at 0).connections

module _ {S : Type 0} (reads : Option Tick → Type 0) (tables : Meaning (SqlTables S)) (most : ℕ) where
  -- the handler of words that were made of an office's names is the office's
  pub leads_by_names : (it : SqlTables S) (handler : HandlerView (SqlTables S)) (organizer event said_organizer said_event : List ℕ) (state : State) (left : Connection S) (outcome : Result (Unit {0}) RunFault)
      → handler ≡ handler_with it said_organizer said_event state → said_organizer ≡ organizer → said_event ≡ event
      → LeadsFrom reads tables most handler left outcome → LeadsFrom reads tables most (handler_with it organizer event state) left outcome
  leads_by_names it handler organizer event said_organizer said_event state left outcome is names_organizer names_event =
      subst (λ (d : HandlerView (SqlTables S)). LeadsFrom reads tables most d left outcome) (is ∙ ap₂ (λ (a b : List ℕ). handler_with it a b state) names_organizer names_event)

  -- there was no memory for the words
  pub nobody_answered : (first : HandlerView (SqlTables S)) (left : Connection S) → left ≡ first.tables.connection → LeadsFrom reads tables most first left (Err faults.Memory)
  nobody_answered first left is = record { last = first; serving = (record { came = 0; within = omega arith; all = history [] [] []; connections = nobody_came _ (between None first); begun = []; reported = tt; among = refl }, refl); connection = is }

  pub is_served : (g : Ghosts S) (old : Connected) (before after : Page) (handler : HandlerView (SqlTables S)) (left : Connection S) (outcome : Result (Unit {0}) RunFault) → OpensAs g old handler
      → LeadsFrom reads tables most handler left outcome → IsOpenedAndServed reads g tables most old left outcome ⊎ (StaysUnopened g old left outcome × IsSilent before after)
  is_served g old before after handler left outcome opens leads = inl (record { handler = handler; opens = opens; leads = leads })
