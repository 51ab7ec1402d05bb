-- Serving, as a list of arrivals and a history see it.
use Rattle.std.proofs.Common.{◌≡◌, ℕ, List, None, Result, Ok, Err, sym, subst}
use Rattle.base_values.specs.declared.answer.Answer.{Answer}
use Rattle.base_devices.specs.declared.device.Tick.{Tick}
use Rattle.office_deliveries.specs.Histories.{Event, Running}
use Rattle.web_http.specs.Messages.{Message}
use Rattle.web_cli.specs.declared.fault.RunFault.{RunFault}
use Rattle.web_handler.specs.Streams.{HandlerView, House, Meaning}
use Rattle.web_server.specs.Rounds.{AnswersCallers, Served}
use Rattle.web_connections.specs.Acts.{Between}
use Rattle.web_connections.specs.Connections.{Connections}
use Rattle.app_files.specs.Evening.{RunsSo}

-- who was served, however it ended
pub served_of : {D : Type 0} (Serves : D → Tick → Message → Answer → D → Type 0) (most : ℕ) (old new : Between D) (outcome : Result (Unit {0}) RunFault)
    → AnswersCallers Serves most old new None None outcome → Served Serves most old new None None
served_of Serves most old new (Ok u) served = served
served_of Serves most old new (Err fault) (served, ends) = served

-- whatever follows that hall follows the house, which ended so
pub answers_by : {D E : Type 0} (Serves : D → Tick → Message → Answer → D → Type 0) (Other : E → Tick → Message → Answer → E → Type 0) (most : ℕ) (old new : Between D) (seen left : Between E)
    (outcome : Result (Unit {0}) RunFault) (x : AnswersCallers Serves most old new None None outcome)
    → Connections Other (served_of Serves most old new outcome x).came seen left (served_of Serves most old new outcome x).all → AnswersCallers Other most seen left None None outcome
unfolding served_of
answers_by Serves Other most old new seen left (Ok u) served connections = record { came = served.came; within = served.within; all = served.all; connections = connections; begun = served.begun; reported = served.reported; among = served.among }
answers_by Serves Other most old new seen left (Err fault) (served, ends) connections = (record { came = served.came; within = served.within; all = served.all; connections = connections; begun = served.begun; reported = served.reported; among = served.among }, ends)

-- the same handler runs so
pub runs_as : {T : Type 0} (tables : Meaning T) (house : House) (begun : Running) (events : List Event) (handler other : HandlerView T) (r : Running) → other ≡ handler
    → RunsSo tables house begun events handler r → RunsSo tables house begun events other r
runs_as {T} tables house begun events handler other r same x = subst (λ (d : HandlerView T). RunsSo tables house begun events d r) (sym same) x
