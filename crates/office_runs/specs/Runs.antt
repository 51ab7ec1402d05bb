-- Runs of commands, and what holds of each step of a run.
use Rattle.std.specs.Prelude.{ℕ, is_some, nat_lt, List, [], ◌∷◌, length, if◌then◌else◌}
use Rattle.base_values.specs.Draws.{IsDraw}
use Rattle.base_values.specs.declared.draw.Draw.{Draw}
use Rattle.model_rows.specs.Lists.{State}
use Rattle.model_commands.specs.declared.carts.Entry.{Entry}
use Rattle.model_commands.specs.declared.carts.Entry.TheVariants.{New, Faulty}
use Rattle.model_commands.specs.declared.carts.Outcome.TheVariants as outcomes
use Rattle.model_commands.specs.declared.vouchers.NewVoucher.{NewVoucher}
use Rattle.model_commands.specs.declared.vouchers.Verdict.TheVariants as verdicts
use Rattle.decide_vouchers.specs.Imported.{namesake}
use Rattle.decide_orders.specs.Bulk.{most_entries}
use Rattle.model_commands.specs.Fit.{IsFit}
use Rattle.model_commands.specs.declared.requests.Command.{Command}
use Rattle.model_commands.specs.declared.requests.Command.TheVariants.{AddVoucher, ImportVouchers, AddCart, AddCarts}
use Rattle.model_commands.specs.declared.replies.Refusal.TheVariants as refusals
use Rattle.model_commands.specs.declared.replies.Reply.{Reply}
use Rattle.model_commands.specs.declared.replies.Shown.TheVariants as rows
use Rattle.office_step.specs.Step.{step, moment_at}

-- a command as it comes: with the clock's moment and a draw
pub record Arrival : Type 0 where
  pub clock : ℕ
  pub draw : Draw
  pub command : Command

-- what holds of every command that comes: what it asks is within its limits, and its draw is sixteen bytes
pub record IsFitArrival (arrival : Arrival) : Type 0 where
  pub command : IsFit arrival.command
  pub draw : IsDraw arrival.draw

-- a step of a run: the command and its draw, the office before it, its moment, the office after it, and the reply
pub record Stepped : Type 0 where
  pub command : Command
  pub draw : Draw
  pub before : State
  pub at : ℕ
  pub after : State
  pub reply : Reply

-- what a command makes of the office, at the moment that the clock and the office give it
abbrev pub office_stepped : Arrival → State → Stepped
office_stepped arrival state =
    let at = moment_at arrival.clock state in
    let made = step arrival.command at arrival.draw state in
    record { command = arrival.command; draw = arrival.draw; before = state; at = at; after = made.0; reply = made.1 }

-- the office before a step, at the step's moment
abbrev pub office_at : Stepped → State
office_at s = record s.before { moment = s.at }

-- the steps of a run, each from the office that the one before it left
abbrev pub trace : List Arrival → State → List Stepped
trace [] state = []
trace (arrival ∷ arrivals) state = office_stepped arrival state ∷ trace arrivals (office_stepped arrival state).after

-- the office after a run
abbrev pub after_run : List Arrival → State → State
after_run [] state = state
after_run (arrival ∷ arrivals) state = after_run arrivals (office_stepped arrival state).after

-- an entry of a bulk call as a command of its own
abbrev pub alone : ℕ → Draw → List Entry → List Arrival
alone clock draw [] = []
alone clock draw (New new ∷ more) = record { clock = clock; draw = draw; command = AddCart new } ∷ alone clock draw more
alone clock draw (Faulty fault ∷ more) = alone clock draw more

-- a row of an import as a command of its own
abbrev pub made_alone : ℕ → Draw → NewVoucher → Arrival
made_alone clock draw new = record { clock = clock; draw = draw; command = AddVoucher new }

-- the rows of an import as commands of their own, each after those before it; one whose code a voucher has asks nothing
abbrev pub import_trace : ℕ → Draw → List NewVoucher → State → List Stepped
import_trace clock draw [] state = []
import_trace clock draw (new ∷ more) state =
    if is_some (namesake new.code state.lists) then import_trace clock draw more state
    else (office_stepped (made_alone clock draw new) state ∷ import_trace clock draw more (office_stepped (made_alone clock draw new) state).after)

-- A step, or those that it consists of: a bulk call that isn't refused as a whole is its entries, each as a command of its
-- own, at the call's moment and with its draw, after those before it; a faulty one asks nothing. So an import is its rows.
abbrev pub steps_of : Command → Stepped → List Stepped
steps_of (AddCarts entries) s = if nat_lt most_entries (length entries) then s ∷ [] else trace (alone s.at s.draw entries) (office_at s)
steps_of (ImportVouchers vouchers) s = import_trace s.at s.draw vouchers (office_at s)
steps_of other s = s ∷ []
