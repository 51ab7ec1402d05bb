-- When a step, or a list of arrivals, takes too much of nothing: the laws of takings, of new ids and of sound say so of it.
use Rattle.std.specs.Prelude.{ℕ, List, [], ◌∷◌, ◌++◌}
use Rattle.base_values.specs.declared.answer.Response.{Response}
use Rattle.base_values.specs.declared.draw.Draw.{Draw}
use Rattle.model_rows.specs.Lists.{State}
use Rattle.model_commands.specs.declared.replies.Reply.{Reply}
use Rattle.office_step.specs.Step.{step}
use Rattle.office_deliveries.specs.declared.arrival.Request.{Request}
use Rattle.office_deliveries.specs.declared.arrival.Request.TheVariants.{Write, WriteRefused, Read, ReadRefused}
use Rattle.office_deliveries.specs.Deliveries.{First, write_executed}
use Rattle.office_runs.specs.Runs.{Stepped}
use Rattle.office_runs.specs.Promises.{Each, NoneOver, StaysWithin, RaisesNothing, RunsItsEntries, GivesNewIds, LeavesSound}

-- a step that takes too much of no quota, as the laws of the office say it, a bulk call by its entries, which it runs; gives
-- new ids alone; and leaves the office sound
pub record TakesNothingTooMuch (s : Stepped) : Type 0 where
  pub none_over : Each NoneOver s
  pub within : Each StaysWithin s
  pub rest : Each RaisesNothing s
  pub entries : RunsItsEntries s
  pub ids : GivesNewIds s
  pub sound : LeavesSound s

-- the step of the office that an executed write is, if it is a command
abbrev pub step_of : ℕ → Draw → Request → State → List Stepped
step_of at draw (Write command) state = let made = step command at draw state in record { command = command; draw = draw; before = state; at = at; after = made.0; reply = made.1 } ∷ []
step_of at draw (WriteRefused response) state = []
step_of at draw (Read query) state = []
step_of at draw (ReadRefused response) state = []

-- the steps of the executed commands, one after another
abbrev pub steps : (Reply → Response) → State → List First → List Stepped
steps words state [] = []
steps words state (f ∷ fs) = step_of f.at f.arrival.draw f.arrival.request state ++ steps words (write_executed words f state).0 fs
