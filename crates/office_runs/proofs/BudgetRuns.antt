-- In every run no more is spent of a voucher than its budget.
use Rattle.std.proofs.Common.{List, [], ◌∷◌}
use Rattle.std.specs.List.{AllByRecursion}
use Rattle.model_rows.specs.Lists.{State}
use Rattle.model_invariant.specs.Sound.{IsSound}
use Rattle.office_runs.specs.Runs.{Arrival, IsFitArrival, office_stepped, trace}
use Rattle.office_runs.specs.Promises.{KeepsBudgets}
use Rattle.office_runs.proofs.Runs.{sound_after}

pub budgets_all : (arrivals : List Arrival) (state : State) → AllByRecursion IsFitArrival arrivals → IsSound state → AllByRecursion KeepsBudgets (trace arrivals state)
budgets_all [] state fit sound = tt
budgets_all (arrival ∷ arrivals) state fit sound =
    let after = sound_after arrival state fit.0 sound in
    ((sound.budgets, after.budgets), budgets_all arrivals (office_stepped arrival state).after fit.1 after)
