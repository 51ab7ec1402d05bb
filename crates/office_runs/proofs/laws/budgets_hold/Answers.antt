use Rattle.office_runs.proofs.BudgetRuns.{budgets_all}
use Rattle.office_runs.proofs.laws.budgets_hold.Goals as goal

pub returns : goal.returns
returns c = budgets_all
