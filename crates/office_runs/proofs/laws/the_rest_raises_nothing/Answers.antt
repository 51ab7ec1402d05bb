use Rattle.office_runs.proofs.Refilled.{filled_released}
use Rattle.office_runs.proofs.Runs.{lowers_all}
use Rattle.office_runs.proofs.laws.the_rest_raises_nothing.Goals as goal

pub returns-clause-rest : goal.returns-clause-rest
returns-clause-rest c = lowers_all

pub returns-clause-again : goal.returns-clause-again
returns-clause-again c = filled_released
