use Rattle.office_runs.proofs.Runs.{none_over_all}
use Rattle.office_runs.proofs.laws.none_over.Goals as goal

pub returns : goal.returns
returns c = none_over_all
